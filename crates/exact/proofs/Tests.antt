-- A test as a branch of the code leaves it, `b ≡ true` or `b ≡ false`, and as the comparisons' laws take it, `T b` or `T (not b)`; and what a `cond` is in each branch.
use mathlib.Core.Path.{◌≡◌, refl, sym, subst}
use mathlib.Core.Bool.{Bool, true, false, not, cond}
use lib.Dec.{T}

pub holds : {b : Bool} → b ≡ true → T b
holds e = subst (λ (b : Bool). T b) (sym e) tt

pub fails : {b : Bool} → b ≡ false → T (not b)
fails e = subst (λ (b : Bool). T (not b)) (sym e) tt

pub is_true : (b : Bool) → T b → b ≡ true
is_true true t = refl
is_true false t = absurd t

pub is_false : (b : Bool) → T (not b) → b ≡ false
is_false true t = absurd t
is_false false t = refl

pub cond_yes : {A : Type 0} {b : Bool} (x y : A) → b ≡ true → x ≡ cond b x y
cond_yes x y e = subst (λ (b : Bool). x ≡ cond b x y) (sym e) refl

pub cond_no : {A : Type 0} {b : Bool} (x y : A) → b ≡ false → y ≡ cond b x y
cond_no x y e = subst (λ (b : Bool). y ≡ cond b x y) (sym e) refl

-- a test does not both hold and fail
pub clash : {A : Type 0} → true ≡ false → A
clash e = absurd (subst T e tt)
