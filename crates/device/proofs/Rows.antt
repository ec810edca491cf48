-- What a call's outcome says of its rows, and how rows that are tested in turn decide it.
use mathlib.Core.Path.{◌≡◌, refl, ap, sym, ◌∙◌}
use mathlib.Core.Bool.{Bool, true, false, cond, not, ◌&&◌, false≢true}
use mathlib.Core.List.{List, [], ◌∷◌, ◌++◌}
use Prim.Native.Nat.{ℕ}
use native.Mathlib.Omega.{arith}
use lib.Dec.{T, eqb}
use borrow.Author.Tests.{eq-eqb}
use Rattle.device.specs.Refusals.{Row, unless, row_number, done, refused, values_or, ◌when◌}
use Rattle.device.proofs.Branches.{cond_no}

-- no row applies
abbrev pub NoneOf : List Row → Type 0
NoneOf [] = Unit
NoneOf ((n when b) ∷ rows) = (b ≡ false) × NoneOf rows

pub refused_not_done : {A : Type 0} {n : ℕ} {a : A} → refused n ≡ done a → ⊥
refused_not_done e = let z : ◌≡◌ {A = ℕ} 0 1 = cc in omega arith

-- where a call is accepted, no row applies
pub passed : {A : Type 0} (rows : List Row) {x y : A} → unless rows refused (done x) ≡ done y → NoneOf rows × (y ≡ x)
passed [] {x} e = (tt, sym (ap (values_or x) e))
passed ((n when true) ∷ rows) e = absurd (refused_not_done e)
passed ((n when false) ∷ rows) e = let u = passed rows e in ((refl, u.0), u.1)

-- where no row applies, it is accepted
pub none_applies : {A : Type 0} (rows : List Row) (refuse : ℕ → A) (x : A) → NoneOf rows → unless rows refuse x ≡ x
none_applies [] refuse x h = refl
none_applies ((n when b) ∷ rows) refuse x h = sym (cond_no _ _ h.0) ∙ none_applies rows refuse x h.1

-- where none of the first rows applies, the later decide
pub later_decide : {A : Type 0} (rows later : List Row) (refuse : ℕ → A) (x : A) → NoneOf rows → unless later refuse x ≡ unless (rows ++ later) refuse x
later_decide [] later refuse x h = refl
later_decide ((n when b) ∷ rows) later refuse x h = later_decide rows later refuse x h.1 ∙ cond_no _ _ h.0

-- a refusal by the first rows is a refusal by all
pub refused_first : {A B : Type 0} (rows later : List Row) {n : ℕ} (y : B) (refuse : ℕ → A) (x : A) → unless rows refused (done y) ≡ refused n → refuse n ≡ unless (rows ++ later) refuse x
refused_first [] later y refuse x e = absurd (refused_not_done (sym e))
refused_first ((k when true) ∷ rows) later {n} y refuse x e = let same : n ≡ k = cc in ap refuse same
refused_first ((k when false) ∷ rows) later y refuse x e = refused_first rows later y refuse x e

-- the outcome by the number of the first row that applies, where no row has the number 0
abbrev pub numbered : List Row → Bool
numbered [] = true
numbered ((n when b) ∷ rows) = not (eqb n 0) && numbered rows

both : (a b : Bool) → T (not a && b) → (a ≡ false) × T b
both true b t = absurd t
both false b t = (refl, t)

pub by_number : {A : Type 0} (rows : List Row) (refuse : ℕ → A) (x : A) → T (numbered rows) → unless rows refuse x ≡ cond (eqb (row_number rows) 0) x (refuse (row_number rows))
by_number [] refuse x t = refl
by_number ((n when true) ∷ rows) refuse x t = cond_no _ _ (both (eqb n 0) (numbered rows) t).0
by_number ((n when false) ∷ rows) refuse x t = by_number rows refuse x (both (eqb n 0) (numbered rows) t).1

-- and where that number is 0, no row applies
pub number_0 : (rows : List Row) → T (numbered rows) → row_number rows ≡ 0 → NoneOf rows
number_0 [] t e = tt
number_0 ((n when true) ∷ rows) t e = absurd (false≢true (sym (both (eqb n 0) (numbered rows) t).0 ∙ eq-eqb n 0 e))
number_0 ((n when false) ∷ rows) t e = (refl, number_0 rows (both (eqb n 0) (numbered rows) t).1 e)

-- what holds of every refusal and of the accepted answer holds of the answer
pub unless_either : {A : Type 0} (P : A → Type 0) (rows : List Row) (refuse : ℕ → A) (made : A) → ((n : ℕ) → P (refuse n)) → P made → P (unless rows refuse made)
unless_either P [] refuse made no_change p = p
unless_either P ((n when true) ∷ rows) refuse made no_change p = no_change n
unless_either P ((n when false) ∷ rows) refuse made no_change p = unless_either P rows refuse made no_change p

-- the same of two answers under the same rows
pub unless_both : {A : Type 0} (P : A → A → Type 0) (rows : List Row) (refuse : ℕ → A) (made other : A) → ((n : ℕ) → P (refuse n) (refuse n)) → P made other → P (unless rows refuse made) (unless rows refuse other)
unless_both P [] refuse made other no_change p = p
unless_both P ((n when true) ∷ rows) refuse made other no_change p = no_change n
unless_both P ((n when false) ∷ rows) refuse made other no_change p = unless_both P rows refuse made other no_change p
