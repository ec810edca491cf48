-- How a test that was made picks the case of a definition.
use mathlib.Core.Path.{◌≡◌, sym, ◌∙◌}
use mathlib.Core.Bool.{Bool, true, false, cond, ◌&&◌, ◌||◌}

pub cond_yes : {A : Type 0} {b : Bool} (x y : A) → b ≡ true → x ≡ cond b x y
cond_yes x y t = rw t

pub cond_no : {A : Type 0} {b : Bool} (x y : A) → b ≡ false → y ≡ cond b x y
cond_no x y t = rw t

pub and_yes : {a : Bool} (b : Bool) → a ≡ true → b ≡ (a && b)
and_yes b t = rw t

pub and_no : {a : Bool} (b : Bool) → a ≡ false → false ≡ (a && b)
and_no b t = rw t

pub or_yes : {a : Bool} (b : Bool) → a ≡ true → true ≡ (a || b)
or_yes b t = rw t

pub or_no : {a : Bool} (b : Bool) → a ≡ false → b ≡ (a || b)
or_no b t = rw t

-- a test's outcome, said of the definition that the tested value equals
pub tested : {A : Type 0} {r x v : A} → r ≡ x → r ≡ v → x ≡ v
tested e t = sym e ∙ t
