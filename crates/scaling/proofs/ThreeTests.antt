-- What a path through three tests says of the definition's `cond`.
use mathlib.Core.Path.{◌≡◌, ap}
use mathlib.Core.Bool.{Bool, true, false, ◌||◌, cond}
use lib.Ieee.{Float}
use Rattle.exact.specs.Float64.{◌≤f◌, +0}
use Rattle.temperature.proofs.Branches.{yes, no, or_second, or_neither}

module _ (t tnom vj x y : Float) where
  abbrev pub any : Bool
  any = (t ≤f +0) || (tnom ≤f +0) || (vj ≤f +0)

  pub first_of_3 : (t ≤f +0) ≡ true → x ≡ cond any x y
  first_of_3 e = yes x y (ap (λ (a : Bool). a || (tnom ≤f +0) || (vj ≤f +0)) e)

  pub second_of_3 : (tnom ≤f +0) ≡ true → x ≡ cond any x y
  second_of_3 e = yes x y (ap (λ (a : Bool). a || (vj ≤f +0)) (or_second (t ≤f +0) e))

  pub third_of_3 : (vj ≤f +0) ≡ true → x ≡ cond any x y
  third_of_3 e = yes x y (or_second ((t ≤f +0) || (tnom ≤f +0)) e)

  pub none_of_3 : (t ≤f +0) ≡ false → (tnom ≤f +0) ≡ false → (vj ≤f +0) ≡ false → y ≡ cond any x y
  none_of_3 e f g = no x y (or_neither (or_neither e f) g)
