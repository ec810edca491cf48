-- A junction without capacitance: two parts of which each is zero.
use mathlib.Core.Path.{◌≡◌, refl, sym, ◌∙◌}
use mathlib.Core.Bool.{Bool, true, cond}
use lib.Ieee.{Float, add, of_bits}
use Rattle.exact.specs.Float64.{◌⊕◌, +0}

zero_sum : +0 ≡ +0 ⊕ +0
unfolding add of_bits
zero_sum = refl

pub both_zero : (a b : Bool) (x y : Float) → a ≡ true → b ≡ true → +0 ≡ cond a +0 x ⊕ cond b +0 y
both_zero a b x y e f = zero_sum ∙ sym (λ i. cond (e i) +0 x ⊕ cond (f i) +0 y)
