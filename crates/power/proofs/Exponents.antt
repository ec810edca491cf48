-- What the tests of an exponent say of it. Assumes nothing.
use mathlib.Core.Path.{◌≡◌, sym}
use mathlib.Core.Bool.{true, false}
use Prim.Native.Nat.{ℕ, ◌^◌, ◌≤◌}
use native.Mathlib.Nat.{le_trans, le_of_eq, mul_right_comm, mul-one, mul-le-mul_right, le_of_mul-le-mul_right}
use lib.Dec.{T}
use lib.Ieee.{Float, binary64, fits, lt, le, neg, of_bits, to_unsigned}
use lib.Ieee.Positive.{num, den, positive, den_pos, le→cross, above_of_le, between, le_trans_positive}
use Rattle.exact.specs.Float64.{◌⊗◌, +0}
use Rattle.exponential.specs.Exponential.{least, greatest, unit}
use Rattle.exponential.proofs.Ranges.{not_above, from_zero, to_zero}
use Rattle.exponential.proofs.Cutting.{bounds}
use Rattle.power.specs.Power.{four, minus_four}

-- above 0 and not above 4
pub above : (x : Float) → lt +0 x ≡ true → lt four x ≡ false → T (positive x) × T (le x four)
unfolding of_bits
above = from_zero _ _ tt

-- below 0 and not below -4
pub below : (x : Float) → lt x +0 ≡ true → lt x minus_four ≡ false → T (positive (neg x)) × T (le (neg x) four)
unfolding of_bits
below = to_zero _ _ tt

-- from 2^-53 on and not above 4
pub at_most_four : (x : Float) → T (le least x) → lt four x ≡ false → T (le x four)
unfolding of_bits
at_most_four x p f = (not_above _ _ tt x (above_of_le least x tt p) f).1

pub not_below_least : (x : Float) → T (le least x) → T (le x four) → T (positive x)
unfolding of_bits
not_below_least x p q = between least x four tt tt p q

pub four_le_greatest : (x : Float) → T (positive x) → T (le x four) → T (le x greatest)
unfolding of_bits le lt
four_le_greatest x p q = le_trans_positive x four greatest p tt tt q tt

-- the whole part of p * 2^53
pub fixed_le : (x : Float) → T (fits binary64 x) → T (positive x) → T (le x four) → (r : ℕ) → r ≡ to_unsigned 64 (x ⊗ unit) → r ≤ 2 ^ 55
unfolding of_bits
fixed_le x f p q r e =
    le_of_mul-le-mul_right {k = den x}
    (le_trans (bounds x f p (four_le_greatest x p q) r e).1
    (le_trans (mul-le-mul_right (2 ^ 53) (le_trans (le_of_eq (sym (mul-one (num x)))) (le→cross x four p tt q)))
    (le_of_eq (mul_right_comm 4 (den x) (2 ^ 53)))))
    (den_pos x)
