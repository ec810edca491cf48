-- The powers of a base whose exponent is at most 1 in size, by the exponent's digits. Assumes nothing.
use mathlib.Core.Path.{◌≡◌, refl, sym, ap, ◌∙◌}
use mathlib.Core.Bool.{Bool, true, false, cond, not}
use Prim.Native.Nat.{ℕ, zero, suc, ◌*◌, ◌^◌, ◌≤◌}
use native.Mathlib.Nat.{le_trans, le_of_eq, mul-one, mul-le-mul, mul-le-mul_right, mul_right_comm, div-le_of_le-mul, le_of_mul-le-mul_right}
use native.Mathlib.Omega.{arith}
use lib.Dec.{T, lit≤}
use lib.IntN.{ℤ}
use lib.Ieee.{Float, nan, inf, fin, binary64, fits, up, down, le, lt, neg, of_bits}
use lib.Ieee.Positive.{num, den, den_pos, positive, between, le→cross, le_trans_positive}
use borrow.Author.Tests.{le-ltb}
use Rattle.exact.specs.Float64.{◌⊘◌, ◌<f◌, +1}
use Rattle.exponential.specs.Mantissa.{hi}
use Rattle.exponential.specs.Exponential.{least, greatest, exp_fixed, fixed_of}
use Rattle.exponential.proofs.Cutting.{bounds}
use Rattle.exponential.proofs.Ranges.{cond_else}
use Rattle.logarithm.specs.declared.Log.{Log}
use Rattle.logarithm.specs.declared.Log.TheVariants.{Above, Below}
use Rattle.power.specs.Power.{four, power_of, product_of, pow_from, Fractional, Digits}
use Rattle.power.proofs.RaisedBySize.{P, Answer, plus, minus}

pub fractional_positive : (p : Float) → Fractional p → T (positive p)
unfolding of_bits
fractional_positive p h = between least p +1 tt tt h.at_least h.at_most

pub fractional_le_greatest : (p : Float) → Fractional p → T (le p greatest)
unfolding of_bits le lt
fractional_le_greatest p h = le_trans_positive p +1 greatest (fractional_positive p h) tt tt h.at_most tt

-- the whole part of p * 2^53, and eight zeros
pub digits_few : (p : Float) → T (fits binary64 p) → Fractional p → (r : ℕ) → r ≡ fixed_of p → r * 256 ≤ 2 ^ 61
unfolding of_bits
digits_few p f h r e =
    let t = fractional_positive p h in
    enough r
    (le_of_mul-le-mul_right {k = den p}
    (le_trans (bounds p f t (fractional_le_greatest p h) r e).1
    (le_trans (mul-le-mul_right (2 ^ 53) (le_trans (le_of_eq (sym (mul-one (num p)))) (le→cross p +1 t tt h.at_most)))
    (le_of_eq (mul_right_comm 1 (den p) (2 ^ 53)))))
    (den_pos p))
  where
    enough : (r : ℕ) → r ≤ 1 * 2 ^ 53 → r * 256 ≤ 2 ^ 61
    enough r h = omega arith

-- ---- the product is at most 700
pub product_small : (d v : ℕ) → d ≤ 2 ^ 61 → v ≤ 700 * 2 ^ 53 → hi d v ≤ 700 * 2 ^ 50
product_small d v h k = div-le_of_le-mul (2 ^ 64) (le_trans (mul-le-mul h k) (lit≤ tt))

in_range : (t : ℕ) (down : Bool) → t ≤ 700 * 2 ^ 50 → cond down (+1 ⊘ exp_fixed (8 * t)) (exp_fixed (8 * t)) ≡ power_of t down
unfolding power_of
in_range t down h = cond_else _ _ _ _ (le-ltb (700 * 2 ^ 50) t h) refl

-- ---- the sign of the exponent
module _ (v : ℕ) (below : Bool) where
  not_high : (m : ℕ) (e : ℤ) → Fractional (P m e) → (four <f P m e) ≡ false
  unfolding lt of_bits
  not_high m e h = le-ltb (4 * down e) (suc m * up e * 1) (few (suc m * up e) (down e) (le→cross (P m e) +1 (fractional_positive (P m e) h) tt h.at_most))
    where
      few : (n d : ℕ) → n * 1 ≤ 1 * d → n * 1 ≤ 4 * d
      few n d h = omega arith

  with_sign : (p : Float) → Fractional p → (Answer v below p ≡ power_of (product_of p v) below) × (Answer v below (neg p) ≡ power_of (product_of p v) (not below))
  unfolding neg
  with_sign p h = go p h (fractional_positive p h)
    where
      go : (p : Float) → Fractional p → T (positive p) → (Answer v below p ≡ power_of (product_of p v) below) × (Answer v below (neg p) ≡ power_of (product_of p v) (not below))
      go nan h t = absurd t
      go (inf s) h t = absurd t
      go (fin true m e) h t = absurd t
      go (fin false zero e) h t = absurd t
      go (fin false (suc m) e) h t = (plus v below m e ∙ sym (cond_else _ _ _ _ (not_high m e h) refl), minus v below m e ∙ sym (cond_else _ _ _ _ (not_high m e h) refl))

-- ---- the laws
module _ {d : ℕ} (v : ℕ) (p : Float) (h : Digits p d) (k : v ≤ 700 * 2 ^ 53) where
  abbrev base : Bool → Log
  base below = cond below (Below v) (Above v)

  by_size : (below : Bool) (q : Float) → pow_from (base below) q ≡ Answer v below q
  unfolding pow_from
  by_size true q = refl
  by_size false q = refl

  by_digits : (down : Bool) → power_of (product_of p v) down ≡ cond down (+1 ⊘ exp_fixed (8 * hi d v)) (exp_fixed (8 * hi d v))
  unfolding product_of
  by_digits down = ap (λ (n : ℕ). power_of (hi n v) down) (sym h.digits) ∙ sym (in_range (hi d v) down (product_small d v h.few k))

  pub to_fraction : (below : Bool) → pow_from (cond below (Below v) (Above v)) p ≡ cond below (+1 ⊘ exp_fixed (8 * hi d v)) (exp_fixed (8 * hi d v))
  to_fraction below = by_size below p ∙ (with_sign v below p h.fractional).0 ∙ by_digits below

  pub to_minus_fraction : (below : Bool) → pow_from (cond below (Below v) (Above v)) (neg p) ≡ cond (not below) (+1 ⊘ exp_fixed (8 * hi d v)) (exp_fixed (8 * hi d v))
  to_minus_fraction below = by_size below (neg p) ∙ (with_sign v below p h.fractional).1 ∙ by_digits (not below)
