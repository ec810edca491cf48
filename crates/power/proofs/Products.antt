-- The product of an exponent and a logarithm in fixed point, within 2^-43. Assumes nothing.
use mathlib.Core.Path.{◌≡◌, refl}
use Prim.Native.Nat.{ℕ, ◌+◌, ◌*◌, ◌^◌, ◌≤◌}
use native.Mathlib.Nat.{le_trans, le_of_eq, le_of_lt, mul-pos, mul-le-mul_right, div-mul-le_self, lt-div-mul-add}
use native.Mathlib.Omega.{arith}
use lib.Dec.{T}
use lib.Pow.{pow_pos}
use lib.Ieee.{Float, binary64, fits, le}
use lib.Ieee.Positive.{num, den, positive, den_pos, own_value}
use Rattle.exact.specs.Fraction.{ℚ, ◌//◌, nat, ◌+q◌, ◌*q◌, ◌≤q◌, ◌≈q◌, leqb}
use Rattle.exact.specs.FloatValue.{value}
use Rattle.exact.proofs.FractionLaws.{≈_sym, ≤_of_≈, ≤_refl, ≤_trans, *_comm, *_mono, +_mono, lit_≤}
use Rattle.exact.proofs.Rounding.{frac_nonneg}
use Rattle.series.proofs.Quotients.{◌⟫◌, frac_≤, frac_*, frac_+}
use Rattle.exponential.specs.Exponential.{fixed_of}
use Rattle.exponential.proofs.Cutting.{bounds}
use Rattle.exponential.proofs.FixedPoint.{value_is}
use Rattle.logarithm.proofs.Enclosure.{fixed}
use Rattle.power.specs.Power.{four, product_of}
use Rattle.power.proofs.Exponents.{four_le_greatest}

low_cross : (t F v P Q : ℕ) → t * Q ≤ F * 256 * v → 8 * t * (P * Q) ≤ F * (v * 2048) * P
low_cross t F v P Q h = le_trans (le_of_eq (left t P Q)) (le_trans (mul-le-mul_right (8 * P) h) (le_of_eq (right F v P)))
  where
    left : (t P Q : ℕ) → 8 * t * (P * Q) ≡ t * Q * (8 * P)
    left t P Q = omega arith

    right : (F v P : ℕ) → F * 256 * v * (8 * P) ≡ F * (v * 2048) * P
    right F v P = omega arith

high_cross : (t F v P Q : ℕ) → F * 256 * v ≤ t * Q + Q → v * 2048 ≤ 760 * Q → (F + 1) * (v * 2048) * P ≤ (8 * t + 1024) * (P * Q)
high_cross t F v P Q h k = le_trans (le_of_eq (left F v P)) (le_trans (mul-le-mul_right P (sum (F * 256 * v) (t * Q) Q (v * 2048) h k)) (le_of_eq (right t P Q)))
  where
    left : (F v P : ℕ) → (F + 1) * (v * 2048) * P ≡ (F * 256 * v * 8 + v * 2048) * P
    left F v P = omega arith

    sum : (a b Q c : ℕ) → a ≤ b + Q → c ≤ 760 * Q → a * 8 + c ≤ b * 8 + 1024 * Q
    sum a b Q c h k = omega arith

    right : (t P Q : ℕ) → (t * Q * 8 + 1024 * Q) * P ≡ (8 * t + 1024) * (P * Q)
    right t P Q = omega arith

-- the fixed-point product as a fraction
abbrev pub scaled : ℕ → ℚ
scaled t = (8 * t) // 2 ^ 53

one_more : 1024 // 2 ^ 53 ≤q 1 // 2 ^ 43
unfolding leqb ◌//◌
one_more = lit_≤ tt

module _ (p : Float) (f : T (fits binary64 p)) (a : T (positive p)) (l : T (le p four)) (v : ℕ) (h : v * 2048 ≤ 760 * 2 ^ 64) where
  abbrev F : ℕ
  F = fixed_of p

  abbrev t : ℕ
  t = product_of p v

  p_is : value p ≈q num p // den p
  p_is = value_is p (num p) (den p) (den_pos p) (own_value p a)

  cut : (F ≤ 700 * 2 ^ 53) × (F * den p ≤ num p * 2 ^ 53) × (num p * 2 ^ 53 ≤ (F + 1) * den p)
  cut = bounds p f a (four_le_greatest p a l) F refl

  from : F // 2 ^ 53 ≤q value p
  from = ≤_trans (frac_≤ F (num p) (pow_pos 53) (den_pos p) cut.1) (≤_of_≈ (≈_sym p_is))

  to : value p ≤q (F + 1) // 2 ^ 53
  to = ≤_trans (≤_of_≈ p_is) (frac_≤ (num p) (F + 1) (den_pos p) (pow_pos 53) cut.2)

  L_nonneg : nat 0 ≤q fixed v
  L_nonneg = frac_nonneg (v * 2048) (2 ^ 64)

  t_low : t * 2 ^ 64 ≤ F * 256 * v
  unfolding product_of
  t_low = div-mul-le_self (F * 256 * v) (2 ^ 64)

  t_high : F * 256 * v ≤ t * 2 ^ 64 + 2 ^ 64
  unfolding product_of
  t_high = le_of_lt (lt-div-mul-add {a = F * 256 * v} {b = 2 ^ 64} (pow_pos 64))

  pub product_low : scaled t ≤q value p *q fixed v
  product_low =
      ≤_trans (frac_≤ (8 * t) (F * (v * 2048)) (pow_pos 53) (mul-pos (pow_pos 53) (pow_pos 64)) (low_cross t F v (2 ^ 53) (2 ^ 64) t_low))
      (≤_trans (≤_of_≈ (≈_sym (frac_* F (v * 2048) (pow_pos 53) (pow_pos 64)))) (≤_trans (≤_of_≈ (*_comm (F // 2 ^ 53) (fixed v))) (≤_trans (*_mono L_nonneg from) (≤_of_≈ (*_comm (fixed v) (value p))))))

  pub product_high : value p *q fixed v ≤q scaled t +q 1 // 2 ^ 43
  product_high =
      ≤_trans (≤_of_≈ (*_comm (value p) (fixed v))) (≤_trans (*_mono L_nonneg to) (≤_trans (≤_of_≈ (*_comm (fixed v) ((F + 1) // 2 ^ 53) ⟫ frac_* (F + 1) (v * 2048) (pow_pos 53) (pow_pos 64)))
      (≤_trans (frac_≤ ((F + 1) * (v * 2048)) (8 * t + 1024) (mul-pos (pow_pos 53) (pow_pos 64)) (pow_pos 53) (high_cross t F v (2 ^ 53) (2 ^ 64) t_high h))
      (≤_trans (≤_of_≈ (≈_sym (frac_+ (8 * t) 1024 (pow_pos 53)))) (+_mono (≤_refl (scaled t)) one_more)))))
