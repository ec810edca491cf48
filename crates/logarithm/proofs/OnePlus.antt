-- 1 + a for a that is not negative: not below 1, so its bits say the logarithm without a test of the sign. Assumes nothing.
use Rattle.std.proofs.Common.{◌≡◌, ℕ, ◌*◌, ◌/◌, ◌^◌, ◌<◌, ◌≤◌, true, false, not, T, [], ◌∷◌, sym, lt_of_not-le, not-le_of_lt, arith, lit≤, pow_pos}
use native.Mathlib.Decide.{dec_le}
use lib.Ieee.{Float, nan, inf, fin, binary64, add, lt, le, eq, fits, is_nan, of_bits, to_bits}
use lib.Ieee.Fits.{add-fits}
use lib.Ieee.Scale.{finite}
use Rattle.exact.specs.Fraction.{nat, ◌≤q◌}
use Rattle.exact.specs.FloatValue.{value}
use Rattle.exact.specs.Float64.{◌⊕◌, ◌≤f◌, +0, +1}
use Rattle.exact.proofs.FractionLaws.{≈_sym, ≤_of_≈, ≤_trans}
use Rattle.exact.proofs.FractionProver.{qv, ##, ◌⊞◌, linq, ◌⊑◌by◌}
use Rattle.exact.proofs.Rounding.{add_rounded}
use Rattle.exact.proofs.Representable.{fits_representable}
use Rattle.exact.proofs.RoundingOrder.{rounded_≥}
use Rattle.exact.proofs.Tests.{holds, clash, is_true}
use Rattle.exact.proofs.PositivePatterns.{units_of}
use Rattle.series.proofs.Quotients.{cross_≤, frac_nat}
use Rattle.exponential.proofs.Ranges.{cond_then}
use Rattle.exponential.proofs.WholeDigits.{units_lt}
use Rattle.exponential.proofs.Accuracy.{one_value}
use Rattle.logarithm.specs.Logarithm.{least_normal, rounded_of, ln_of, ln1p_of}
use Rattle.logarithm.proofs.Enclosed.{value_of}
use Rattle.logarithm.proofs.Accuracy.{above_zero, not_negative, one_finite, one_fits, sum_finite, sum_normal}
use Rattle.logarithm.proofs.ByBits.{above_of, normal_no_nan, normal_range, ln_above, ln_infinite}

finite_of : (a : Float) → (+0 ≤f a) ≡ true → lt (+1 ⊕ a) (inf false) ≡ true → T (finite a)
unfolding le lt eq add of_bits
finite_of nan h q = clash (sym h)
finite_of (inf true) h q = clash (sym h)
finite_of (inf false) h q = clash (sym q)
finite_of (fin s m e) h q = tt

module _ (a : Float) (f : T (fits binary64 a)) (h : (+0 ≤f a) ≡ true) (q : lt (+1 ⊕ a) (inf false) ≡ true) where
  abbrev x : Float
  x = +1 ⊕ a

  a_finite : T (finite a)
  a_finite = finite_of a h q

  x_finite : T (finite x)
  x_finite = sum_finite a f a_finite (holds h)

  x_fits : T (fits binary64 x)
  x_fits = add-fits binary64 +1 a

  not_below : value +1 ≤q value x
  not_below = rounded_≥ (add_rounded binary64 +1 a one_finite a_finite) x_finite (fits_representable binary64 +1 one_finite one_fits)
      (linq (value +1 ∷ value a ∷ []) ((## 0 ⊑ qv 1 by 1) ∷ []) 0 (qv 0) (qv 0 ⊞ qv 1) tt (not_negative a a_finite (holds h)))

  one_or_more : nat 1 ≤q value x
  one_or_more = ≤_trans (≤_of_≈ (≈_sym one_value)) not_below

  x_normal : (least_normal ≤f x) ≡ true
  x_normal = is_true (least_normal ≤f x) (sum_normal a f a_finite (holds h))

  -- ---- the bits
  abbrev b : ℕ
  b = to_bits binary64 x

  pub no_nan : T (not (is_nan (+1 ⊕ a)))
  no_nan = normal_no_nan x x_fits x_normal q

  pub bits_range : (0 < to_bits binary64 (+1 ⊕ a)) × (to_bits binary64 (+1 ⊕ a) < 2047 * 2 ^ 52)
  bits_range = normal_range x x_fits x_normal q

  units_from : 2 ^ 1074 ≤ units_of b
  units_from = plain _ _ (cross_≤ 1 (units_of b) (pow_pos 0) (pow_pos 1074) (≤_trans (≤_of_≈ (frac_nat 1)) (≤_trans one_or_more (≤_of_≈ (value_of x x_fits (above_zero x (holds x_normal)) q)))))
    where
      plain : (u w : ℕ) → 1 * w ≤ u * 1 → w ≤ u
      plain u w h = omega arith

  pub field_from : 1023 ≤ to_bits binary64 (+1 ⊕ a) / 2 ^ 52
  field_from = either (dec_le 1023 (b / 2 ^ 52))
    where
      either : Dec (1023 ≤ b / 2 ^ 52) → 1023 ≤ b / 2 ^ 52
      either (yes g) = g
      either (no g) = absurd (not-le_of_lt (units_lt b 1023 (lit≤ tt) (lt_of_not-le g)) units_from)

  pub ln_1p_by_bits : rounded_of (above_of (to_bits binary64 (+1 ⊕ a))) ≡ ln1p_of a
  unfolding ln1p_of
  ln_1p_by_bits = cond_then (+0 ≤f a) (ln_of x) nan _ h (ln_above x x_fits x_normal q field_from)

pub no_log : (a : Float) → (+0 ≤f a) ≡ true → lt (+1 ⊕ a) (inf false) ≡ false → nan ≡ ln1p_of a
unfolding ln1p_of
no_log a h q = cond_then _ _ _ _ h (ln_infinite (+1 ⊕ a) q)
