-- Which sign the logarithm of a positive finite number has: the number is below 1, or above. Assumes nothing.
use Rattle.std.proofs.Common.{◌≡◌, ℕ, ◌+◌, ◌*◌, ◌/◌, ◌^◌, ◌<◌, ◌≤◌, Bool, true, false, cond, T, ltb, sym, refl, ap, ◌∙◌, le_of_lt, arith, pow_pos}
use lib.Ieee.{Float, nan, inf, fin, binary64, lt, eq, fits, of_bits, to_bits}
use lib.Ieee.Scale.{finite}
use Rattle.exact.specs.Fraction.{◌//◌, nat, ◌≈q◌}
use Rattle.exact.specs.FloatValue.{value}
use Rattle.exact.specs.Float64.{+0, +1}
use Rattle.exact.proofs.Computing.{computing}
use Rattle.exact.proofs.Constants.{constant_is, constant_finite}
use Rattle.exact.proofs.FractionLaws.{≈_sym, ≤_of_≈, ≤_trans}
use Rattle.exact.proofs.Comparisons.{nlt→≤, ≤→nlt}
use Rattle.exact.proofs.Tests.{clash, fails, is_false}
use Rattle.exact.proofs.PositivePatterns.{units_of}
use Rattle.series.proofs.Quotients.{◌⟫◌, frac_≈, frac_≤, cross_≤, frac_nat}
use Rattle.exponential.proofs.Ranges.{cond_yes, cond_then, cond_else}
use Rattle.logarithm.specs.Logarithm.{log_bits, log_of}
use Rattle.logarithm.specs.declared.Log.{Log}
use Rattle.logarithm.specs.declared.Log.TheVariants.{Undefined, BaseZero, BaseOne, Above, Below}
use Rattle.logarithm.proofs.Decoded.{Decoded, over, under, decoded}
use Rattle.logarithm.proofs.Enclosed.{range, value_of, not_one}

one_finite : T (finite +1)
unfolding computing
one_finite = constant_finite 0x3ff0_0000_0000_0000 (nat 1) tt

one_value : value +1 ≈q 1 // 1
unfolding computing
one_value = constant_is 0x3ff0_0000_0000_0000 (nat 1) tt ⟫ ≈_sym (frac_nat 1)

-- a number u / w against 1
module _ (x : Float) (f : T (finite x)) (u w : ℕ) (W : 0 < w) (e : value x ≈q u // w) where
  not_below_one : w ≤ u → lt x +1 ≡ false
  not_below_one h = is_false _ (≤→nlt x +1 f one_finite (≤_trans (≤_of_≈ one_value) (≤_trans (frac_≤ 1 u (pow_pos 0) W (omega arith)) (≤_of_≈ (≈_sym e)))))

  below_one : u < w → lt x +1 ≡ true
  below_one h = go (lt x +1) refl
    where
      go : (b : Bool) → lt x +1 ≡ b → lt x +1 ≡ true
      go true k = k
      go false k = let l = cross_≤ 1 u (pow_pos 0) W (≤_trans (≤_of_≈ (≈_sym one_value)) (≤_trans (nlt→≤ x +1 f one_finite (fails k)) (≤_of_≈ e))) in absurd (omega (arith, l, h))

abbrev is_below : Log → Bool
is_below (Below v) = true
is_below (Above v) = false
is_below Undefined = false
is_below BaseZero = false
is_below BaseOne = false

pub finite_between : (x : Float) → lt +0 x ≡ true → lt x (inf false) ≡ true → T (finite x)
unfolding lt of_bits
finite_between nan p q = clash (sym p)
finite_between (inf true) p q = clash (sym p)
finite_between (inf false) p q = clash (sym q)
finite_between (fin s m d) p q = tt

more : {u w : ℕ} → 0 < w → w * (2 ^ 53 + 1) ≤ u * 2 ^ 53 → w < u
more {u} {w} W h = omega arith

module _ (x : Float) (t : T (fits binary64 x)) (p : lt +0 x ≡ true) (q : lt x (inf false) ≡ true) (n : eq x +1 ≡ false) where
  abbrev b : ℕ
  b = to_bits binary64 x

  by_bits : (r : ℕ) → Decoded b → (s : Bool) → log_bits b ≡ cond s (Below r) (Above r) → log_bits b ≡ cond (lt x +1) (Below r) (Above r)
  by_bits r (over v u w e F h) true k = clash (sym (ap is_below (sym e ∙ k)))
  by_bits r (over v u w e F h) false k = k ∙ cond_else _ _ _ _ (not_below_one x (finite_between x p q) u w F.divisor (value_of x t p q ⟫ frac_≈ (units_of b) u (pow_pos 1074) F.divisor h) (le_of_lt (more F.divisor F.above_one))) refl
  by_bits r (under v u w e F U h) true k = k ∙ cond_yes _ _ _ (below_one x (finite_between x p q) w u U (value_of x t p q ⟫ frac_≈ (units_of b) w (pow_pos 1074) U h) (more F.divisor F.above_one))
  by_bits r (under v u w e F U h) false k = clash (ap is_below (sym e ∙ k))

  -- the exponent's field says the same of the sign as the comparison with 1
  pub with_sign : (r : ℕ) → log_bits (to_bits binary64 x) ≡ cond (ltb (to_bits binary64 x / 2 ^ 52) 1023) (Below r) (Above r) → log_of x ≡ cond (lt x +1) (Below r) (Above r)
  unfolding log_of
  with_sign r k = sym (cond_then _ _ _ _ p (cond_then _ _ _ _ q (cond_else _ _ _ _ n refl))) ∙ by_bits r (decoded b (range x t p q).0 (range x t p q).1 (not_one x t p q n)) (ltb (b / 2 ^ 52) 1023) k
