-- ln of a positive normal number by its bits: the exponent's field tells the sign, and 1 needs no test. Assumes nothing.
use Rattle.std.proofs.Common.{◌≡◌, ℕ, ◌+◌, ◌-◌, ◌*◌, ◌/◌, ◌%◌, ◌^◌, ◌<◌, ◌≤◌, Bool, true, false, cond, not, ◌||◌, T, eqb, sym, refl, ap, ◌∙◌, le_trans, le_of_eq, lt_of_le_of_lt, lt_of_not-le, not-le_of_lt, le_of_mul-le-mul_right, arith, lit≤, eqb→eq, pow_pos, le-ltb, lt-ltb}
use native.Mathlib.Decide.{dec_le}
use lib.Ieee.{Float, nan, inf, fin, binary64, up, down, mul, round, of_int, neg, lt, eq, fits, is_nan, of_bits, to_bits}
use lib.Ieee.Fits.{and_l, and_r, down_pos}
use lib.Ieee.Exact.{HasValue}
use lib.Ieee.Back.{whole_unique}
use Rattle.exact.specs.Fraction.{◌//◌, ◌≤q◌, leqb}
use Rattle.exact.specs.FloatValue.{value}
use Rattle.exact.specs.Float64.{◌≤f◌, +0, +1}
use Rattle.exact.proofs.FractionLaws.{≤_of_≈, ≤_trans, lit_≤}
use Rattle.exact.proofs.Comparisons.{le→≤}
use Rattle.exact.proofs.Tests.{holds, clash}
use Rattle.exact.proofs.PositivePatterns.{units_of, units_small, above_no_nan}
use Rattle.series.proofs.Quotients.{cross_≤}
use Rattle.exponential.proofs.Ranges.{cond_yes, cond_then, cond_else}
use Rattle.logarithm.specs.FixedPoint.{ln_mant_of, twos_of, near_one}
use Rattle.logarithm.specs.Logarithm.{least_normal, log_above, log_below, log_bits, log_of, rounded_of, ln_from, ln_of}
use Rattle.logarithm.specs.declared.Log.TheVariants.{Undefined, BaseZero, BaseOne}
use Rattle.logarithm.proofs.Enclosed.{range, value_of}
use Rattle.logarithm.proofs.BelowOne.{finite_between}
use Rattle.logarithm.proofs.Accuracy.{above_zero, one_fits, least_finite}

-- the digits, and the size of the logarithm from 1 on and below 1
abbrev pub digits_of : ℕ → ℕ
digits_of b = (b % 2 ^ 52 + 2 ^ 52) * 1024

abbrev pub above_of : ℕ → ℕ
above_of b = twos_of (b / 2 ^ 52 - 1023) + ln_mant_of (digits_of b) / 2048

abbrev pub below_of : ℕ → ℕ
below_of b = twos_of (1023 - b / 2 ^ 52) - ln_mant_of (digits_of b) / 2048

-- ---- 1 itself
equal_one : (x : Float) → eq x +1 ≡ true → HasValue x false 1 1
unfolding eq of_bits
equal_one nan e = clash (sym e)
equal_one (inf s) e = clash (sym e)
equal_one (fin false m d) e = (refl, plain (m * up d) (down d) (eqb→eq (m * up d * 1) (1 * 1 * down d) (and_l (eqb (m * up d * 1) (1 * 1 * down d)) _ (holds e))))
  where
    plain : (a c : ℕ) → a * 1 ≡ 1 * 1 * c → a * 1 ≡ 1 * c
    plain a c e = omega arith
equal_one (fin true m d) e = absurd (never (m * up d) (down d) (down_pos d) (eqb→eq (m * up d * 1) (1 * 1 * down d) (and_l (eqb (m * up d * 1) (1 * 1 * down d)) _ (holds e))) (eqb→eq (m * up d * 1) 0 (and_r (eqb (m * up d * 1) (1 * 1 * down d)) (false || eqb (m * up d * 1) 0) (holds e))))
  where
    never : (a c : ℕ) → 0 < c → a * 1 ≡ 1 * 1 * c → a * 1 ≡ 0 → ⊥
    never a c C e f = omega arith

is_one : (x : Float) → T (fits binary64 x) → eq x +1 ≡ true → x ≡ +1
unfolding of_bits
is_one x f e = whole_unique binary64 x +1 false 1 f one_fits (equal_one x e) (refl, refl)

log_of_one : rounded_of (above_of (to_bits binary64 +1)) ≡ +0
unfolding ln_mant_of near_one to_bits of_bits of_int mul round
log_of_one = refl

field_of_one : to_bits binary64 +1 / 2 ^ 52 ≡ 1023
unfolding to_bits of_bits
field_of_one = refl

-- ---- a positive finite number
module _ (x : Float) (f : T (fits binary64 x)) (p : lt +0 x ≡ true) (q : lt x (inf false) ≡ true) where
  abbrev b : ℕ
  b = to_bits binary64 x

  picked : (t : Bool) → eq x +1 ≡ t → ln_from (cond t BaseOne (log_bits b)) ≡ ln_from (log_of x)
  unfolding log_of
  picked t e = ap (λ (s : Bool). ln_from (cond s BaseOne (log_bits b))) (sym e) ∙ ap ln_from (cond_then _ _ _ _ p (cond_then _ _ _ _ q refl))

  pub from_one_on : 1023 ≤ to_bits binary64 x / 2 ^ 52 → rounded_of (above_of (to_bits binary64 x)) ≡ ln_from (log_of x)
  unfolding log_bits log_above
  from_one_on h = by_test (eq x +1) refl
    where
      normal : (b : ℕ) → 1023 ≤ b / 2 ^ 52 → 2 ^ 52 ≤ b
      normal b h = omega arith

      by_test : (t : Bool) → eq x +1 ≡ t → rounded_of (above_of b) ≡ ln_from (log_of x)
      by_test true e = ap (λ (y : Float). rounded_of (above_of (to_bits binary64 y))) (is_one x f e) ∙ log_of_one ∙ picked true e
      by_test false e = ap ln_from (cond_else _ _ _ _ (le-ltb b (2 ^ 52) (normal b h)) (cond_else _ _ _ _ (le-ltb (b / 2 ^ 52) 1023 h) refl)) ∙ picked false e

  pub below_one : 2 ^ 52 ≤ to_bits binary64 x → to_bits binary64 x / 2 ^ 52 < 1023 → neg (rounded_of (below_of (to_bits binary64 x))) ≡ ln_from (log_of x)
  unfolding log_bits log_below
  below_one n h = by_test (eq x +1) refl
    where
      not_one : (e : ℕ) → e < 1023 → e ≡ 1023 → ⊥
      not_one e h k = omega arith

      by_test : (t : Bool) → eq x +1 ≡ t → neg (rounded_of (below_of b)) ≡ ln_from (log_of x)
      by_test true e = absurd (not_one (b / 2 ^ 52) h (ap (λ (y : Float). to_bits binary64 y / 2 ^ 52) (is_one x f e) ∙ field_of_one))
      by_test false e = ap ln_from (cond_else _ _ _ _ (le-ltb b (2 ^ 52) n) (cond_yes _ _ _ (lt-ltb (b / 2 ^ 52) 1023 h))) ∙ picked false e

-- ---- a normal one
least_is : 1 // 2 ^ 1022 ≤q value least_normal
unfolding of_bits value leqb ◌//◌
least_is = lit_≤ tt

module _ (x : Float) (f : T (fits binary64 x)) (h : (least_normal ≤f x) ≡ true) (q : lt x (inf false) ≡ true) where
  positive : lt +0 x ≡ true
  positive = above_zero x (holds h)

  pub normal_no_nan : T (not (is_nan x))
  unfolding of_bits
  normal_no_nan = above_no_nan x positive

  pub normal_range : (0 < to_bits binary64 x) × (to_bits binary64 x < 2047 * 2 ^ 52)
  normal_range = range x f positive q

  units_from : 2 ^ 52 ≤ units_of (to_bits binary64 x)
  units_from =
      le_of_mul-le-mul_right {k = 2 ^ 1022} (le_trans (lit≤ {m = 2 ^ 52 * 2 ^ 1022} {n = 1 * 2 ^ 1074} tt)
      (cross_≤ 1 (units_of (to_bits binary64 x)) (pow_pos 1022) (pow_pos 1074) (≤_trans least_is (≤_trans (le→≤ least_normal x least_finite (finite_between x positive q) (holds h)) (≤_of_≈ (value_of x f positive q)))))) (pow_pos 1022)

  bits_from : 2 ^ 52 ≤ to_bits binary64 x
  bits_from = either (dec_le (2 ^ 52) (to_bits binary64 x))
    where
      either : Dec (2 ^ 52 ≤ to_bits binary64 x) → 2 ^ 52 ≤ to_bits binary64 x
      either (yes g) = g
      either (no g) = absurd (not-le_of_lt (lt_of_le_of_lt (le_of_eq (units_small (to_bits binary64 x) (lt_of_not-le g))) (lt_of_not-le g)) units_from)

  pub ln_above : 1023 ≤ to_bits binary64 x / 2 ^ 52 → rounded_of (above_of (to_bits binary64 x)) ≡ ln_of x
  unfolding ln_of
  ln_above g = cond_then (least_normal ≤f x) (ln_from (log_of x)) nan _ h (from_one_on x f positive q g)

  pub ln_below : to_bits binary64 x / 2 ^ 52 < 1023 → neg (rounded_of (below_of (to_bits binary64 x))) ≡ ln_of x
  unfolding ln_of
  ln_below g = cond_then (least_normal ≤f x) (ln_from (log_of x)) nan _ h (below_one x f positive q bits_from g)

-- ---- an infinite one
each : (n p z : Bool) → nan ≡ cond n (ln_from (cond p Undefined (cond z BaseZero Undefined))) nan
each true true z = refl
each true false true = refl
each true false false = refl
each false p z = refl

pub ln_infinite : (x : Float) → lt x (inf false) ≡ false → nan ≡ ln_of x
unfolding ln_of log_of
ln_infinite x q = each (least_normal ≤f x) (lt +0 x) (eq x +0) ∙ ap (λ (t : Bool). cond (least_normal ≤f x) (ln_from (cond (lt +0 x) (cond t (cond (eq x +1) BaseOne (log_bits (to_bits binary64 x))) Undefined) (cond (eq x +0) BaseZero Undefined))) nan) (sym q)
