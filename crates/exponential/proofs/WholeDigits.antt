-- The whole part of x * 2^53 by the bits of x: the digits, shifted to their place. Assumes nothing.
use Rattle.std.proofs.Common.{◌≡◌, ℕ, ◌+◌, ◌-◌, ◌*◌, ◌/◌, ◌%◌, ◌^◌, ◌<◌, ◌≤◌, true, false, not, T, ltb, pos, sym, refl, ap, ◌∙◌, subst, le_trans, le_of_eq, lt_of_lt_of_le, lt_of_le_of_lt, mul-le-mul_right, mod-lt, mul_assoc, mul_comm, mul-pos, one-mul, lt_of_not-le, zero-mul, mul-one, mul_right_comm, not-le_of_lt, le_of_mul-le-mul_right, le-add_left, arith, lit<, lit≤, ltb→lt, lt→ltb, pow_pos, pow_mono, pow-add, shl_lt, shr-shr}
use native.Mathlib.Nat.{div-eq_of_lt}
use native.Mathlib.Decide.{dec_le}
use lib.Pow.{shl-shr}
use lib.Ieee.{Float, nan, inf, fin, binary64, up, down, fits, is_nan, le, lt, to_bits, of_bits}
use lib.Ieee.Bits.{of_bits-to_bits, is_true}
use lib.Ieee.Fits.{up_pos}
use lib.Ieee.Exact.{HasValue}
use lib.Ieee.Nearest.{div_same}
use lib.Ieee.Positive.{num, den, positive, den_pos, value→cross, le→cross, cross→le, between}
use Rattle.exact.proofs.PositivePatterns.{units_of, units_small, units_large, units_of_pattern, bits_above}
use Rattle.exponential.specs.Exponential.{least, greatest, fixed_of}
use Rattle.exponential.proofs.Cutting.{whole_part}

-- what it says of x that it is no less than the least
pub not_below : (x : Float) → T (le least x) → T (le x greatest) → T (positive x)
unfolding of_bits
not_below x p q = between least x greatest tt tt p q

pub no_nan : (x : Float) → T (positive x) → T (not (is_nan x))
unfolding is_nan
no_nan nan p = absurd p
no_nan (inf s) p = tt
no_nan (fin s m e) p = tt

above_zero : (x : Float) → T (positive x) → lt (fin false 0 (pos 0)) x ≡ true
unfolding lt
above_zero nan p = absurd p
above_zero (inf s) p = absurd p
above_zero (fin true m e) p = absurd p
above_zero (fin false m e) p = is_true (ltb (0 * 1 * down e) (m * up e * 1)) (lt→ltb (0 * 1 * down e) (m * up e * 1) (some m (up e) (down e) (ltb→lt 0 m p) (up_pos e)))
  where
    some : (m u d : ℕ) → 0 < m → 0 < u → 0 * 1 * d < m * u * 1
    some m u d h k = lt_of_le_of_lt (le_of_eq (zero-mul d)) (lt_of_lt_of_le (mul-pos h k) (le_of_eq (sym (mul-one (m * u)))))

under_infinity : (x : Float) → T (positive x) → lt x (inf false) ≡ true
unfolding lt
under_infinity nan p = absurd p
under_infinity (inf s) p = absurd p
under_infinity (fin true m e) p = absurd p
under_infinity (fin false m e) p = refl

-- below the least
pub under_least : (x : Float) → T (positive x) → le least x ≡ false → num x * 2 ^ 53 < den x
unfolding of_bits
under_least x p g = either (dec_le (1 * den x) (num x * 2 ^ 53))
  where
    either : Dec (1 * den x ≤ num x * 2 ^ 53) → num x * 2 ^ 53 < den x
    either (yes h) = absurd (subst T g (cross→le least x tt p h))
    either (no n) = lt_of_lt_of_le (lt_of_not-le n) (le_of_eq (one-mul (den x)))

pub under_greatest : (x : Float) → T (positive x) → le least x ≡ false → T (le x greatest)
unfolding of_bits
under_greatest x p g = cross→le x greatest p tt (few (num x) (den x) (under_least x p g))
  where
    few : (n d : ℕ) → n * 2 ^ 53 < d → n * 1 ≤ 700 * d
    few n d h = omega arith

-- a number in units of 2^-1074
join : (j : ℕ) → j ≤ 1074 → j + (1074 - j) ≡ 1074
join j h = omega arith

shifted_down : (q j : ℕ) → j ≤ 1074 → q / 2 ^ (1074 - j) ≡ q * 2 ^ j / 2 ^ 1074
shifted_down q j h = ap (λ (k : ℕ). k / 2 ^ (1074 - j)) (sym (shl-shr q j)) ∙ shr-shr (q * 2 ^ j) j (1074 - j) ∙ ap (λ (k : ℕ). q * 2 ^ j / 2 ^ k) (join j h)

with_lead : (t : ℕ) → t < 2 ^ 52 → t + 2 ^ 52 < 2 ^ 53
with_lead t h = omega arith

-- a small exponent is a small number
pub units_lt : (b n : ℕ) → 1 ≤ n → b / 2 ^ 52 < n → units_of b < 2 ^ (51 + n)
units_lt b n k h = either (dec_le (2 ^ 52) b)
  where
    few : (b : ℕ) → 2 ^ 52 ≤ b → b / 2 ^ 52 < n → 53 + (b / 2 ^ 52 - 1) ≤ 51 + n
    few b g h = omega arith

    some : (n : ℕ) → 1 ≤ n → 52 ≤ 51 + n
    some n h = omega arith

    either : Dec (2 ^ 52 ≤ b) → units_of b < 2 ^ (51 + n)
    either (yes g) = lt_of_le_of_lt (le_of_eq (units_large b g)) (lt_of_lt_of_le (shl_lt 53 (b / 2 ^ 52 - 1) (with_lead (b % 2 ^ 52) (mod-lt b (pow_pos 52)))) (pow_mono (few b g h)))
    either (no f) = lt_of_le_of_lt (le_of_eq (units_small b (lt_of_not-le f))) (lt_of_lt_of_le (lt_of_not-le f) (pow_mono (some n k)))

-- a large one is a large number
units_ge : (b : ℕ) → 1033 ≤ b / 2 ^ 52 → 2 ^ 1084 ≤ units_of b
units_ge b h = le_trans (le_trans (pow_mono (many (b / 2 ^ 52) h)) (le_of_eq (pow-add 2 52 (b / 2 ^ 52 - 1)))) (le_trans (mul-le-mul_right (2 ^ (b / 2 ^ 52 - 1)) (le-add_left (2 ^ 52) (b % 2 ^ 52))) (le_of_eq (sym (units_large b (normal b h)))))
  where
    many : (e : ℕ) → 1033 ≤ e → 1084 ≤ 52 + (e - 1)
    many e h = omega arith

    normal : (b : ℕ) → 1033 ≤ b / 2 ^ 52 → 2 ^ 52 ≤ b
    normal b h = omega arith

module _ (x : Float) (f : T (fits binary64 x)) (p : T (positive x)) (q : T (le x greatest)) where
  abbrev b : ℕ
  b = to_bits binary64 x

  abbrev e : ℕ
  e = b / 2 ^ 52

  cross : num x * 2 ^ 1074 ≡ units_of b * den x
  cross = value→cross x (units_of b) (2 ^ 1074) (subst (λ (y : Float). HasValue y false (units_of b) (2 ^ 1074)) (of_bits-to_bits binary64 x f) (units_of_pattern b (bits_above x f (above_zero x p) (under_infinity x p)).1))

  -- the whole part in those units
  in_units : fixed_of x ≡ units_of b * 2 ^ 53 / 2 ^ 1074
  in_units = whole_part x f p q ∙ div_same (num x * 2 ^ 53) (den x) (units_of b * 2 ^ 53) (2 ^ 1074) (den_pos x) (pow_pos 1074) (mul_right_comm (num x) (2 ^ 53) (2 ^ 1074) ∙ ap (λ (z : ℕ). z * 2 ^ 53) cross ∙ mul_right_comm (units_of b) (den x) (2 ^ 53))

  -- x is at most 700
  pub exponent_le : e ≤ 1032
  unfolding of_bits
  exponent_le = either (dec_le e 1032)
    where
      most : units_of b ≤ 700 * 2 ^ 1074
      most = le_of_mul-le-mul_right {k = den x} (le_trans (le_of_eq (sym cross)) (le_trans (mul-le-mul_right (2 ^ 1074) (le_trans (le_of_eq (sym (mul-one (num x)))) (le→cross x greatest p tt q))) (le_of_eq (mul_right_comm 700 (den x) (2 ^ 1074))))) (den_pos x)

      either : Dec (e ≤ 1032) → e ≤ 1032
      either (yes h) = h
      either (no g) = absurd (not-le_of_lt (lt_of_le_of_lt most (lit< {m = 700 * 2 ^ 1074} {n = 2 ^ 1084} tt)) (units_ge b (lt_of_not-le g)))

  -- below the least there is no whole part
  pub none : le least x ≡ false → 0 ≡ fixed_of x
  none g = sym (whole_part x f p q ∙ div-eq_of_lt (under_least x p g))

  module _ (r : T (le least x)) where
    pub exponent_ge : 970 ≤ e
    unfolding of_bits
    exponent_ge = either (dec_le 970 e)
      where
        some : 2 ^ 1021 ≤ units_of b
        some = le_of_mul-le-mul_right {k = 2 ^ 53} (le_of_mul-le-mul_right {k = den x} (le_trans (le_of_eq (mul_comm (2 ^ 1074) (den x) ∙ ap (λ (z : ℕ). z * 2 ^ 1074) (sym (one-mul (den x))))) (le_trans (mul-le-mul_right (2 ^ 1074) (le→cross least x tt p r)) (le_of_eq (mul_right_comm (num x) (2 ^ 53) (2 ^ 1074) ∙ ap (λ (z : ℕ). z * 2 ^ 53) cross ∙ mul_right_comm (units_of b) (den x) (2 ^ 53))))) (den_pos x)) (pow_pos 53)

        either : Dec (970 ≤ e) → 970 ≤ e
        either (yes h) = h
        either (no g) = absurd (not-le_of_lt (units_lt b 970 (lit≤ tt) (lt_of_not-le g)) some)

    pub by_digits : (b % 2 ^ 52 + 2 ^ 52) * 2048 / 2 ^ (1033 - e) ≡ fixed_of x
    by_digits =
        let d = b % 2 ^ 52 + 2 ^ 52 in
        ap (λ (k : ℕ). d * 2048 / 2 ^ k) (place e exponent_ge exponent_le)
        ∙ shifted_down (d * 2048) (e + 41) (near e exponent_le)
        ∙ ap (λ (z : ℕ). z / 2 ^ 1074) (sort d ∙ ap (λ (z : ℕ). z * 2 ^ 53) (sym (units_large b (normal b exponent_ge))))
        ∙ sym in_units
      where
        place : (e : ℕ) → 970 ≤ e → e ≤ 1032 → 1033 - e ≡ 1074 - (e + 41)
        place e h g = omega arith

        near : (e : ℕ) → e ≤ 1032 → e + 41 ≤ 1074
        near e h = omega arith

        normal : (b : ℕ) → 970 ≤ b / 2 ^ 52 → 2 ^ 52 ≤ b
        normal b h = omega arith

        next : (e : ℕ) → 970 ≤ e → 11 + (e + 41) ≡ e - 1 + 53
        next e h = omega arith

        sort : (d : ℕ) → d * 2048 * 2 ^ (e + 41) ≡ d * 2 ^ (e - 1) * 2 ^ 53
        sort d = mul_assoc d (2 ^ 11) (2 ^ (e + 41)) ∙ ap (λ (z : ℕ). d * z) (sym (pow-add 2 11 (e + 41)) ∙ ap (λ (k : ℕ). 2 ^ k) (next e exponent_ge) ∙ pow-add 2 (e - 1) 53) ∙ sym (mul_assoc d (2 ^ (e - 1)) (2 ^ 53))
