-- A float above zero and at most 700, times 2^53, cut to a whole number. Assumes nothing.
use Rattle.std.proofs.Common.{◌≡◌, ℕ, zero, suc, ◌+◌, ◌-◌, ◌*◌, ◌/◌, ◌%◌, ◌^◌, ◌<◌, ◌≤◌, true, false, ◌&&◌, T, eqb, ltb, leb, ℤ, pos, negsuc, sym, refl, ap, ◌∙◌, subst, le_trans, le_of_eq, lt_of_le_of_lt, le_of_lt, mul-le-mul_right, zero-lt-suc, mul_assoc, mul_comm, add-mul, mul-pos, one-mul, lt_of_not-le, mul-one, sub-add_cancel, mul_right_comm, not-le_of_lt, div-mul-le_self, le_of_mul-le-mul_right, arith, lit<, lit≤, ltb→lt, leb→le, pow_pos, pow-add}
use native.Mathlib.Nat.{div-le_of_le-mul, lt-div-mul-add, min-eq_left}
use native.Mathlib.Decide.{dec_le}
use lib.Pow.{pow-lt}
use lib.Ieee.{Float, nan, inf, fin, binary64, up, down, fits, le, mul, round, to_unsigned, of_bits}
use lib.Ieee.Fits.{and_l, and_r}
use lib.Ieee.Exact.{HasValue, round_exact}
use lib.Ieee.Nearest.{div_same}
use lib.Ieee.Positive.{num, den, positive, den_pos, own_value, mul_at, values_of_le}
use Rattle.exponential.specs.Exponential.{greatest, unit, fixed_of}
use Rattle.exact.specs.Fraction.{◌//◌, ◌≤q◌}
use Rattle.exact.specs.FloatValue.{value}
use Rattle.exact.proofs.FractionLaws.{≈_sym, ≤_of_≈, ≤_trans}
use Rattle.series.proofs.Quotients.{frac_≤}
use Rattle.exponential.proofs.FixedPoint.{value_is}

-- what `fits` says of the exponent: down e is at most 2 ^ 1074
low_enough : (m : ℕ) (e : ℤ) → T (fits binary64 (fin false (suc m) e)) → (suc m < 2 ^ 53) × (down e ≤ 2 ^ 1074)
unfolding fits
low_enough m e t =
    let a = eqb (suc m % 2) 1 in
    let b = ltb (suc m) (2 ^ 53) in
    let c = leb (down e) (2 ^ 1074) in
    let d = ltb (suc m * up e) (2 ^ 1024 * down e) in
    let t1 = and_l (a && b && c) d t in
    (ltb→lt (suc m) (2 ^ 53) (and_r a b (and_l (a && b) c t1)), leb→le (down e) (2 ^ 1074) (and_r (a && b) c t1))

-- the power of two in a value, in units of the smallest value times 2 ^ -53
shift_of : (e : ℤ) → down e ≤ 2 ^ 1074 → (j : ℕ) × (up e * 2 ^ 1127 ≡ 2 ^ j * down e)
shift_of (pos k) h = (k + 1127, sym (pow-add 2 k 1127) ∙ sym (mul-one (2 ^ (k + 1127))))
shift_of (negsuc k) h = (1127 - suc k, one-mul (2 ^ 1127) ∙ ap (λ (i : ℕ). 2 ^ i) (sym (sub-add_cancel (fits_in k (either (dec_le (suc k) 1074))))) ∙ pow-add 2 (1127 - suc k) (suc k))
  where
    fits_in : (k : ℕ) → suc k ≤ 1074 → suc k ≤ 1127
    fits_in k h = omega arith

    either : Dec (suc k ≤ 1074) → suc k ≤ 1074
    either (yes g) = g
    either (no f) = absurd (not-le_of_lt (pow-lt (lt_of_not-le f)) h)

down_pos : (e : ℤ) → 0 < down e
down_pos (pos k) = zero-lt-suc 0
down_pos (negsuc k) = pow_pos (suc k)

bounded : (n d y : ℕ) → 0 < d → n * 1 ≤ 700 * d → n * 2 ^ 1127 ≡ y * d → y < 2 ^ 2098
bounded n d y h v e = lt_of_le_of_lt (le_of_mul-le-mul_right {k = d} (le_trans (le_of_eq (sym e)) (le_trans (mul-le-mul_right (2 ^ 1127) (le_trans (le_of_eq (sym (mul-one n))) v)) (le_of_eq (mul_right_comm 700 d (2 ^ 1127))))) h) (lit< {m = 700 * 2 ^ 1127} {n = 2 ^ 2098} tt)

module _ (x : Float) (f : T (fits binary64 x)) (p : T (positive x)) (q : T (le x greatest)) where
  value_le : num x * 1 ≤ 700 * den x
  unfolding of_bits
  value_le = values_of_le x greatest (num x) (den x) 700 1 p tt (own_value x p) (refl, refl) q

  product : mul binary64 x unit ≡ round binary64 false (num x * 2 ^ 53) (den x * 1)
  unfolding of_bits
  product = mul_at binary64 x unit (num x) (den x) (2 ^ 53) 1 p tt (den_pos x) (lit< tt) (own_value x p) (refl, refl)

  -- what the product is: exactly that
  exactly : HasValue (round binary64 false (num x * 2 ^ 53) (den x * 1)) false (num x * 2 ^ 53) (den x * 1)
  exactly = go x f p value_le
    where
      go : (x : Float) → T (fits binary64 x) → T (positive x) → num x * 1 ≤ 700 * den x → HasValue (round binary64 false (num x * 2 ^ 53) (den x * 1)) false (num x * 2 ^ 53) (den x * 1)
      go nan f p v = absurd p
      go (inf s) f p v = absurd p
      go (fin true m e) f p v = absurd p
      go (fin false zero e) f p v = absurd p
      go (fin false (suc m) e) f p v =
          let l = low_enough m e f in
          let j = shift_of e l.1 in
          let eq : suc m * up e * 2 ^ 53 * 2 ^ 1074 ≡ suc m * 2 ^ j.0 * (down e * 1) =
          mul_assoc (suc m * up e) (2 ^ 53) (2 ^ 1074) ∙ mul_assoc (suc m) (up e) (2 ^ 1127) ∙ ap (λ (z : ℕ). suc m * z) j.1 ∙ sym (mul_assoc (suc m) (2 ^ j.0) (down e)) ∙ ap (λ (z : ℕ). suc m * 2 ^ j.0 * z) (sym (mul-one (down e))) in
          round_exact binary64 false (suc m * up e * 2 ^ 53) (down e * 1) (suc m) j.0 (mul-pos (down_pos e) (lit< tt)) l.0 (bounded (suc m * up e) (down e) (suc m * 2 ^ j.0) (down_pos e) v (sym (mul_assoc (suc m) (2 ^ j.0) (down e) ∙ ap (λ (z : ℕ). suc m * z) (sym j.1) ∙ sym (mul_assoc (suc m) (up e) (2 ^ 1127))))) eq

  quotient_700 : num x * 2 ^ 53 / den x ≤ 700 * 2 ^ 53
  quotient_700 = div-le_of_le-mul (den x) {m = num x * 2 ^ 53} {n = 700 * 2 ^ 53} (le_trans (mul-le-mul_right (2 ^ 53) (le_trans (le_of_eq (sym (mul-one (num x)))) value_le)) (le_of_eq (turn (den x))))
    where
      turn : (d : ℕ) → 700 * d * 2 ^ 53 ≡ d * (700 * 2 ^ 53)
      turn d = ap (λ (z : ℕ). z * 2 ^ 53) (mul_comm 700 d) ∙ mul_assoc d 700 (2 ^ 53)

  quotient_le : num x * 2 ^ 53 / den x ≤ 2 ^ 64 - 1
  quotient_le = le_trans quotient_700 (lit≤ {m = 700 * 2 ^ 53} {n = 2 ^ 64 - 1} tt)

  -- the whole part
  cut : (y : Float) → HasValue y false (num x * 2 ^ 53) (den x * 1) → to_unsigned 64 y ≡ num x * 2 ^ 53 / den x
  unfolding to_unsigned
  cut nan v = absurd v
  cut (inf s) v = absurd v
  cut (fin true m e) v = absurd (subst T v.0 tt)
  cut (fin false m e) v =
      let eq : m * up e / down e ≡ num x * 2 ^ 53 / den x = div_same (m * up e) (down e) (num x * 2 ^ 53) (den x) (down_pos e) (den_pos x) (ap (λ (z : ℕ). m * up e * z) (sym (mul-one (den x))) ∙ v.1) in
      min-eq_left (le_trans (le_of_eq eq) quotient_le) ∙ eq

  pub whole_part : to_unsigned 64 (mul binary64 x unit) ≡ num x * 2 ^ 53 / den x
  whole_part = cut (mul binary64 x unit) (subst (λ (y : Float). HasValue y false (num x * 2 ^ 53) (den x * 1)) (sym product) exactly)

  -- the number in hand, and the bounds on the argument that the mathematics takes
  pub bounds : (r : ℕ) → r ≡ to_unsigned 64 (mul binary64 x unit) → (r ≤ 700 * 2 ^ 53) × (r * den x ≤ num x * 2 ^ 53) × (num x * 2 ^ 53 ≤ (r + 1) * den x)
  bounds r e = subst (λ (z : ℕ). (z ≤ 700 * 2 ^ 53) × (z * den x ≤ num x * 2 ^ 53) × (num x * 2 ^ 53 ≤ (z + 1) * den x)) (sym (e ∙ whole_part)) (quotient_700, div-mul-le_self (num x * 2 ^ 53) (den x), le_trans (le_of_lt (lt-div-mul-add {a = num x * 2 ^ 53} {b = den x} (den_pos x))) (le_of_eq (sym (add-mul (num x * 2 ^ 53 / den x) 1 (den x) ∙ ap (λ (z : ℕ). num x * 2 ^ 53 / den x * den x + z) (one-mul (den x))))))

-- ---- in exact values
pub fixed_bounds : (x : Float) → T (fits binary64 x) → T (positive x) → T (le x greatest) → (fixed_of x ≤ 700 * 2 ^ 53) × (fixed_of x // 2 ^ 53 ≤q value x) × (value x ≤q (fixed_of x + 1) // 2 ^ 53)
fixed_bounds x f p q =
    let b = bounds x f p q (fixed_of x) refl in
    let e = value_is x (num x) (den x) (den_pos x) (own_value x p) in (
      b.0,
      ≤_trans (frac_≤ (fixed_of x) (num x) (pow_pos 53) (den_pos x) b.1) (≤_of_≈ (≈_sym e)),
      ≤_trans (≤_of_≈ e) (frac_≤ (num x) (fixed_of x + 1) (den_pos x) (pow_pos 53) b.2),
    )
