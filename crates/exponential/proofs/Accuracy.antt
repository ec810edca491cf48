-- What document 01 says of exp: within 2^-45 of E from -700 to 700, and the special cases. Assumes nothing.
use Rattle.std.proofs.Common.{◌≡◌, ℕ, zero, suc, ◌+◌, ◌*◌, ◌^◌, ◌<◌, ◌≤◌, Bool, true, false, T, ltb, [], ◌∷◌, ℤ, sym, refl, ap, subst, zero-le, zero-lt-suc, mul-pos, zero-mul, arith, lt→ltb, le-ltb, lt-ltb}
use lib.Ieee.{Float, nan, inf, fin, binary64, fits, lt, eq, neg, up, down, of_bits, level}
use lib.Ieee.Fits.{up_pos, neg-fits}
use lib.Ieee.Bits.{is_true}
use lib.Ieee.Scale.{finite}
use lib.Ieee.Positive.{cross→le}
use Rattle.exact.specs.Fraction.{ℚ, ◌//◌, nat, negq, ◌*q◌, absq, ◌≤q◌, ◌≈q◌, Within}
use Rattle.exact.specs.FloatValue.{value}
use Rattle.exact.specs.Float64.{◌⊘◌, +0, +1}
use Rattle.exact.proofs.FractionLaws.{≈_refl, ≈_sym, ≤_trans, *_mono}
use Rattle.exact.proofs.FractionProver.{qv, ##, ◌÷◌, ◌⊠◌, leq, linq, ◌⊑◌by◌}
use Rattle.exact.proofs.Constants.{value_+1}
pub use Rattle.exact.proofs.Constants.{value_+1 as one_value}
use Rattle.exact.proofs.Closeness.{le_abs, neg_le_abs, within_mono, within_refl, within_≈}
use Rattle.series.specs.Series.{E, Enough}
use Rattle.series.proofs.Quotients.{◌⟫◌}
use Rattle.series.proofs.Order.{E_cong, E_zero, E_nonneg}
use Rattle.exponential.specs.Exponential.{exp_of, exp_above, exp_fixed, fixed_of, greatest}
use Rattle.exponential.specs.Accuracy.{parts, Close, SpecialCases}
use Rattle.exponential.proofs.Ranges.{cond_yes, cond_else}
use Rattle.exponential.proofs.Cutting.{fixed_bounds}
use Rattle.exponential.proofs.FixedPoint.{fixed_finite, fixed_close}
use Rattle.exponential.proofs.Reciprocal.{fixed_inverse_finite, fixed_inverse_close}

-- ---- the definition by its tests
module _ (x : Float) (a : lt greatest x ≡ false) (b : lt x (neg greatest) ≡ false) where
  tested_above : lt +0 x ≡ true → exp_of x ≡ exp_above x
  unfolding exp_of
  tested_above c = sym (cond_else _ _ _ _ a (cond_else _ _ _ _ b (cond_yes _ _ _ c)))

  tested_below : lt +0 x ≡ false → lt x +0 ≡ true → exp_of x ≡ +1 ⊘ exp_above (neg x)
  unfolding exp_of
  tested_below c d = sym (cond_else _ _ _ _ a (cond_else _ _ _ _ b (cond_else _ _ _ _ c (cond_yes _ _ _ d))))

  tested_zero : lt +0 x ≡ false → lt x +0 ≡ false → eq x +0 ≡ true → exp_of x ≡ +1
  unfolding exp_of
  tested_zero c d e = sym (cond_else _ _ _ _ a (cond_else _ _ _ _ b (cond_else _ _ _ _ c (cond_else _ _ _ _ d (cond_yes _ _ _ e)))))

-- ---- the tests at a finite float of size at most 700
module _ (m : ℕ) (e : ℤ) (h : m * up e * 1 ≤ 700 * down e) where
  not_beyond : (s : Bool) → lt greatest (fin s m e) ≡ false
  unfolding lt of_bits
  not_beyond true = refl
  not_beyond false = le-ltb (700 * down e) (m * up e * 1) h

  not_under : (s : Bool) → lt (fin s m e) (neg greatest) ≡ false
  unfolding lt of_bits neg
  not_under true = le-ltb (700 * down e) (m * up e * 1) h
  not_under false = refl

module _ (m : ℕ) (e : ℤ) where
  size_pos : 0 < suc m * up e * 1
  size_pos = mul-pos (mul-pos (zero-lt-suc m) (up_pos e)) (zero-lt-suc 0)

  above_zero : lt +0 (fin false (suc m) e) ≡ true
  unfolding lt of_bits
  above_zero = lt-ltb (0 * 1 * down e) (suc m * up e * 1) (subst (λ (z : ℕ). z < suc m * up e * 1) (sym (zero-mul (down e))) size_pos)

  not_above_zero : lt +0 (fin true (suc m) e) ≡ false
  unfolding lt of_bits
  not_above_zero = refl

  below_zero : lt (fin true (suc m) e) +0 ≡ true
  unfolding lt of_bits
  below_zero = lt-ltb 0 (suc m * up e * 1 + 0 * 1 * down e) (omega (arith, size_pos))

  pub exp_is_above : suc m * up e * 1 ≤ 700 * down e → exp_of (fin false (suc m) e) ≡ exp_above (fin false (suc m) e)
  exp_is_above h = tested_above (fin false (suc m) e) (not_beyond (suc m) e h false) (not_under (suc m) e h false) above_zero

  pub exp_is_below : suc m * up e * 1 ≤ 700 * down e → exp_of (fin true (suc m) e) ≡ +1 ⊘ exp_above (neg (fin true (suc m) e))
  exp_is_below h = tested_below (fin true (suc m) e) (not_beyond (suc m) e h true) (not_under (suc m) e h true) not_above_zero below_zero

module _ (e : ℤ) where
  left : 0 * up e * 1 ≡ 0
  left = ap (λ (z : ℕ). z * 1) (zero-mul (up e))

  right : 0 * 1 * down e ≡ 0
  right = zero-mul (down e)

  small : 0 * up e * 1 ≤ 700 * down e
  small = subst (λ (z : ℕ). z ≤ 700 * down e) (sym left) zero-le

  not_above : (s : Bool) → lt +0 (fin s 0 e) ≡ false
  unfolding lt of_bits
  not_above true = refl
  not_above false = λ i. ltb (right i) (left i)

  not_below : (s : Bool) → lt (fin s 0 e) +0 ≡ false
  unfolding lt of_bits
  not_below true = λ i. ltb 0 (left i + right i)
  not_below false = λ i. ltb (left i) (right i)

  equal : (s : Bool) → eq (fin s 0 e) +0 ≡ true
  unfolding eq of_bits
  equal true = λ i. level true (left i) false (right i)
  equal false = λ i. level false (left i) false (right i)

  pub exp_at_zero : (s : Bool) → exp_of (fin s 0 e) ≡ +1
  exp_at_zero s = tested_zero (fin s 0 e) (not_beyond 0 e small s) (not_under 0 e small s) (not_above s) (not_below s) (equal s)

-- ---- the special cases
-- below -700 and above 700
not_both : (x : Float) → T (lt x (neg greatest)) → lt greatest x ≡ false
unfolding lt of_bits neg
not_both nan h = refl
not_both (inf true) h = refl
not_both (inf false) h = absurd h
not_both (fin true m e) h = refl
not_both (fin false m e) h = absurd h

exp_below_700 : (x : Float) → T (lt x (neg greatest)) → exp_of x ≡ +0
unfolding exp_of
exp_below_700 x h = sym (cond_else _ _ _ _ (not_both x h) (cond_yes _ _ _ (is_true (lt x (neg greatest)) h)))

exp_above_700 : (x : Float) → T (lt greatest x) → exp_of x ≡ inf false
unfolding exp_of
exp_above_700 x h = sym (cond_yes _ _ _ (is_true (lt greatest x) h))

exp_nan : exp_of nan ≡ nan
unfolding exp_of lt eq of_bits
exp_nan = refl

pub exp_special_cases : SpecialCases
exp_special_cases = record { above = exp_above_700; below = exp_below_700; zero = λ s e. exp_at_zero e s; not_a_number = exp_nan }

-- ---- within 2^-45 of E
nil_value : (s : Bool) (e : ℤ) → value (fin s 0 e) ≈q nat 0
unfolding value nat
nil_value true e = record { eq = omega arith }
nil_value false e = record { eq = omega arith }

close_at : (x r : Float) → exp_of x ≡ r → T (finite r) → ((N : ℕ) → Enough N → Within (value r) (E N (value x)) (1 // parts *q E N (value x))) → Close x
close_at x r e t w = record {
  is_finite = subst (λ (y : Float). T (finite y)) (sym e) t;
  within = λ N n. subst (λ (y : Float). Within (value y) (E N (value x)) (1 // parts *q E N (value x))) (sym e) (w N n);
}

pub exp_close : (x : Float) → T (fits binary64 x) → T (finite x) → absq (value x) ≤q nat 700 → Close x
unfolding value nat of_bits neg negq exp_above
exp_close nan f t h = absurd t
exp_close (inf s) f t h = absurd t
exp_close (fin s zero e) f t h = close_at (fin s zero e) +1 (exp_at_zero e s) tt (λ N n. at_zero N)
  where
    at_zero : (N : ℕ) → Within (value +1) (E N (value (fin s 0 e))) (1 // parts *q E N (value (fin s 0 e)))
    at_zero N =
        within_mono (within_≈ (≈_refl (value +1)) (value_+1 ⟫ ≈_sym (E_cong N (nil_value s e) ⟫ E_zero N)) (within_refl (value +1)))
        (≤_trans (leq [] (## 0) (1 ÷ parts ⊠ ## 0) tt) (*_mono (leq [] (## 0) (1 ÷ parts) tt) (E_nonneg N (value (fin s 0 e)))))
exp_close (fin false (suc m) e) f t h =
    let l : suc m * up e * 1 ≤ 700 * down e = let k = (≤_trans (le_abs (value (fin false (suc m) e))) h).le in omega arith in
    let x = fin false (suc m) e in
    let p = lt→ltb 0 (suc m) (zero-lt-suc m) in
    let b = fixed_bounds x f p (cross→le x greatest p tt l) in
    close_at x (exp_fixed (fixed_of x)) (exp_is_above m e l) (fixed_finite (fixed_of x) b.0) (λ N n. within_mono (fixed_close (fixed_of x) b.0 N n b.1 b.2) (wider (E N (value x)) (E_nonneg N (value x))))
  where
    wider : (e : ℚ) → nat 0 ≤q e → 1 // 2 ^ 47 *q e ≤q 1 // parts *q e
    wider e E₀ = linq (e ∷ []) ((## 0 ⊑ qv 0 by 3) ∷ []) 140737488355327 (1 ÷ 2 ^ 47 ⊠ qv 0) (1 ÷ parts ⊠ qv 0) tt E₀
exp_close (fin true (suc m) e) f t h =
    let l : suc m * up e * 1 ≤ 700 * down e = let k = (≤_trans (neg_le_abs (value (fin true (suc m) e))) h).le in omega arith in
    let x = fin true (suc m) e in
    let y = fin false (suc m) e in
    let p = lt→ltb 0 (suc m) (zero-lt-suc m) in
    let b = fixed_bounds y (neg-fits binary64 x f) p (cross→le y greatest p tt l) in
    close_at x (+1 ⊘ exp_fixed (fixed_of y)) (exp_is_below m e l) (fixed_inverse_finite (fixed_of y) b.0) (λ N n. fixed_inverse_close (fixed_of y) b.0 N n b.1 b.2)
