-- How large exp is: for the layers above. Assumes nothing.
use Rattle.std.proofs.Common.{◌≡◌, ℕ, zero, suc, ◌+◌, ◌*◌, ◌^◌, ◌≤◌, Bool, true, false, T, [], ◌∷◌, ℤ, sym, refl, ◌∙◌, subst, zero-lt-suc, mul-pos, one-mul, arith, lit≤, lt→ltb, pow_pos, ltb-false}
use native.Mathlib.Nat.{pow-succ'}
use lib.Ieee.{Float, nan, inf, fin, binary64, fits, lt, neg, up, down, of_bits}
use lib.Ieee.Bits.{of_bits-fits}
use lib.Ieee.Fits.{cond-fits, nan-fits, inf-fits, div-fits, up_pos, neg-fits}
use lib.Ieee.Scale.{finite}
use lib.Ieee.Positive.{cross→le}
use Rattle.exact.specs.Fraction.{ℚ, ◌//◌, nat, negq, ◌*q◌, absq, ◌≤q◌, ◌≈q◌}
use Rattle.exact.specs.FloatValue.{value}
use Rattle.exact.specs.Float64.{◌⊘◌, ◌<f◌, ◌=f◌, +0, +1}
use Rattle.exact.proofs.FractionLaws.{≈_refl, ≈_sym, *_cong, nat_*, ≤_of_≈, ≤_trans, *_mono, nat_cancel}
use Rattle.exact.proofs.FractionProver.{qv, ##, ◌÷◌, ◌⊟◌, ◌⊠◌, ⊝, leq, linq, ◌⊑◌by◌, nat_≤, nat_≡}
use Rattle.exact.proofs.Constants.{value_+0, value_+1}
use Rattle.exact.proofs.Closeness.{le_abs, neg_le_abs}
use Rattle.exact.proofs.Rounding.{frac_nonneg}
use Rattle.series.specs.Series.{E}
use Rattle.series.proofs.Quotients.{◌⟫◌, frac_≈, frac_*, frac_nat}
use Rattle.series.proofs.Order.{E_nonneg}
use Rattle.series.proofs.Sizes.{E_at_most, E_at_least, E_at_most_2^185, E_at_least_2^_185}
use Rattle.exponential.specs.Exponential.{exp_of, exp_above, exp_fixed, fixed_of, greatest}
use Rattle.exponential.proofs.Cutting.{fixed_bounds}
use Rattle.exponential.proofs.FixedPoint.{fixed_at_least}
use Rattle.exponential.proofs.Reciprocal.{fixed_inverse_at_most}
use Rattle.exponential.proofs.Accuracy.{exp_close, exp_special_cases, exp_is_above, exp_at_zero, exp_is_below}

-- an f64
above_fits : (x : Float) → T (fits binary64 (exp_above x))
unfolding exp_above exp_fixed
above_fits x = of_bits-fits binary64 _

pub exp_fits : (x : Float) → T (fits binary64 (exp_of x))
unfolding exp_of
exp_fits x =
    cond-fits binary64 (greatest <f x) (inf false) _ (inf-fits binary64 false)
    (cond-fits binary64 (x <f neg greatest) +0 _ (of_bits-fits binary64 0)
    (cond-fits binary64 (+0 <f x) (exp_above x) _ (above_fits x)
    (cond-fits binary64 (x <f +0) (+1 ⊘ exp_above (neg x)) _ (div-fits binary64 +1 (exp_above (neg x)))
    (cond-fits binary64 (x =f +0) +1 nan (of_bits-fits binary64 0x3ff0_0000_0000_0000) (nan-fits binary64)))))

-- twice a power of two, and half of one
double : (k : ℕ) → nat 2 *q nat (2 ^ k) ≈q nat (2 ^ suc k)
double k = ≈_sym (nat_* 2 (2 ^ k)) ⟫ nat_≡ (sym (pow-succ' 2 k))

half : (k : ℕ) → nat 2 *q (1 // 2 ^ suc k) ≈q 1 // 2 ^ k
half k =
    *_cong (≈_sym (frac_nat 2)) (≈_refl (1 // 2 ^ suc k)) ⟫ frac_* 2 1 (zero-lt-suc 0) (pow_pos (suc k))
    ⟫ frac_≈ (2 * 1) 1 (mul-pos (zero-lt-suc 0) (pow_pos (suc k))) (pow_pos k) (sym (one-mul (1 * 2 ^ suc k) ∙ one-mul (2 ^ suc k) ∙ pow-succ' 2 k))

module _ (x : Float) (f : T (fits binary64 x)) (t : T (finite x)) (h : absq (value x) ≤q nat 700) where
  abbrev v : ℚ
  v = value (exp_of x)

  abbrev e : ℚ
  e = E 3999 (value x)

  e₀ : nat 0 ≤q e
  e₀ = E_nonneg 3999 (value x)

  twice : v ≤q nat 2 *q e
  twice = linq (v ∷ e ∷ []) ((qv 0 ⊟ qv 1 ⊑ 1 ÷ 2 ^ 45 ⊠ qv 1 by 35184372088832) ∷ (## 0 ⊑ qv 1 by 35184372088831) ∷ []) 35184372088831 (qv 0) (## 2 ⊠ qv 1) tt ((exp_close x f t h).within 3999 (lit≤ tt)).above e₀

  at_least_half : e ≤q nat 2 *q v
  at_least_half = linq (v ∷ e ∷ []) ((qv 1 ⊟ qv 0 ⊑ 1 ÷ 2 ^ 45 ⊠ qv 1 by 35184372088832) ∷ (## 0 ⊑ qv 1 by 17592186044415) ∷ []) 17592186044415 (qv 1) (## 2 ⊠ qv 0) tt ((exp_close x f t h).within 3999 (lit≤ tt)).below e₀

  under : (k : ℕ) → e ≤q nat (2 ^ k) → v ≤q nat (2 ^ suc k)
  under k l = ≤_trans twice (≤_trans (*_mono (nat_≤ (lit≤ {m = 0} tt)) l) (≤_of_≈ (double k)))

  over : (k : ℕ) → 1 // 2 ^ k ≤q e → 1 // 2 ^ suc k ≤q v
  over k l = nat_cancel 2 (zero-lt-suc 1) (≤_trans (≤_of_≈ (half k)) (≤_trans l at_least_half))

  pub exp_at_most_2^1011 : value (exp_of x) ≤q nat (2 ^ 1011)
  exp_at_most_2^1011 = under 1010 (E_at_most 1010 3999 (≤_trans (le_abs (value x)) (≤_trans h (leq [] (## 700) ((1010 * 6931) ÷ 10000) tt))))

  pub exp_at_least_2^_1011 : 1 // 2 ^ 1011 ≤q value (exp_of x)
  exp_at_least_2^_1011 = over 1010 (E_at_least 1010 3999 (linq (value x ∷ absq (value x) ∷ []) ((⊝ (qv 0) ⊑ qv 1 by 10000) ∷ (qv 1 ⊑ ## 700 by 10000) ∷ []) 9999 (⊝ ((1010 * 6931) ÷ 10000)) (qv 0) tt (neg_le_abs (value x)) h))

-- arguments of size at most 2^7
module _ (x : Float) (f : T (fits binary64 x)) (t : T (finite x)) (h : absq (value x) ≤q nat (2 ^ 7)) where
  in_range : absq (value x) ≤q nat 700
  in_range = ≤_trans h (leq [] (## (2 ^ 7)) (## 700) tt)

  pub exp_small_finite : T (finite (exp_of x))
  exp_small_finite = (exp_close x f t in_range).is_finite

  pub exp_at_most_2^186 : value (exp_of x) ≤q nat (2 ^ 186)
  exp_at_most_2^186 = under x f t in_range 185 (E_at_most_2^185 3999 (value x) h)

  pub exp_at_least_2^_186 : 1 // 2 ^ 186 ≤q value (exp_of x)
  exp_at_least_2^_186 = over x f t in_range 185 (E_at_least_2^_185 3999 (value x) h)

-- ---- signs
nil_nonneg : (r : Float) → value r ≈q nat 0 → nat 0 ≤q value r
nil_nonneg r e = ≤_of_≈ (≈_sym e)

inf_value : value (inf false) ≈q nat 0
unfolding value
inf_value = ≈_refl (nat 0)

nan_value : value nan ≈q nat 0
unfolding value
nan_value = ≈_refl (nat 0)

high : T (lt greatest (inf false))
unfolding lt of_bits
high = tt

low : T (lt (inf true) (neg greatest))
unfolding lt of_bits neg
low = tt

within_700 : (s : Bool) (m : ℕ) (e : ℤ) → lt greatest (fin s m e) ≡ false → lt (fin s m e) (neg greatest) ≡ false → absq (value (fin s m e)) ≤q nat 700
unfolding lt of_bits neg value nat absq
within_700 true m e p q = let h = ltb-false (700 * down e) (m * up e * 1) q in record { le = omega arith }
within_700 false m e p q = let h = ltb-false (700 * down e) (m * up e * 1) p in record { le = omega arith }

pub exp_nonneg : (x : Float) → T (fits binary64 x) → nat 0 ≤q value (exp_of x)
exp_nonneg nan f = subst (λ (r : Float). nat 0 ≤q value r) (sym exp_special_cases.not_a_number) (nil_nonneg nan nan_value)
exp_nonneg (inf true) f = subst (λ (r : Float). nat 0 ≤q value r) (sym (exp_special_cases.below (inf true) low)) (nil_nonneg +0 value_+0)
exp_nonneg (inf false) f = subst (λ (r : Float). nat 0 ≤q value r) (sym (exp_special_cases.above (inf false) high)) (nil_nonneg (inf false) inf_value)
exp_nonneg (fin s m e) f = go (lt greatest (fin s m e)) (lt (fin s m e) (neg greatest)) refl refl
  where
    go : (a b : Bool) → lt greatest (fin s m e) ≡ a → lt (fin s m e) (neg greatest) ≡ b → nat 0 ≤q value (exp_of (fin s m e))
    go true b p q = subst (λ (r : Float). nat 0 ≤q value r) (sym (exp_special_cases.above (fin s m e) (subst T (sym p) tt))) (nil_nonneg (inf false) inf_value)
    go false true p q = subst (λ (r : Float). nat 0 ≤q value r) (sym (exp_special_cases.below (fin s m e) (subst T (sym q) tt))) (nil_nonneg +0 value_+0)
    go false false p q = ≤_trans (frac_nonneg 1 (2 ^ 1011)) (exp_at_least_2^_1011 (fin s m e) f tt (within_700 s m e p q))

-- from 0 to 700: at least 1
pub exp_at_least_one : (x : Float) → T (fits binary64 x) → T (finite x) → nat 0 ≤q value x → value x ≤q nat 700 → nat 1 ≤q value (exp_of x)
unfolding value nat of_bits exp_above
exp_at_least_one nan f t z h = absurd t
exp_at_least_one (inf s) f t z h = absurd t
exp_at_least_one (fin s zero e) f t z h = subst (λ (r : Float). nat 1 ≤q value r) (sym (exp_at_zero e s)) (≤_of_≈ (≈_sym value_+1))
exp_at_least_one (fin true (suc m) e) f t z h = absurd (none z.le)
  where
    none : 0 * down e + suc m * up e * 1 ≤ 0 * 1 + 0 * down e → ⊥
    none l = omega (arith, mul-pos (zero-lt-suc m) (up_pos e))
exp_at_least_one (fin false (suc m) e) f t z h =
    let l : suc m * up e * 1 ≤ 700 * down e = let k = h.le in omega arith in
    let x = fin false (suc m) e in
    let p = lt→ltb 0 (suc m) (zero-lt-suc m) in
    subst (λ (r : Float). nat 1 ≤q value r) (sym (exp_is_above m e l)) (fixed_at_least (fixed_of x) (fixed_bounds x f p (cross→le x greatest p tt l)).0)

-- from -700 to 0: at most 1
pub exp_at_most_one : (x : Float) → T (fits binary64 x) → T (finite x) → value x ≤q nat 0 → negq (nat 700) ≤q value x → value (exp_of x) ≤q nat 1
unfolding value nat of_bits negq neg exp_above
exp_at_most_one nan f t z h = absurd t
exp_at_most_one (inf s) f t z h = absurd t
exp_at_most_one (fin s zero e) f t z h = subst (λ (r : Float). value r ≤q nat 1) (sym (exp_at_zero e s)) (≤_of_≈ value_+1)
exp_at_most_one (fin false (suc m) e) f t z h = absurd (none z.le)
  where
    none : suc m * up e * 1 + 0 * down e ≤ 0 * down e + 0 * 1 → ⊥
    none l = omega (arith, mul-pos (zero-lt-suc m) (up_pos e))
exp_at_most_one (fin true (suc m) e) f t z h =
    let l : suc m * up e * 1 ≤ 700 * down e = let k = h.le in omega arith in
    let y = fin false (suc m) e in
    let p = lt→ltb 0 (suc m) (zero-lt-suc m) in
    subst (λ (r : Float). value r ≤q nat 1) (sym (exp_is_below m e l)) (fixed_inverse_at_most (fixed_of y) (fixed_bounds y (neg-fits binary64 (fin true (suc m) e) f) p (cross→le y greatest p tt l)).0)
