-- The accuracy of ln and ln_1p. Assumes nothing.
use Rattle.std.proofs.Common.{◌≡◌, ℕ, ◌+◌, ◌-◌, ◌*◌, ◌/◌, ◌%◌, ◌^◌, ◌<◌, ◌≤◌, Bool, true, false, cond, not, ◌||◌, T, eqb, ltb, [], ◌∷◌, ℤ, sym, refl, ap, subst, inl, inr, zero-le, le_trans, le_of_eq, mul-le-mul_right, mod-lt, zero-lt-suc, mul-le-mul, mul-pos, mul-one, not-le_of_lt, arith, lit<, lit≤, eqb→eq, ltb→lt, pow_pos, pow_mono, ltb-true, lt-ltb}
use native.Mathlib.Nat.{mul-lt-mul_of_pos_left}
use lib.Ieee.{Float, nan, inf, fin, binary64, up, down, lt, le, eq, fits, of_bits, to_bits, round, low}
use lib.Ieee.Bits.{is_true}
use lib.Ieee.Fits.{add-fits, and_l, up_pos}
use lib.Ieee.Scale.{finite, grid, overflow}
use lib.Ieee.Positive.{above_of_le}
use Rattle.exact.specs.Fraction.{ℚ, ◌//◌, nat, ◌+q◌, ◌-q◌, negq, ◌*q◌, absq, ◌≤q◌, ◌≈q◌, Within, leqb}
use Rattle.exact.specs.FloatValue.{value, signed, eps}
use Rattle.exact.specs.Float64.{◌⊕◌, ◌<f◌, ◌≤f◌, +0, +1}
use Rattle.exact.proofs.FractionLaws.{≈_refl, ≈_sym, ≤_of_≈, ≤_trans, ≤_antisym, nat_+, nat_*, *_mono, *_comm, neg_mono, lit_≤}
use Rattle.exact.proofs.FractionProver.{qv, ##, ◌÷◌, ◌⊞◌, ◌⊟◌, ◌⊠◌, ⊝, leq, req, linq, ◌⊑◌by◌, nat_≤}
use Rattle.exact.proofs.Closeness.{abs_le, le_abs, neg_le_abs, within_≈}
use Rattle.exact.proofs.Comparisons.{nlt→≤}
use Rattle.exact.proofs.Rounding.{Rounded, add_rounded, add_near, neg_finite, value_neg, within_neg, frac_nonneg}
use Rattle.exact.proofs.RoundingGrid.{half_top, grid_under, round_value, value_finite}
use Rattle.series.specs.Series.{E, Enough}
use Rattle.series.proofs.Quotients.{frac_≤, frac_nat, cross_≤, ≤-or}
use Rattle.series.proofs.Order.{E_mono, E_at_least_one, E_at_most_one, E_nonneg, E_reciprocal}
use Rattle.series.proofs.TailLaws.{Moderate}
use Rattle.series.proofs.ProductLaws.{tails, moderate_≈}
use Rattle.series.proofs.SmallArguments.{E_one_plus}
use Rattle.series.proofs.Shifts.{E_shift_≥}
use Rattle.series.proofs.Sizes.{E_large}
use Rattle.exact.proofs.PositivePatterns.{units_of}
use Rattle.exponential.proofs.Accuracy.{one_value}
use Rattle.logarithm.specs.Logarithm.{least_normal, log_of, ln_from, ln_of, ln1p_of}
use Rattle.logarithm.specs.Accuracy.{parts, IsLogarithm}
use Rattle.logarithm.specs.declared.Log.{Log}
use Rattle.logarithm.proofs.WholeBounds.{B, D}
use Rattle.logarithm.proofs.Enclosure.{δ, fixed}
use Rattle.logarithm.proofs.Reflects.{E_reflects_≤}
use Rattle.logarithm.proofs.Enclosed.{Enclosed, Logged, one, above, below, logged, range, value_of}
use Rattle.logarithm.proofs.RoundedLog.{rounded_near}

-- ---- y stands for the logarithm ℓ of x
pub record Stands (x : ℚ) (y : Float) : Type 0 where
  pub ℓ : ℚ
  pub encloses : Enclosed x ℓ
  pub is_finite : T (finite y)
  pub near : Within (value y) ℓ (3 // 2 ^ 44)

some : {N : ℕ} → Enough N → 1 ≤ N
some {N} n = omega arith

pub zero_value : value +0 ≈q nat 0
unfolding of_bits value nat
zero_value = record { eq = refl }

pub zero_finite : T (finite +0)
unfolding of_bits
zero_finite = tt

small_enough : (v : ℕ) → v * 2048 + D ≤ 760 * B → v ≤ 760 * 2 ^ 53
small_enough v h = omega arith

δ_nonneg : nat 0 ≤q δ
δ_nonneg = frac_nonneg D B

pub stands : {x : ℚ} {l : Log} → Logged x l → Stands x (ln_from l)
stands {x} (one e) = record {
  ℓ = nat 0;
  encloses = record {
    low = λ {N} n. ≤_trans (E_at_most_one N (linq (δ ∷ []) ((## 0 ⊑ qv 0 by 1) ∷ []) 0 (## 0 ⊟ qv 0) (## 0) tt δ_nonneg)) (≤_of_≈ (≈_sym e));
    high = λ {N} n. ≤_trans (≤_of_≈ e) (E_at_least_one N (linq (δ ∷ []) ((## 0 ⊑ qv 0 by 1) ∷ []) 0 (## 0) (## 0 ⊞ qv 0) tt δ_nonneg));
  };
  is_finite = zero_finite;
  near = within_≈ (≈_sym zero_value) (≈_refl (nat 0)) (record { above = leq [] (## 0 ⊟ ## 0) (3 ÷ (2 ^ 44)) tt; below = leq [] (## 0 ⊟ ## 0) (3 ÷ (2 ^ 44)) tt });
}
stands (above v m e) = let r = rounded_near v (small_enough v m) in record { ℓ = fixed v; encloses = e; is_finite = r.0; near = r.1 }
stands (below v m e) = let r = rounded_near v (small_enough v m) in record { ℓ = negq (fixed v); encloses = e; is_finite = neg_finite _ r.0; near = within_≈ (≈_sym (value_neg _)) (≈_refl (negq (fixed v))) (within_neg r.1) }

-- y less 2^-42 is below ℓ less δ, with 2^-45 to spare
spare_low : {x : ℚ} {y : Float} (s : Stands x y) → value y -q 1 // parts ≤q s.ℓ -q δ -q 1 // 2 ^ 45
spare_low {x} {y} s = linq (value y ∷ s.ℓ ∷ []) ((qv 0 ⊟ qv 1 ⊑ 3 ÷ (2 ^ 44) by 1) ∷ []) 0 (qv 0 ⊟ 1 ÷ parts) (qv 1 ⊟ (2 ^ 19) ÷ (2 ^ 64) ⊟ 1 ÷ (2 ^ 45)) tt s.near.above

spare_high : {x : ℚ} {y : Float} (s : Stands x y) → s.ℓ +q δ +q 1 // 2 ^ 45 ≤q value y +q 1 // parts
spare_high {x} {y} s = linq (value y ∷ s.ℓ ∷ []) ((qv 1 ⊟ qv 0 ⊑ 3 ÷ (2 ^ 44) by 1) ∷ []) 0 (qv 1 ⊞ (2 ^ 19) ÷ (2 ^ 64) ⊞ 1 ÷ (2 ^ 45)) (qv 0 ⊞ 1 ÷ parts) tt s.near.below

pub is_logarithm : {x : ℚ} {y : Float} → Stands x y → IsLogarithm x y
is_logarithm {x} {y} s = record {
  is_finite = s.is_finite;
  not_below = λ {N} n. ≤_trans (E_mono N (≤_trans (spare_low s) (linq (s.ℓ ∷ []) [] 0 (qv 0 ⊟ (2 ^ 19) ÷ (2 ^ 64) ⊟ 1 ÷ (2 ^ 45)) (qv 0 ⊟ (2 ^ 19) ÷ (2 ^ 64)) tt))) (s.encloses.low n);
  not_above = λ {N} n. ≤_trans (s.encloses.high n) (E_mono N (≤_trans (linq (s.ℓ ∷ []) [] 0 (qv 0 ⊞ (2 ^ 19) ÷ (2 ^ 64)) (qv 0 ⊞ (2 ^ 19) ÷ (2 ^ 64) ⊞ 1 ÷ (2 ^ 45)) tt) (spare_high s)));
}

-- ---- positive and normal
first : (m u d : ℕ) → 0 < m → 0 < u → 0 * 1 * d < m * u * 1
first m u d h k = omega (arith, mul-pos h k)

pub above_zero : (x : Float) → T (le least_normal x) → lt +0 x ≡ true
unfolding lt le eq of_bits
above_zero x h = of x (above_of_le least_normal x tt h)
  where
    of : (x : Float) → T (lib.Ieee.Positive.above x) → lt +0 x ≡ true
    of nan a = absurd a
    of (inf true) a = absurd a
    of (inf false) a = refl
    of (fin true m e) a = absurd a
    of (fin false m e) a = lt-ltb (0 * 1 * down e) (m * up e * 1) (first m (up e) (down e) (ltb→lt 0 m a) (up_pos e))

module _ (x : Float) (f : T (fits binary64 x)) (h : T (least_normal ≤f x)) (k : T (x <f inf false)) where
  pub ln_stands : Stands (value x) (ln_of x)
  unfolding ln_of
  ln_stands = subst (λ (y : Float). Stands (value x) y) (ap (λ (b : Bool). cond b (ln_from (log_of x)) nan) (sym (is_true (least_normal ≤f x) h))) (stands (logged x f (above_zero x h) (is_true (x <f inf false) k)))

  -- ln of a positive normal number
  pub ln_accurate : IsLogarithm (value x) (ln_of x)
  ln_accurate = is_logarithm ln_stands

-- ---- 1 + a
pub one_finite : T (finite +1)
unfolding of_bits
one_finite = tt

pub one_fits : T (fits binary64 +1)
unfolding of_bits fits
one_fits = tt

pub least_finite : T (finite least_normal)
unfolding of_bits
least_finite = tt

least_small : value least_normal ≤q 1 // 4
unfolding of_bits value leqb ◌//◌
least_small = lit_≤ tt

or_left : (x y : Float) → T (lt x y) → T (le x y)
unfolding le
or_left x y h = either (lt x y) h
  where
    either : (b : Bool) → T b → T (b || eq x y)
    either true t = tt
    either false t = absurd t

contrary : 1 // 2 ≤q 1 // 4 → ⊥
contrary h = no (cross_≤ 1 1 (zero-lt-suc 1) (zero-lt-suc 3) h)
  where
    no : 1 * 4 ≤ 1 * 2 → ⊥
    no h = omega arith

lt_infinity : (s : Bool) (m : ℕ) (e : ℤ) → lt (fin s m e) (inf false) ≡ true
unfolding lt
lt_infinity s m e = refl

below_infinity : (a : Float) → T (finite a) → lt a (inf false) ≡ true
below_infinity nan t = absurd t
below_infinity (inf s) t = absurd t
below_infinity (fin s m e) t = lt_infinity s m e

finite_below : (a : Float) → T (finite a) → T (a <f inf false)
finite_below a t = subst T (sym (below_infinity a t)) tt

-- a finite float that is not below 0
pub not_negative : (a : Float) → T (finite a) → T (+0 ≤f a) → nat 0 ≤q value a
unfolding le lt eq of_bits value nat
not_negative nan t h = absurd t
not_negative (inf s) t h = absurd t
not_negative (fin false m e) t h = record { le = omega arith }
not_negative (fin true m e) t h = record { le = plain (m * up e) (down e) (eqb→eq (0 * 1 * down e) (m * up e * 1) (and_l (eqb (0 * 1 * down e) (m * up e * 1)) _ h)) }
  where
    plain : (a c : ℕ) → 0 * 1 * c ≡ a * 1 → 0 * c + a * 1 ≤ 0 * 1 + 0 * c
    plain a c e = omega arith

-- the size of a pattern
units_le : (b : ℕ) → b < 2047 * 2 ^ 52 → units_of b ≤ (2 ^ 53 - 1) * 2 ^ 2045
unfolding units_of
units_le b h = by_test (ltb b (2 ^ 52)) refl
  where
    small : (b : ℕ) → b < 2 ^ 52 → b ≤ 2 ^ 53 - 1
    small b h = omega arith

    few : (r : ℕ) → r < 2 ^ 52 → r + 2 ^ 52 ≤ 2 ^ 53 - 1
    few r h = omega arith

    field : (b : ℕ) → b < 2047 * 2 ^ 52 → b / 2 ^ 52 - 1 ≤ 2045
    field b h = omega arith

    by_test : (t : Bool) → ltb b (2 ^ 52) ≡ t → cond t b ((b % 2 ^ 52 + 2 ^ 52) * 2 ^ (b / 2 ^ 52 - 1)) ≤ (2 ^ 53 - 1) * 2 ^ 2045
    by_test true e = le_trans (small b (ltb-true b (2 ^ 52) e)) (lit≤ {m = 2 ^ 53 - 1} {n = (2 ^ 53 - 1) * 2 ^ 2045} tt)
    by_test false e = mul-le-mul (few (b % 2 ^ 52) (mod-lt b (pow_pos 52))) (pow_mono (field b h))

abbrev top : ℕ
top = 2 ^ 1024 - 2 ^ 971

at_most_top : (a : Float) → T (fits binary64 a) → T (finite a) → value a ≤q nat top
at_most_top a f t = by_test (lt +0 a) refl
  where
    by_test : (s : Bool) → lt +0 a ≡ s → value a ≤q nat top
    by_test true e =
        let r = range a f e (below_infinity a t) in
        ≤_trans (≤_of_≈ (value_of a f e (below_infinity a t))) (≤_trans (frac_≤ (units_of (to_bits binary64 a)) top (pow_pos 1074) (zero-lt-suc 0) (le_trans (le_of_eq (mul-one (units_of (to_bits binary64 a)))) (le_trans (units_le (to_bits binary64 a) r.1) (lit≤ {m = (2 ^ 53 - 1) * 2 ^ 2045} {n = top * 2 ^ 1074} tt)))) (≤_of_≈ (frac_nat top)))
    by_test false e = ≤_trans (nlt→≤ +0 a zero_finite t (subst (λ (b : Bool). T (not b)) (sym e) tt)) (≤_trans (≤_of_≈ zero_value) (nat_≤ {a = 0} zero-le))

-- a rounded number up to one past the largest is finite
size_of : (s : Bool) (num den M : ℕ) (C : 0 < den) → absq (signed s num den C) ≤q nat M → num ≤ M * den
unfolding absq nat
size_of true num den M C h = let e = h.le in omega arith
size_of false num den M C h = let e = h.le in omega arith

finite_next : (x : Float) (z : ℚ) → Rounded binary64 x z → nat 0 ≤q z → z ≤q nat (top + 1) → T (finite x)
finite_next x z r p h =
    let s = r.sign in let n = r.num in let d = r.den in
    let b : n ≤ (top + 1) * d = size_of s n d (top + 1) r.den_pos (abs_le (≤_trans (≤_of_≈ r.val) h) (≤_trans (neg_mono (≤_trans p (≤_of_≈ (≈_sym r.val)))) (leq [] (⊝ (## 0)) (## (top + 1)) tt))) in
    subst (λ (x : Float). T (finite x)) (sym r.is)
    (value_finite (round binary64 s n d) s (grid binary64 n d) (2 ^ 1074) (round_value binary64 s n d (grid_under binary64 n d r.den_pos (room n d r.den_pos b))))
  where
    plain : (n d T L H O : ℕ) → 0 < d → n ≤ T * d → T * L + H < O → n * L + d * H < O * d
    plain n d T L H O D h k = omega (arith, mul-le-mul_right L h, mul-lt-mul_of_pos_left k D)

    room : (n d : ℕ) → 0 < d → n ≤ (top + 1) * d → n * 2 ^ 1074 + d * 2 ^ half_top binary64 < overflow binary64 * d
    room n d D h = plain n d (top + 1) (2 ^ 1074) (2 ^ half_top binary64) (overflow binary64) D h (lit< {m = (top + 1) * 2 ^ 1074 + 2 ^ half_top binary64} {n = overflow binary64} tt)

lit_714 : (1030 * 6932) // 10000 ≤q nat 714
unfolding leqb nat ◌//◌
lit_714 = lit_≤ tt

too_large : nat (2 ^ 1030) ≤q nat (2 ^ 1025) → ⊥
too_large h = not-le_of_lt (lit< {m = 2 ^ 1025} {n = 2 ^ 1030} tt) (le_trans (le_of_eq (sym (mul-one (2 ^ 1030)))) (le_trans (cross_≤ (2 ^ 1030) (2 ^ 1025) (zero-lt-suc 0) (zero-lt-suc 0) (≤_trans (≤_of_≈ (frac_nat (2 ^ 1030))) (≤_trans h (≤_of_≈ (≈_sym (frac_nat (2 ^ 1025))))))) (le_of_eq (mul-one (2 ^ 1025)))))

-- e^-1 ≤ 1/2
half_of : (N : ℕ) → 1 ≤ N → E N (negq (nat 1)) ≤q 1 // 2
half_of N n =
    let e = E N (nat 1) in let e' = E N (negq (nat 1)) in
    linq (e ∷ e' ∷ []) ((qv 1 ⊠ ## 2 ⊑ qv 1 ⊠ qv 0 by 1) ∷ (qv 0 ⊠ qv 1 ⊑ ## 1 by 1) ∷ []) 1 (qv 1) (1 ÷ 2) tt
    (*_mono (E_nonneg N (negq (nat 1))) (≤_trans (leq [] (## 2) (## 1 ⊞ ## 1) tt) (E_one_plus (nat 1) n))) (≤_of_≈ (E_reciprocal N (nat 1)))

small_step : absq (1 // 2 ^ 45) ≤q nat 1
unfolding leqb nat ◌//◌ absq
small_step = lit_≤ tt

small_δ : absq (negq δ) ≤q nat 1
unfolding leqb nat ◌//◌ absq negq
small_δ = lit_≤ tt

small_δ' : absq δ ≤q nat 1
unfolding leqb nat ◌//◌ absq
small_δ' = lit_≤ tt

small_shift : absq (negq δ -q 1 // 2 ^ 45) ≤q nat 1
unfolding leqb nat ◌//◌ absq negq ◌-q◌ ◌+q◌
small_shift = lit_≤ tt

small_shift' : absq (δ +q 1 // 2 ^ 45) ≤q nat 1
unfolding leqb nat ◌//◌ absq ◌+q◌
small_shift' = lit_≤ tt

more : (nat 1 +q 1 // 2 ^ 53) *q (nat 1 +q tails) ≤q nat 1 +q 1 // 2 ^ 45
unfolding leqb nat ◌//◌ ◌*q◌ ◌+q◌
more = lit_≤ tt

more' : nat 1 +q tails ≤q (nat 1 -q 1 // 2 ^ 53) *q (nat 1 +q 1 // 2 ^ 45)
unfolding leqb nat ◌//◌ ◌*q◌ ◌+q◌ ◌-q◌ negq
more' = lit_≤ tt

one_more : nat 0 ≤q nat 1 +q 1 // 2 ^ 45
unfolding leqb nat ◌//◌ ◌+q◌
one_more = lit_≤ tt

tails_more : nat 0 ≤q nat 1 +q tails
unfolding leqb nat ◌//◌ ◌+q◌
tails_more = lit_≤ tt

grown : {x y : ℚ} → x ≤q y → x *q (nat 1 +q tails) ≤q (nat 1 +q tails) *q y
grown {x} {y} h = ≤_trans (≤_of_≈ (*_comm x (nat 1 +q tails))) (*_mono tails_more h)

cancel : {x y : ℚ} → x *q (nat 1 +q 1 // 2 ^ 45) ≤q y *q (nat 1 +q 1 // 2 ^ 45) → x ≤q y
cancel {x} {y} h = linq (x ∷ y ∷ []) ((qv 0 ⊠ (## 1 ⊞ 1 ÷ (2 ^ 45)) ⊑ qv 1 ⊠ (## 1 ⊞ 1 ÷ (2 ^ 45)) by 35184372088832) ∷ []) 35184372088832 (qv 0) (qv 1) tt h

cancel_tails : {x y : ℚ} → x *q (nat 1 +q tails) ≤q y *q (nat 1 +q tails) → x ≤q y
cancel_tails {x} {y} h = linq (x ∷ y ∷ []) ((qv 0 ⊠ (## 1 ⊞ 1 ÷ (2 ^ 998)) ⊑ qv 1 ⊠ (## 1 ⊞ 1 ÷ (2 ^ 998)) by (2 ^ 998)) ∷ []) (2 ^ 998) (qv 0) (qv 1) tt h

module _ (a : Float) (f : T (fits binary64 a)) (t : T (finite a)) (h : T (+0 ≤f a)) where
  abbrev x : Float
  x = +1 ⊕ a

  a_nonneg : nat 0 ≤q value a
  a_nonneg = not_negative a t h

  sum_nonneg : nat 0 ≤q value +1 +q value a
  sum_nonneg = linq (value +1 ∷ value a ∷ []) ((## 0 ⊑ qv 1 by 1) ∷ (## 1 ⊑ qv 0 by 1) ∷ []) 0 (## 0) (qv 0 ⊞ qv 1) tt a_nonneg (≤_of_≈ (≈_sym one_value))

  pub sum_finite : T (finite x)
  sum_finite =
      finite_next x (value +1 +q value a) (add_rounded binary64 +1 a one_finite t) sum_nonneg
      (≤_trans (linq (value +1 ∷ value a ∷ nat top ∷ []) ((qv 1 ⊑ qv 2 by 1) ∷ (qv 0 ⊑ ## 1 by 1) ∷ []) 0 (qv 0 ⊞ qv 1) (qv 2 ⊞ ## 1) tt (at_most_top a f t) (≤_of_≈ one_value)) (≤_of_≈ (≈_sym (nat_+ top 1))))

  x_near : Within (value x) (value +1 +q value a) (eps binary64 *q absq (value +1 +q value a))
  x_near = add_near binary64 +1 a one_finite t one_fits f sum_finite

  abbrev z : ℚ
  z = nat 1 +q value a

  z_is : value +1 +q value a ≈q z
  z_is = ≤_antisym (linq (value +1 ∷ value a ∷ []) ((qv 0 ⊑ ## 1 by 1) ∷ []) 0 (qv 0 ⊞ qv 1) (## 1 ⊞ qv 1) tt (≤_of_≈ one_value)) (linq (value +1 ∷ value a ∷ []) ((## 1 ⊑ qv 0 by 1) ∷ []) 0 (## 1 ⊞ qv 1) (qv 0 ⊞ qv 1) tt (≤_of_≈ (≈_sym one_value)))

  size : absq (value +1 +q value a) ≤q z
  size = abs_le (≤_of_≈ z_is) (linq (value +1 ∷ value a ∷ []) ((## 0 ⊑ qv 1 by 2) ∷ (## 1 ⊑ qv 0 by 1) ∷ []) 0 (⊝ (qv 0 ⊞ qv 1)) (## 1 ⊞ qv 1) tt a_nonneg (≤_of_≈ (≈_sym one_value)))

  error : eps binary64 *q absq (value +1 +q value a) ≤q 1 // 2 ^ 53 *q z
  error = *_mono (frac_nonneg 1 (2 ^ 53)) size

  x_high : value x ≤q z *q (nat 1 +q 1 // 2 ^ 53)
  x_high = linq (value x ∷ (value +1 +q value a) ∷ z ∷ (eps binary64 *q absq (value +1 +q value a)) ∷ []) ((qv 0 ⊟ qv 1 ⊑ qv 3 by 1) ∷ (qv 1 ⊑ qv 2 by 1) ∷ (qv 3 ⊑ 1 ÷ (2 ^ 53) ⊠ qv 2 by 1) ∷ []) 0 (qv 0) (qv 2 ⊠ (## 1 ⊞ 1 ÷ (2 ^ 53))) tt x_near.above (≤_of_≈ z_is) error

  x_low : z *q (nat 1 -q 1 // 2 ^ 53) ≤q value x
  x_low = linq (value x ∷ (value +1 +q value a) ∷ z ∷ (eps binary64 *q absq (value +1 +q value a)) ∷ []) ((qv 1 ⊟ qv 0 ⊑ qv 3 by 1) ∷ (qv 2 ⊑ qv 1 by 1) ∷ (qv 3 ⊑ 1 ÷ (2 ^ 53) ⊠ qv 2 by 1) ∷ []) 0 (qv 2 ⊠ (## 1 ⊟ 1 ÷ (2 ^ 53))) (qv 0) tt x_near.below (≤_of_≈ (≈_sym z_is)) error

  z_one : nat 1 ≤q z
  z_one = linq (value a ∷ []) ((## 0 ⊑ qv 0 by 1) ∷ []) 0 (## 1) (## 1 ⊞ qv 0) tt a_nonneg

  x_half : 1 // 2 ≤q value x
  x_half = linq (value x ∷ z ∷ []) ((qv 1 ⊠ (## 1 ⊟ 1 ÷ (2 ^ 53)) ⊑ qv 0 by 18014398509481984) ∷ (## 1 ⊑ qv 1 by 18014398509481982) ∷ []) 18014398509481983 (1 ÷ 2) (qv 0) tt x_low z_one

  pub sum_normal : T (least_normal ≤f x)
  sum_normal = by_test (lt least_normal x) refl
    where
      by_test : (s : Bool) → lt least_normal x ≡ s → T (least_normal ≤f x)
      by_test true e = or_left least_normal x (subst T (sym e) tt)
      by_test false e = absurd (contrary (≤_trans x_half (≤_trans (nlt→≤ least_normal x least_finite sum_finite (subst (λ (b : Bool). T (not b)) (sym e) tt)) least_small)))

  pub ln_1p_stands : Stands (value x) (ln1p_of a)
  unfolding ln1p_of
  ln_1p_stands = subst (λ (y : Float). Stands (value x) y) (ap (λ (b : Bool). cond b (ln_of x) nan) (sym (is_true (+0 ≤f a) h))) (ln_stands x (add-fits binary64 +1 a) sum_normal (finite_below x sum_finite))

  -- ---- the logarithm's size
  x_top : value x ≤q nat (2 ^ 1025)
  x_top =
      ≤_trans x_high
      (≤_trans (linq (z ∷ []) ((## 0 ⊑ qv 0 by 9007199254740991) ∷ []) 9007199254740991 (qv 0 ⊠ (## 1 ⊞ 1 ÷ (2 ^ 53))) (qv 0 ⊠ ## 2) tt (≤_trans (leq [] (## 0) (## 1) tt) z_one))
      (≤_trans (linq (z ∷ nat (top + 1) ∷ []) ((qv 0 ⊑ qv 1 by 2) ∷ []) 0 (qv 0 ⊠ ## 2) (## 2 ⊠ qv 1) tt z_top) (≤_trans (≤_of_≈ (≈_sym (nat_* 2 (top + 1)))) (nat_≤ (lit≤ {m = 2 * (top + 1)} {n = 2 ^ 1025} tt)))))
    where
      z_top : z ≤q nat (top + 1)
      z_top = ≤_trans (linq (value a ∷ nat top ∷ []) ((qv 0 ⊑ qv 1 by 1) ∷ []) 0 (## 1 ⊞ qv 0) (qv 1 ⊞ ## 1) tt (at_most_top a f t)) (≤_of_≈ (≈_sym (nat_+ top 1)))

  abbrev ℓ : ℚ
  ℓ = ln_1p_stands.ℓ

  enough : Enough 3999
  enough = lit≤ tt

  log_top : ℓ -q δ ≤q nat 714
  log_top = elim (≤-or (ℓ -q δ) ((1030 * 6932) // 10000)) [
    | inl h ↦ ≤_trans h (lit_714)
    | inr h ↦ absurd (too_large (≤_trans (E_large 1030 {N = 3999} (lit≤ tt) (lit≤ tt) enough h) (≤_trans (ln_1p_stands.encloses.low enough) x_top)))
  ]

  log_bottom : negq (nat 1) ≤q ℓ +q δ
  log_bottom = E_reflects_≤ {N = 3999} (lit≤ tt) (≤_trans (half_of 3999 (lit≤ tt)) (≤_trans x_half (ln_1p_stands.encloses.high enough)))

  moderate : (d : ℚ) → absq d ≤q nat 1 → Moderate (ℓ +q d)
  moderate d h = record {
    size = abs_le
        (linq (ℓ ∷ d ∷ absq d ∷ []) ((qv 0 ⊟ (2 ^ 19) ÷ (2 ^ 64) ⊑ ## 714 by 1) ∷ (qv 1 ⊑ qv 2 by 1) ∷ (qv 2 ⊑ ## 1 by 1) ∷ []) 0 (qv 0 ⊞ qv 1) (## 1000) tt log_top (le_abs d) h)
        (linq (ℓ ∷ d ∷ absq d ∷ []) ((⊝ (## 1) ⊑ qv 0 ⊞ (2 ^ 19) ÷ (2 ^ 64) by 1) ∷ (⊝ (qv 1) ⊑ qv 2 by 1) ∷ (qv 2 ⊑ ## 1 by 1) ∷ []) 0 (⊝ (qv 0 ⊞ qv 1)) (## 1000) tt log_bottom (neg_le_abs d) h);
  }

  z_nonneg : nat 0 ≤q z
  z_nonneg = ≤_trans (leq [] (## 0) (## 1) tt) z_one

  low_1p : {N : ℕ} → Enough N → E N (ℓ -q δ -q 1 // 2 ^ 45) ≤q z
  low_1p {N} n =
      let e = E N (ℓ -q δ -q 1 // 2 ^ 45) in
      let g = E N (ℓ -q δ) in
      let s : e *q (nat 1 +q 1 // 2 ^ 45) ≤q E N (ℓ -q δ -q 1 // 2 ^ 45 +q 1 // 2 ^ 45) *q (nat 1 +q tails) =
      E_shift_≥ (1 // 2 ^ 45) n n (moderate_≈ (req (ℓ ∷ []) (qv 0 ⊞ (⊝ ((2 ^ 19) ÷ (2 ^ 64)) ⊟ 1 ÷ (2 ^ 45))) (qv 0 ⊟ (2 ^ 19) ÷ (2 ^ 64) ⊟ 1 ÷ (2 ^ 45)) tt tt) (moderate (negq δ -q 1 // 2 ^ 45) small_shift)) (moderate_≈ (req (ℓ ∷ []) (qv 0 ⊞ ⊝ ((2 ^ 19) ÷ (2 ^ 64))) (qv 0 ⊟ (2 ^ 19) ÷ (2 ^ 64) ⊟ 1 ÷ (2 ^ 45) ⊞ 1 ÷ (2 ^ 45)) tt tt) (moderate (negq δ) small_δ)) small_step in
      let back : E N (ℓ -q δ -q 1 // 2 ^ 45 +q 1 // 2 ^ 45) ≤q g = E_mono N (linq (ℓ ∷ []) [] 0 (qv 0 ⊟ (2 ^ 19) ÷ (2 ^ 64) ⊟ 1 ÷ (2 ^ 45) ⊞ 1 ÷ (2 ^ 45)) (qv 0 ⊟ (2 ^ 19) ÷ (2 ^ 64)) tt) in
      let c : E N (ℓ -q δ -q 1 // 2 ^ 45 +q 1 // 2 ^ 45) ≤q z *q (nat 1 +q 1 // 2 ^ 53) = ≤_trans back (≤_trans (ln_1p_stands.encloses.low n) x_high) in
      cancel (≤_trans s (≤_trans (grown c) (≤_trans (≤_of_≈ (req (z ∷ tails ∷ []) ((## 1 ⊞ qv 1) ⊠ (qv 0 ⊠ (## 1 ⊞ 1 ÷ (2 ^ 53)))) (qv 0 ⊠ ((## 1 ⊞ 1 ÷ (2 ^ 53)) ⊠ (## 1 ⊞ qv 1))) tt tt)) (*_mono z_nonneg more))))

  high_1p : {N : ℕ} → Enough N → z ≤q E N (ℓ +q δ +q 1 // 2 ^ 45)
  high_1p {N} n =
      let e = E N (ℓ +q δ +q 1 // 2 ^ 45) in
      let s : E N (ℓ +q δ) *q (nat 1 +q 1 // 2 ^ 45) ≤q e *q (nat 1 +q tails) =
      E_shift_≥ (1 // 2 ^ 45) n n (moderate δ small_δ') (moderate_≈ (req (ℓ ∷ []) (qv 0 ⊞ ((2 ^ 19) ÷ (2 ^ 64) ⊞ 1 ÷ (2 ^ 45))) (qv 0 ⊞ (2 ^ 19) ÷ (2 ^ 64) ⊞ 1 ÷ (2 ^ 45)) tt tt) (moderate (δ +q 1 // 2 ^ 45) small_shift')) small_step in
      let c : z *q (nat 1 -q 1 // 2 ^ 53) ≤q E N (ℓ +q δ) = ≤_trans x_low (ln_1p_stands.encloses.high n) in
      cancel_tails (≤_trans (*_mono z_nonneg more') (≤_trans (≤_of_≈ (req (z ∷ []) (qv 0 ⊠ ((## 1 ⊟ 1 ÷ (2 ^ 53)) ⊠ (## 1 ⊞ 1 ÷ (2 ^ 45)))) ((## 1 ⊞ 1 ÷ (2 ^ 45)) ⊠ (qv 0 ⊠ (## 1 ⊟ 1 ÷ (2 ^ 53)))) tt tt)) (≤_trans (*_mono one_more c) (≤_trans (≤_of_≈ (*_comm (nat 1 +q 1 // 2 ^ 45) (E N (ℓ +q δ)))) s))))

  -- ln(1 + a)
  pub ln_1p_accurate : IsLogarithm (nat 1 +q value a) (ln1p_of a)
  ln_1p_accurate = record {
    is_finite = ln_1p_stands.is_finite;
    not_below = λ {N} n. ≤_trans (E_mono N (spare_low ln_1p_stands)) (low_1p n);
    not_above = λ {N} n. ≤_trans (high_1p n) (E_mono N (spare_high ln_1p_stands));
  }
