-- The size of a result, by powers of two: |x| ≤ 2 ^ a and |y| ≤ 2 ^ b bound each operation's result, which is finite; lower bounds serve divisors.
-- A bound that is a power of two is not crossed by rounding, so none of them grows by an error. The side condition `held` computes at a closed exponent: `tt`.
use Prim.Native.Nat.{ℕ, zero, suc, ◌+◌, ◌*◌, ◌^◌, ◌≤◌, ◌<◌}
use mathlib.Core.Path.{◌≡◌, refl, sym, subst}
use mathlib.Core.List.{[], ◌∷◌}
use mathlib.Core.Bool.{Bool, true, false, not, ◌&&◌, cond}
use native.Mathlib.Nat.{le_of_lt, mul-pos, one-mul, mul-le-mul_right, pow-suc}
use native.Mathlib.Omega.{arith}
use lib.Dec.{T, leb, leb→le, le→leb, nleb→lt, lit≤}
use lib.Pow.{pow_pos, pow_mono, pow-lt}
use lib.IntN.{ℤ, pos, negsuc, neg_ℤ, suc_ℤ, pred_ℤ, suc-pred, ◌+ℤ◌, ◌-ℤ◌, +ℤ-suc_ℤ, +ℤ-pred_ℤ, +ℤ_idr, +ℤ_invl, -ℤ-+ℤ_cancel}
use lib.Signed.{le_z}
use lib.Ieee.{Float, fin, binary64, emax, low, up, down, neg, of_bits}
use lib.Ieee.Fits.{up_pos, down_pos}
use lib.Ieee.Scale.{finite}
use Rattle.exact.specs.Fraction.{ℚ, nat, ◌+q◌, ◌*q◌, ◌/q◌, absq, ◌≤q◌, ◌<q◌, ◌≈q◌, leqb}
use Rattle.exact.specs.FloatValue.{value}
use Rattle.exact.specs.Float64.{◌⊕◌, ◌⊖◌, ◌⊗◌, ◌⊘◌, absolute, signum, maximum}
use Rattle.exact.specs.Size.{larger, exp2, held, AtMost, AtLeast, NonNegative, Positive}
use Rattle.exact.proofs.NatProver.{and_l, and_r}
use Rattle.exact.proofs.FractionLaws.{≈_refl, ≈_sym, ≈_trans, *_comm, *_cong, *_cong_r, one_*, ≤_of_≈, ≤_refl, ≤_trans, lit_≤}
use Rattle.exact.proofs.FractionProver.{qv, ##, ◌⊞◌, ◌⊟◌, ◌⊠◌, req, linq, ◌⊑◌by◌}
use Rattle.exact.proofs.StrictOrder.{≤_of_<, <_≤_trans, *_cancel_≈, nat_<, ≤_≈, *_nonneg}
use Rattle.exact.proofs.AbsoluteValue.{abs_cong, abs_neg, abs_abs, abs_nonneg, abs_pos, abs_*_≈, abs_of_nonneg, not_zero_of_abs, not_zero_of_pos, le_abs}
use Rattle.exact.proofs.Closeness.{abs_+_le, abs_minus_le, abs_*_le, *_mono₂}
use Rattle.exact.proofs.FractionDivision.{div_unique, abs_div_le, abs_div_ge, div_nonneg}
use Rattle.exact.proofs.Rounding.{Rounded, add_rounded, sub_rounded, mul_rounded, div_rounded_q, value_neg, neg_finite}
use Rattle.exact.proofs.Representable.{Representable, representable_≈, scaled_representable}
use Rattle.exact.proofs.RoundingOrder.{rounded_abs_≤, rounded_abs_≥, rounded_nonneg}
use Rattle.exact.proofs.FloatFunctions.{absolute_finite, value_absolute, maximum_by, maximum_finite, maximum_≥_r, signum_finite, abs_signum}

-- ---- 2 ^ e
pub exp2_pos : (e : ℤ) → nat 0 <q exp2 e
unfolding nat
exp2_pos e = record { lt = omega (arith, up_pos e) }

pub exp2_suc : (e : ℤ) → exp2 (suc_ℤ e) ≈q nat 2 *q exp2 e
unfolding nat ◌*q◌
exp2_suc (pos n) = record { eq = rw (pow-suc 2 n) (omega arith) }
exp2_suc (negsuc zero) = record { eq = refl }
exp2_suc (negsuc (suc n)) = record { eq = rw (pow-suc 2 (suc n)) (omega arith) }

pub exp2_pred : (e : ℤ) → exp2 e ≈q nat 2 *q exp2 (pred_ℤ e)
exp2_pred e = subst (λ (k : ℤ). exp2 k ≈q nat 2 *q exp2 (pred_ℤ e)) (suc-pred e) (exp2_suc (pred_ℤ e))

-- 2 ^ (a + b)
double_r : (x y : ℚ) → nat 2 *q (x *q y) ≈q x *q (nat 2 *q y)
double_r x y = req (x ∷ y ∷ []) (## 2 ⊠ (qv 0 ⊠ qv 1)) (qv 0 ⊠ (## 2 ⊠ qv 1)) tt tt

up_one : (a b : ℤ) → exp2 (a +ℤ b) ≈q exp2 a *q exp2 b → exp2 (a +ℤ suc_ℤ b) ≈q exp2 a *q exp2 (suc_ℤ b)
up_one a b h =
    subst (λ (k : ℤ). exp2 k ≈q exp2 a *q exp2 (suc_ℤ b)) (sym (+ℤ-suc_ℤ a b))
    (≈_trans (exp2_suc (a +ℤ b)) (≈_trans (*_cong_r (nat 2) h) (≈_trans (double_r (exp2 a) (exp2 b)) (*_cong_r (exp2 a) (≈_sym (exp2_suc b))))))

down_one : (a b : ℤ) → exp2 (a +ℤ b) ≈q exp2 a *q exp2 b → exp2 (a +ℤ pred_ℤ b) ≈q exp2 a *q exp2 (pred_ℤ b)
down_one a b h =
    subst (λ (k : ℤ). exp2 k ≈q exp2 a *q exp2 (pred_ℤ b)) (sym (+ℤ-pred_ℤ a b))
    (*_cancel_≈ (nat_< {a = 0} {b = 2} (omega arith))
    (≈_trans (≈_sym (exp2_pred (a +ℤ b))) (≈_trans h (≈_trans (*_cong_r (exp2 a) (exp2_pred b)) (≈_sym (double_r (exp2 a) (exp2 (pred_ℤ b))))))))

exp2_0 : exp2 (pos zero) ≈q nat 1
unfolding nat
exp2_0 = record { eq = refl }

exp2_+_0 : (a : ℤ) → exp2 (a +ℤ pos zero) ≈q exp2 a *q exp2 (pos zero)
exp2_+_0 a = subst (λ (k : ℤ). exp2 k ≈q exp2 a *q exp2 (pos zero)) (sym (+ℤ_idr a)) (≈_sym (≈_trans (*_comm (exp2 a) (exp2 (pos zero))) (≈_trans (*_cong exp2_0 (≈_refl (exp2 a))) (one_* (exp2 a)))))

pub exp2_+ : (a b : ℤ) → exp2 (a +ℤ b) ≈q exp2 a *q exp2 b
exp2_+ a (pos zero) = exp2_+_0 a
exp2_+ a (pos (suc n)) = up_one a (pos n) (exp2_+ a (pos n))
exp2_+ a (negsuc zero) = down_one a (pos zero) (exp2_+_0 a)
exp2_+ a (negsuc (suc n)) = down_one a (negsuc n) (exp2_+ a (negsuc n))

pub exp2_neg : (a : ℤ) → exp2 (neg_ℤ a) *q exp2 a ≈q nat 1
exp2_neg a = ≈_trans (≈_sym (exp2_+ (neg_ℤ a) a)) (subst (λ (k : ℤ). exp2 k ≈q nat 1) (sym (+ℤ_invl a)) exp2_0)

-- 2 ^ (a - b)
pub exp2_minus : (a b : ℤ) → exp2 (a -ℤ b) ≈q exp2 a /q exp2 b
exp2_minus a b = div_unique (not_zero_of_pos (exp2_pos b)) (≈_trans (≈_sym (exp2_+ (a -ℤ b) b)) (subst (λ (k : ℤ). exp2 k ≈q exp2 a) (sym (-ℤ-+ℤ_cancel a b)) (≈_refl (exp2 a))))

pub exp2_mono : (a b : ℤ) → T (le_z a b) → exp2 a ≤q exp2 b
exp2_mono (pos a) (pos b) h = let l : 2 ^ a ≤ 2 ^ b = pow_mono (leb→le a b h) in record { le = omega arith }
exp2_mono (pos a) (negsuc b) h = absurd h
exp2_mono (negsuc a) (pos b) h = record { le = one_le (2 ^ suc a) (2 ^ b) (pow_pos (suc a)) (pow_pos b) }
  where
    one_le : (u v : ℕ) → 0 < u → 0 < v → 1 * 1 + 0 * u ≤ v * u + 0 * 1
    one_le u v p q = omega (arith, mul-pos q p)
exp2_mono (negsuc a) (negsuc b) h = let k = leb→le b a h in let l : 2 ^ suc b ≤ 2 ^ suc a = pow_mono (omega arith) in record { le = plain (2 ^ suc b) (2 ^ suc a) l }
  where
    plain : (u v : ℕ) → u ≤ v → 1 * u + 0 * v ≤ 1 * v + 0 * u
    plain u v l = omega arith

pub exp2_representable : (e : ℤ) → T (held e) → Representable binary64 (exp2 e)
exp2_representable e h =
    representable_≈
    (scaled_representable binary64 false 1 e (lit≤ tt) (leb→le (down e) (2 ^ low binary64) (and_l (leb (down e) (2 ^ low binary64)) (leb (up e) (2 ^ emax binary64)) h))
    (under_top (up e) (down e) (2 ^ emax binary64) (2 ^ suc (emax binary64)) (down_pos e) (leb→le (up e) (2 ^ emax binary64) (and_r (leb (down e) (2 ^ low binary64)) (leb (up e) (2 ^ emax binary64)) h)) (pow-lt {i = 1023} {j = 1024} (lit≤ tt))))
    (record { eq = plain (up e) (down e) })
  where
    under_top : (u d a b : ℕ) → 0 < d → u ≤ a → a < b → 1 * u < b * d
    under_top u d a b D h l = omega (arith, mul-le-mul_right b D, one-mul b)

    plain : (u d : ℕ) → 1 * u * d + 0 * d ≡ u * d + 0 * d
    plain u d = omega arith

-- ---- the larger of two exponents
le_z_no : (a b : ℤ) → T (not (le_z a b)) → T (le_z b a)
le_z_no (pos a) (pos b) h = le→leb b a (le_of_lt (nleb→lt a b h))
le_z_no (pos a) (negsuc b) h = tt
le_z_no (negsuc a) (pos b) h = absurd h
le_z_no (negsuc a) (negsuc b) h = le→leb a b (le_of_lt (nleb→lt b a h))

pub exp2_larger_l : (a b : ℤ) → exp2 a ≤q exp2 (larger a b)
exp2_larger_l a b = go (le_z a b) (exp2_mono a b)
  where
    go : (t : Bool) → (T t → exp2 a ≤q exp2 b) → exp2 a ≤q exp2 (cond t b a)
    go true h = h tt
    go false h = ≤_refl (exp2 a)

pub exp2_larger_r : (a b : ℤ) → exp2 b ≤q exp2 (larger a b)
exp2_larger_r a b = go (le_z a b) (λ h. exp2_mono b a (le_z_no a b h))
  where
    go : (t : Bool) → (T (not t) → exp2 b ≤q exp2 a) → exp2 b ≤q exp2 (cond t b a)
    go true h = ≤_refl (exp2 b)
    go false h = h tt

-- ---- from one bound to another
pub at_most_weaken : {x : Float} {a : ℤ} → AtMost x a → (b : ℤ) → T (le_z a b) → AtMost x b
at_most_weaken {x} {a} X b h = record { fin = X.fin; size = ≤_trans X.size (exp2_mono a b h) }

pub at_least_weaken : {x : Float} {b : ℤ} → AtLeast x b → (a : ℤ) → T (le_z a b) → AtLeast x a
at_least_weaken {x} {b} X a h = record { fin = X.fin; size = ≤_trans (exp2_mono a b h) X.size }

pub at_least_not_zero : {x : Float} {b : ℤ} → AtLeast x b → ¬ (value x ≈q nat 0)
at_least_not_zero {x} {b} X = not_zero_of_abs (<_≤_trans (exp2_pos b) X.size)

-- ---- |x| ≤ 2 ^ a: each operation
-- a result whose exact value is at most 2 ^ c in size
pub rounded_at_most : {x : Float} {z : ℚ} → Rounded binary64 x z → (c : ℤ) → T (held c) → absq z ≤q exp2 c → AtMost x c
rounded_at_most r c h l = let v = rounded_abs_≤ r (exp2_representable c h) l in record { fin = v.0; size = v.1 }

module _ {x y : Float} {a b : ℤ} (X : AtMost x a) (Y : AtMost y b) where
  pub at_most_⊗ : T (held (a +ℤ b)) → AtMost (x ⊗ y) (a +ℤ b)
  at_most_⊗ h = rounded_at_most (mul_rounded binary64 x y X.fin Y.fin) (a +ℤ b) h (≤_trans (abs_*_le (value x) (value y) X.size Y.size) (≤_of_≈ (≈_sym (exp2_+ a b))))

  twice_larger : exp2 a +q exp2 b ≤q exp2 (suc_ℤ (larger a b))
  twice_larger =
      let c = exp2 (larger a b) in
      ≤_trans (linq (exp2 a ∷ exp2 b ∷ c ∷ []) ((qv 0 ⊑ qv 2 by 1) ∷ (qv 1 ⊑ qv 2 by 1) ∷ []) 0 (qv 0 ⊞ qv 1) (## 2 ⊠ qv 2) tt (exp2_larger_l a b) (exp2_larger_r a b)) (≤_of_≈ (≈_sym (exp2_suc (larger a b))))

  pub at_most_⊕ : T (held (suc_ℤ (larger a b))) → AtMost (x ⊕ y) (suc_ℤ (larger a b))
  at_most_⊕ h = rounded_at_most (add_rounded binary64 x y X.fin Y.fin) (suc_ℤ (larger a b)) h (≤_trans (abs_+_le (value x) (value y) X.size Y.size) twice_larger)

  pub at_most_⊖ : T (held (suc_ℤ (larger a b))) → AtMost (x ⊖ y) (suc_ℤ (larger a b))
  at_most_⊖ h = rounded_at_most (sub_rounded binary64 x y X.fin Y.fin) (suc_ℤ (larger a b)) h (≤_trans (abs_minus_le (value x) (value y) X.size Y.size) twice_larger)

  pub at_most_maximum : AtMost (maximum x y) (larger a b)
  at_most_maximum = maximum_by x y X.fin Y.fin (λ z. AtMost z (larger a b)) (λ l. record { fin = Y.fin; size = ≤_trans Y.size (exp2_larger_r a b) }) (λ l. record { fin = X.fin; size = ≤_trans X.size (exp2_larger_l a b) })

-- divided by a y that is at least 2 ^ b
pub at_most_⊘ : {x y : Float} {a b : ℤ} → AtMost x a → AtLeast y b → T (held (a -ℤ b)) → AtMost (x ⊘ y) (a -ℤ b)
at_most_⊘ {x} {y} {a} {b} X Y h =
    rounded_at_most (div_rounded_q binary64 x y X.fin Y.fin (at_least_not_zero Y)) (a -ℤ b) h (≤_trans (abs_div_le (value x) (value y) (exp2_pos b) X.size Y.size) (≤_of_≈ (≈_sym (exp2_minus a b))))

pub at_most_neg : {x : Float} {a : ℤ} → AtMost x a → AtMost (neg x) a
at_most_neg {x} X = record { fin = neg_finite x X.fin; size = ≤_trans (≤_of_≈ (≈_trans (abs_cong (value_neg x)) (abs_neg (value x)))) X.size }

pub at_most_absolute : {x : Float} {a : ℤ} → AtMost x a → AtMost (absolute x) a
at_most_absolute {x} X = record { fin = absolute_finite x X.fin; size = ≤_trans (≤_of_≈ (≈_trans (abs_cong (value_absolute x)) (abs_abs (value x)))) X.size }

pub at_most_signum : (x : Float) → T (finite x) → AtMost (signum x) (pos 0)
at_most_signum x t = record { fin = signum_finite x t; size = ≤_of_≈ (≈_trans (abs_signum x t) (≈_sym exp2_0)) }

-- ---- 2 ^ b ≤ |x|: each operation, where its result is finite (an upper bound says so)
pub rounded_at_least : {x : Float} {z : ℚ} → Rounded binary64 x z → T (finite x) → (c : ℤ) → T (held c) → exp2 c ≤q absq z → AtLeast x c
rounded_at_least r t c h l = record { fin = t; size = rounded_abs_≥ r t (exp2_representable c h) l }

pub at_least_⊗ : {x y : Float} {a b : ℤ} → AtLeast x a → AtLeast y b → T (finite (x ⊗ y)) → T (held (a +ℤ b)) → AtLeast (x ⊗ y) (a +ℤ b)
at_least_⊗ {x} {y} {a} {b} X Y t h =
    rounded_at_least (mul_rounded binary64 x y X.fin Y.fin) t (a +ℤ b) h
    (≤_≈ (≈_sym (exp2_+ a b)) (≈_sym (abs_*_≈ (value x) (value y))) (*_mono₂ (≤_of_< (exp2_pos a)) (≤_of_< (exp2_pos b)) X.size Y.size))

pub at_least_⊘ : {x y : Float} {a b : ℤ} → AtLeast x a → AtMost y b → ¬ (value y ≈q nat 0) → T (finite (x ⊘ y)) → T (held (a -ℤ b)) → AtLeast (x ⊘ y) (a -ℤ b)
at_least_⊘ {x} {y} {a} {b} X Y n t h =
    rounded_at_least (div_rounded_q binary64 x y X.fin Y.fin n) t (a -ℤ b) h (≤_trans (≤_of_≈ (exp2_minus a b)) (abs_div_ge (value x) (value y) (≤_of_< (exp2_pos a)) X.size (abs_pos n) Y.size))

pub at_least_neg : {x : Float} {a : ℤ} → AtLeast x a → AtLeast (neg x) a
at_least_neg {x} X = record { fin = neg_finite x X.fin; size = ≤_trans X.size (≤_of_≈ (≈_sym (≈_trans (abs_cong (value_neg x)) (abs_neg (value x))))) }

pub at_least_absolute : {x : Float} {a : ℤ} → AtLeast x a → AtLeast (absolute x) a
at_least_absolute {x} X = record { fin = absolute_finite x X.fin; size = ≤_trans X.size (≤_of_≈ (≈_sym (≈_trans (abs_cong (value_absolute x)) (abs_abs (value x))))) }

-- ---- signs
pub non_negative_of : {x : Float} → Positive x → NonNegative x
non_negative_of X = record { fin = X.fin; sign = ≤_of_< X.sign }

-- not negative, and 2 ^ b at least in size
pub positive_of : {x : Float} {b : ℤ} → NonNegative x → AtLeast x b → Positive x
positive_of {x} {b} X B = record { fin = X.fin; sign = <_≤_trans (exp2_pos b) (≤_trans B.size (≤_of_≈ (abs_of_nonneg X.sign))) }

pub positive_not_zero : {x : Float} → Positive x → ¬ (value x ≈q nat 0)
positive_not_zero X = not_zero_of_pos X.sign

module _ {x y : Float} (X : NonNegative x) (Y : NonNegative y) where
  pub non_negative_⊕ : T (finite (x ⊕ y)) → NonNegative (x ⊕ y)
  non_negative_⊕ t = record { fin = t; sign = rounded_nonneg (add_rounded binary64 x y X.fin Y.fin) t (linq (value x ∷ value y ∷ []) ((## 0 ⊑ qv 0 by 1) ∷ (## 0 ⊑ qv 1 by 1) ∷ []) 0 (## 0) (qv 0 ⊞ qv 1) tt X.sign Y.sign) }

  pub non_negative_⊗ : T (finite (x ⊗ y)) → NonNegative (x ⊗ y)
  non_negative_⊗ t = record { fin = t; sign = rounded_nonneg (mul_rounded binary64 x y X.fin Y.fin) t (*_nonneg X.sign Y.sign) }

  -- the sum is at least each of the two
  pub at_least_⊕ : {b : ℤ} → AtLeast y b → T (finite (x ⊕ y)) → T (held b) → AtLeast (x ⊕ y) b
  at_least_⊕ {b} B t h =
      rounded_at_least (add_rounded binary64 x y X.fin Y.fin) t b h
      (≤_trans B.size (≤_trans (≤_of_≈ (abs_of_nonneg Y.sign)) (≤_trans (linq (value x ∷ value y ∷ []) ((## 0 ⊑ qv 0 by 1) ∷ []) 0 (qv 1) (qv 0 ⊞ qv 1) tt X.sign) (le_abs (value x +q value y)))))

pub non_negative_⊘ : {x y : Float} → NonNegative x → Positive y → T (finite (x ⊘ y)) → NonNegative (x ⊘ y)
non_negative_⊘ {x} {y} X Y t = record { fin = t; sign = rounded_nonneg (div_rounded_q binary64 x y X.fin Y.fin (positive_not_zero Y)) t (div_nonneg X.sign Y.sign) }

-- a difference of two in order
pub non_negative_⊖ : (x y : Float) → T (finite x) → T (finite y) → value y ≤q value x → T (finite (x ⊖ y)) → NonNegative (x ⊖ y)
non_negative_⊖ x y p q l t = record { fin = t; sign = rounded_nonneg (sub_rounded binary64 x y p q) t (linq (value x ∷ value y ∷ []) ((qv 1 ⊑ qv 0 by 1) ∷ []) 0 (## 0) (qv 0 ⊟ qv 1) tt l) }

pub non_negative_absolute : (x : Float) → T (finite x) → NonNegative (absolute x)
non_negative_absolute x t = record { fin = absolute_finite x t; sign = ≤_trans (abs_nonneg (value x)) (≤_of_≈ (≈_sym (value_absolute x))) }

pub non_negative_maximum : (x y : Float) → T (finite x) → NonNegative y → NonNegative (maximum x y)
non_negative_maximum x y p Y = record { fin = maximum_finite x y p Y.fin; sign = ≤_trans Y.sign (maximum_≥_r x y p Y.fin) }

-- ---- constants, by computation
unfoldable pub at_most_test : ℕ → ℤ → Bool
unfolding value of_bits leqb absq
at_most_test n a = finite (of_bits binary64 n) && leqb (absq (value (of_bits binary64 n))) (exp2 a)

pub constant_at_most : (n : ℕ) (a : ℤ) → T (at_most_test n a) → AtMost (of_bits binary64 n) a
unfolding at_most_test
constant_at_most n a t = record { fin = and_l (finite (of_bits binary64 n)) (leqb (absq (value (of_bits binary64 n))) (exp2 a)) t; size = lit_≤ (and_r (finite (of_bits binary64 n)) (leqb (absq (value (of_bits binary64 n))) (exp2 a)) t) }

unfoldable pub at_least_test : ℕ → ℤ → Bool
unfolding value of_bits leqb absq
at_least_test n a = finite (of_bits binary64 n) && leqb (exp2 a) (absq (value (of_bits binary64 n)))

pub constant_at_least : (n : ℕ) (a : ℤ) → T (at_least_test n a) → AtLeast (of_bits binary64 n) a
unfolding at_least_test
constant_at_least n a t = record { fin = and_l (finite (of_bits binary64 n)) (leqb (exp2 a) (absq (value (of_bits binary64 n)))) t; size = lit_≤ (and_r (finite (of_bits binary64 n)) (leqb (exp2 a) (absq (value (of_bits binary64 n)))) t) }
