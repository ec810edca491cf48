-- The absolute value of an exact fraction: against its number, in sums and products, and where it is above 0.
use Prim.Native.Nat.{ℕ, ◌+◌, ◌-◌, ◌*◌, ◌≤◌}
use mathlib.Core.Path.{◌≡◌, ap}
use mathlib.Core.Logic.{◌⊎◌, inl, inr}
use mathlib.Core.List.{List, [], ◌∷◌}
use native.Mathlib.Nat.{mul-le-mul_right}
use native.Mathlib.Omega.{arith, sub_cases}
use Rattle.exact.specs.Fraction.{ℚ, nat, negq, ◌*q◌, absq, ◌≤q◌, ◌<q◌, ◌≈q◌}
use Rattle.exact.proofs.FractionLaws.{≈_sym, ≈_trans, *_cong, ≤_of_≈, ≤_refl, ≤_trans, ≤_antisym, *_mono, neg_cong}
use Rattle.exact.proofs.FractionProver.{qv, ##, ◌⊠◌, ⊝, req, linq, ◌⊑◌by◌}
use Rattle.exact.proofs.StrictOrder.{≤_or_≤, <_of_≤_not_≈, not_≤_of_<, not_≈_of_>, *_nonneg}

-- ---- |x| is the larger of x and -x
pub le_abs : (x : ℚ) → x ≤q absq x
unfolding absq
le_abs x = record { le = omega (arith, mul-le-mul_right x.d (one x.p x.q)) }
  where
    one : (p q : ℕ) → p ≤ p - q + (q - p) + q
    one p q = omega arith

pub neg_le_abs : (x : ℚ) → negq x ≤q absq x
unfolding absq negq
neg_le_abs x = record { le = omega (arith, mul-le-mul_right x.d (one x.p x.q)) }
  where
    one : (p q : ℕ) → q ≤ p - q + (q - p) + p
    one p q = omega arith

pub abs_nonneg : (x : ℚ) → nat 0 ≤q absq x
unfolding absq nat
abs_nonneg x = record { le = omega arith }

pub abs_le : {x e : ℚ} → x ≤q e → negq x ≤q e → absq x ≤q e
unfolding absq negq
abs_le {x} {e} f g = record { le = go x.p x.q x.d e.p e.q e.d f.le g.le }
  where
    either : (p q : ℕ) (G : Type 0) → (p - q + (q - p) + q ≡ p → G) → (p - q + (q - p) + p ≡ q → G) → G
    either p q G a b = sub_cases p q G (λ l e. a (omega arith)) (λ l e. b (omega arith))

    go : (p q d ep eq ed : ℕ) → p * ed + eq * d ≤ ep * d + q * ed → q * ed + eq * d ≤ ep * d + p * ed → (p - q + (q - p)) * ed + eq * d ≤ ep * d + 0 * ed
    go p q d ep eq ed f g =
        either p q ((p - q + (q - p)) * ed + eq * d ≤ ep * d + 0 * ed)
        (λ (e : p - q + (q - p) + q ≡ p). omega (arith, ap (λ t. t * ed) e))
        (λ (e : p - q + (q - p) + p ≡ q). omega (arith, ap (λ t. t * ed) e))

pub abs_neg : (x : ℚ) → absq (negq x) ≈q absq x
unfolding absq negq
abs_neg x = record { eq = omega (arith, ap (λ t. t * x.d) (both x.p x.q)) }
  where
    both : (p q : ℕ) → q - p + (p - q) ≡ p - q + (q - p)
    both p q = omega arith

pub abs_mono_≈ : {x y : ℚ} → x ≈q y → absq x ≤q absq y
abs_mono_≈ {x} {y} e = abs_le (≤_trans (≤_of_≈ e) (le_abs y)) (≤_trans (≤_of_≈ (neg_cong e)) (neg_le_abs y))

pub abs_cong : {x y : ℚ} → x ≈q y → absq x ≈q absq y
abs_cong e = ≤_antisym (abs_mono_≈ e) (abs_mono_≈ (≈_sym e))

-- ---- by the sign
pub abs_of_nonneg : {x : ℚ} → nat 0 ≤q x → absq x ≈q x
abs_of_nonneg {x} h = ≤_antisym (abs_le (≤_refl x) (linq (x ∷ []) ((## 0 ⊑ qv 0 by 2) ∷ []) 0 (⊝ (qv 0)) (qv 0) tt h)) (le_abs x)

pub abs_of_nonpos : {x : ℚ} → x ≤q nat 0 → absq x ≈q negq x
abs_of_nonpos {x} h = ≤_antisym (abs_le (linq (x ∷ []) ((qv 0 ⊑ ## 0 by 2) ∷ []) 0 (qv 0) (⊝ (qv 0)) tt h) (≤_refl (negq x))) (neg_le_abs x)

pub abs_abs : (x : ℚ) → absq (absq x) ≈q absq x
abs_abs x = abs_of_nonneg (abs_nonneg x)

-- |x| is x or -x
pub abs_cases : (x : ℚ) → ((nat 0 ≤q x) × (absq x ≈q x)) ⊎ ((x ≤q nat 0) × (absq x ≈q negq x))
abs_cases x = elim (≤_or_≤ (nat 0) x) [ inl h ↦ inl (h, abs_of_nonneg h) | inr h ↦ inr (h, abs_of_nonpos h) ]

-- ---- bounds as two inequalities
pub le_of_abs : {x e : ℚ} → absq x ≤q e → x ≤q e
le_of_abs {x} h = ≤_trans (le_abs x) h

pub neg_le_of_abs : {x e : ℚ} → absq x ≤q e → negq e ≤q x
neg_le_of_abs {x} {e} h = linq (x ∷ e ∷ []) ((⊝ (qv 0) ⊑ qv 1 by 1) ∷ []) 0 (⊝ (qv 1)) (qv 0) tt (≤_trans (neg_le_abs x) h)

-- -e ≤ x ≤ e
pub abs_between : {x e : ℚ} → negq e ≤q x → x ≤q e → absq x ≤q e
abs_between {x} {e} g h = abs_le h (linq (x ∷ e ∷ []) ((⊝ (qv 1) ⊑ qv 0 by 1) ∷ []) 0 (⊝ (qv 0)) (qv 1) tt g)

-- 0 ≤ x ≤ e
pub abs_of_upto : {x e : ℚ} → nat 0 ≤q x → x ≤q e → absq x ≤q e
abs_of_upto g h = ≤_trans (≤_of_≈ (abs_of_nonneg g)) h

-- ---- products and sums
pub abs_*_≈ : (x y : ℚ) → absq (x *q y) ≈q absq x *q absq y
abs_*_≈ x y = go (≤_or_≤ (nat 0) x) (≤_or_≤ (nat 0) y)
  where
    ρ : List ℚ
    ρ = x ∷ y ∷ []

    go : (nat 0 ≤q x) ⊎ (x ≤q nat 0) → (nat 0 ≤q y) ⊎ (y ≤q nat 0) → absq (x *q y) ≈q absq x *q absq y
    go (inl f) (inl g) = ≈_trans (abs_of_nonneg (*_nonneg f g)) (*_cong (≈_sym (abs_of_nonneg f)) (≈_sym (abs_of_nonneg g)))
    go (inl f) (inr g) =
        let h : x *q y ≤q x *q nat 0 = *_mono f g in
        ≈_trans (abs_of_nonpos (linq (x ∷ y ∷ []) ((qv 0 ⊠ qv 1 ⊑ qv 0 ⊠ ## 0 by 1) ∷ []) 0 (qv 0 ⊠ qv 1) (## 0) tt h))
        (≈_trans (req (x ∷ y ∷ []) (⊝ (qv 0 ⊠ qv 1)) (qv 0 ⊠ ⊝ (qv 1)) tt tt) (*_cong (≈_sym (abs_of_nonneg f)) (≈_sym (abs_of_nonpos g))))
    go (inr f) (inl g) =
        let h : y *q x ≤q y *q nat 0 = *_mono g f in
        ≈_trans (abs_of_nonpos (linq (x ∷ y ∷ []) ((qv 1 ⊠ qv 0 ⊑ qv 1 ⊠ ## 0 by 1) ∷ []) 0 (qv 0 ⊠ qv 1) (## 0) tt h))
        (≈_trans (req (x ∷ y ∷ []) (⊝ (qv 0 ⊠ qv 1)) (⊝ (qv 0) ⊠ qv 1) tt tt) (*_cong (≈_sym (abs_of_nonpos f)) (≈_sym (abs_of_nonneg g))))
    go (inr f) (inr g) =
        let h : nat 0 ≤q negq x *q negq y = *_nonneg (linq (x ∷ []) ((qv 0 ⊑ ## 0 by 1) ∷ []) 0 (## 0) (⊝ (qv 0)) tt f) (linq (y ∷ []) ((qv 0 ⊑ ## 0 by 1) ∷ []) 0 (## 0) (⊝ (qv 0)) tt g) in
        ≈_trans (abs_of_nonneg (linq (x ∷ y ∷ []) ((## 0 ⊑ ⊝ (qv 0) ⊠ ⊝ (qv 1) by 1) ∷ []) 0 (## 0) (qv 0 ⊠ qv 1) tt h))
        (≈_trans (req (x ∷ y ∷ []) (qv 0 ⊠ qv 1) (⊝ (qv 0) ⊠ ⊝ (qv 1)) tt tt) (*_cong (≈_sym (abs_of_nonpos f)) (≈_sym (abs_of_nonpos g))))

-- ---- above 0 where x is not 0
pub abs_pos : {x : ℚ} → ¬ (x ≈q nat 0) → nat 0 <q absq x
abs_pos {x} n = <_of_≤_not_≈ (abs_nonneg x) (λ e. n (zero_of e))
  where
    zero_of : nat 0 ≈q absq x → x ≈q nat 0
    zero_of e = ≤_antisym (≤_trans (le_abs x) (≤_of_≈ (≈_sym e))) (linq (x ∷ []) ((⊝ (qv 0) ⊑ ## 0 by 1) ∷ []) 0 (## 0) (qv 0) tt (≤_trans (neg_le_abs x) (≤_of_≈ (≈_sym e))))

pub not_zero_of_abs : {x : ℚ} → nat 0 <q absq x → ¬ (x ≈q nat 0)
not_zero_of_abs {x} h e = not_≤_of_< h (≤_trans (abs_mono_≈ e) (≤_of_≈ (abs_of_nonneg (≤_refl (nat 0)))))

pub not_zero_of_pos : {x : ℚ} → nat 0 <q x → ¬ (x ≈q nat 0)
not_zero_of_pos h = not_≈_of_> h
