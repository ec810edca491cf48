-- The strict order of the exact fractions: x < y is what y ≤ x is not, and what it does in sums, products and tests.
use Prim.Native.Nat.{ℕ, suc, ◌+◌, ◌*◌, ◌≤◌, ◌<◌}
use mathlib.Core.Path.{subst}
use mathlib.Core.List.{[], ◌∷◌}
use mathlib.Core.Logic.{◌⊎◌, inl, inr}
use mathlib.Core.Bool.{Bool, true, false, not}
use native.Mathlib.Nat.{mul-pos, le_of_lt, le_of_mul-le-mul_right, le_dest}
use native.Mathlib.Omega.{arith}
use lib.Dec.{T, leb, leb→le, nleb→lt, ltb→lt}
use Rattle.exact.specs.Fraction.{ℚ, ◌//◌, nat, ◌+q◌, negq, ◌-q◌, ◌*q◌, ◌≤q◌, ◌<q◌, ◌≈q◌, leqb, ltqb, one_or_more}
use Rattle.exact.proofs.FractionLaws.{≈_sym, ≤_of_≈, ≤_refl, ≤_trans, ≤_antisym, *_mono}
use Rattle.exact.proofs.FractionProver.{qv, ##, ◌⊞◌, ◌⊟◌, ◌⊠◌, ⊝, leq, linq, ◌⊑◌by◌}

-- ---- against the weak order
pub ≤_of_< : {x y : ℚ} → x <q y → x ≤q y
≤_of_< h = record { le = le_of_lt h.lt }

pub not_≤_of_< : {x y : ℚ} → x <q y → ¬ (y ≤q x)
not_≤_of_< h g = let a = h.lt in let b = g.le in omega arith

pub not_<_of_≤ : {x y : ℚ} → x ≤q y → ¬ (y <q x)
not_<_of_≤ g h = not_≤_of_< h g

pub ≤_or_< : (x y : ℚ) → (x ≤q y) ⊎ (y <q x)
≤_or_< x y = go (leb (x.p * y.d + y.q * x.d) (y.p * x.d + x.q * y.d)) (leb→le (x.p * y.d + y.q * x.d) (y.p * x.d + x.q * y.d)) (nleb→lt (x.p * y.d + y.q * x.d) (y.p * x.d + x.q * y.d))
  where
    go : (b : Bool) → (T b → x.p * y.d + y.q * x.d ≤ y.p * x.d + x.q * y.d) → (T (not b) → y.p * x.d + x.q * y.d < x.p * y.d + y.q * x.d) → (x ≤q y) ⊎ (y <q x)
    go true f g = inl (record { le = f tt })
    go false f g = inr (record { lt = g tt })

pub <_of_not_≤ : {x y : ℚ} → ¬ (y ≤q x) → x <q y
<_of_not_≤ {x} {y} n = elim (≤_or_< y x) [ inl h ↦ absurd (n h) | inr h ↦ h ]

pub ≤_of_not_< : {x y : ℚ} → ¬ (y <q x) → x ≤q y
≤_of_not_< {x} {y} n = elim (≤_or_< x y) [ inl h ↦ h | inr h ↦ absurd (n h) ]

pub ≤_or_≤ : (x y : ℚ) → (x ≤q y) ⊎ (y ≤q x)
≤_or_≤ x y = elim (≤_or_< x y) [ inl h ↦ inl h | inr h ↦ inr (≤_of_< h) ]

-- ---- against being the same number
pub <_irrefl : (x : ℚ) → ¬ (x <q x)
<_irrefl x h = not_≤_of_< h (≤_refl x)

pub not_≈_of_< : {x y : ℚ} → x <q y → ¬ (x ≈q y)
not_≈_of_< h e = not_≤_of_< h (≤_of_≈ (≈_sym e))

pub not_≈_of_> : {x y : ℚ} → x <q y → ¬ (y ≈q x)
not_≈_of_> h e = not_≤_of_< h (≤_of_≈ e)

pub <_of_≤_not_≈ : {x y : ℚ} → x ≤q y → ¬ (x ≈q y) → x <q y
<_of_≤_not_≈ h n = <_of_not_≤ (λ g. n (≤_antisym h g))

-- one of the three
pub <_or_≈_or_> : (x y : ℚ) → (x <q y) ⊎ ((x ≈q y) ⊎ (y <q x))
<_or_≈_or_> x y = elim (≤_or_< y x) [ inr h ↦ inl h | inl h ↦ elim (≤_or_< x y) [ inl g ↦ inr (inl (≤_antisym g h)) | inr g ↦ inr (inr g) ] ]

-- ---- chains
pub <_≤_trans : {x y z : ℚ} → x <q y → y ≤q z → x <q z
<_≤_trans h g = <_of_not_≤ (λ k. not_≤_of_< h (≤_trans g k))

pub ≤_<_trans : {x y z : ℚ} → x ≤q y → y <q z → x <q z
≤_<_trans g h = <_of_not_≤ (λ k. not_≤_of_< h (≤_trans k g))

pub <_trans : {x y z : ℚ} → x <q y → y <q z → x <q z
<_trans h g = <_≤_trans h (≤_of_< g)

pub <-≈ : {x y x' y' : ℚ} → x ≈q x' → y ≈q y' → x <q y → x' <q y'
<-≈ e f h = ≤_<_trans (≤_of_≈ (≈_sym e)) (<_≤_trans h (≤_of_≈ f))

pub ≤_≈ : {x y x' y' : ℚ} → x ≈q x' → y ≈q y' → x ≤q y → x' ≤q y'
≤_≈ e f h = ≤_trans (≤_of_≈ (≈_sym e)) (≤_trans h (≤_of_≈ f))

-- ---- sums
pub +_mono_<_≤ : {x y z w : ℚ} → x <q y → z ≤q w → x +q z <q y +q w
+_mono_<_≤ {x} {y} {z} {w} h g = <_of_not_≤ (λ (k : y +q w ≤q x +q z). not_≤_of_< h (linq (x ∷ y ∷ z ∷ w ∷ []) ((qv 1 ⊞ qv 3 ⊑ qv 0 ⊞ qv 2 by 1) ∷ (qv 2 ⊑ qv 3 by 1) ∷ []) 0 (qv 1) (qv 0) tt k g))

pub +_mono_≤_< : {x y z w : ℚ} → x ≤q y → z <q w → x +q z <q y +q w
+_mono_≤_< {x} {y} {z} {w} h g = <_of_not_≤ (λ (k : y +q w ≤q x +q z). not_≤_of_< g (linq (x ∷ y ∷ z ∷ w ∷ []) ((qv 1 ⊞ qv 3 ⊑ qv 0 ⊞ qv 2 by 1) ∷ (qv 0 ⊑ qv 1 by 1) ∷ []) 0 (qv 3) (qv 2) tt k h))

pub neg_mono_< : {x y : ℚ} → x <q y → negq y <q negq x
neg_mono_< {x} {y} h = <_of_not_≤ (λ (k : negq x ≤q negq y). not_≤_of_< h (linq (x ∷ y ∷ []) ((⊝ (qv 0) ⊑ ⊝ (qv 1) by 1) ∷ []) 0 (qv 1) (qv 0) tt k))

pub sub_pos : {x y : ℚ} → x <q y → nat 0 <q y -q x
sub_pos {x} {y} h = <_of_not_≤ (λ (k : y -q x ≤q nat 0). not_≤_of_< h (linq (x ∷ y ∷ []) ((qv 1 ⊟ qv 0 ⊑ ## 0 by 1) ∷ []) 0 (qv 1) (qv 0) tt k))

pub <_of_sub_pos : {x y : ℚ} → nat 0 <q y -q x → x <q y
<_of_sub_pos {x} {y} h = <_of_not_≤ (λ (k : y ≤q x). not_≤_of_< h (linq (x ∷ y ∷ []) ((qv 1 ⊑ qv 0 by 1) ∷ []) 0 (qv 1 ⊟ qv 0) (## 0) tt k))

-- ---- products with a factor above 0
pub *_cancel_≤ : {c x y : ℚ} → nat 0 <q c → c *q x ≤q c *q y → x ≤q y
unfolding nat ◌*q◌
*_cancel_≤ {c} {x} {y} C e =
    let n : c.q < c.p = let h = C.lt in omega arith in
    record { le = go c.p c.q c.d x.p x.q x.d y.p y.q y.d n c.d_pos e.le }
  where
    at : (n cq cd xp xq xd yp yq yd : ℕ) → 0 < cd → ((suc cq + n) * xp + cq * xq) * (cd * yd) + ((suc cq + n) * yq + cq * yp) * (cd * xd) ≤ ((suc cq + n) * yp + cq * yq) * (cd * xd) + ((suc cq + n) * xq + cq * xp) * (cd * yd) → xp * yd + yq * xd ≤ yp * xd + xq * yd
    at n cq cd xp xq xd yp yq yd D h = le_of_mul-le-mul_right {k = cd * suc n} (omega arith) (mul-pos D (omega arith))

    go : (cp cq cd xp xq xd yp yq yd : ℕ) → cq < cp → 0 < cd → (cp * xp + cq * xq) * (cd * yd) + (cp * yq + cq * yp) * (cd * xd) ≤ (cp * yp + cq * yq) * (cd * xd) + (cp * xq + cq * xp) * (cd * yd) → xp * yd + yq * xd ≤ yp * xd + xq * yd
    go cp cq cd xp xq xd yp yq yd n D = let (m, e) = le_dest n in subst (λ (cp : ℕ). (cp * xp + cq * xq) * (cd * yd) + (cp * yq + cq * yp) * (cd * xd) ≤ (cp * yp + cq * yq) * (cd * xd) + (cp * xq + cq * xp) * (cd * yd) → xp * yd + yq * xd ≤ yp * xd + xq * yd) e (at m cq cd xp xq xd yp yq yd D)

pub *_mono_< : {c x y : ℚ} → nat 0 <q c → x <q y → c *q x <q c *q y
*_mono_< C h = <_of_not_≤ (λ k. not_≤_of_< h (*_cancel_≤ C k))

pub *_cancel_< : {c x y : ℚ} → nat 0 ≤q c → c *q x <q c *q y → x <q y
*_cancel_< C h = <_of_not_≤ (λ k. not_≤_of_< h (*_mono C k))

pub *_cancel_≈ : {c x y : ℚ} → nat 0 <q c → c *q x ≈q c *q y → x ≈q y
*_cancel_≈ C e = ≤_antisym (*_cancel_≤ C (≤_of_≈ e)) (*_cancel_≤ C (≤_of_≈ (≈_sym e)))

pub *_pos : {x y : ℚ} → nat 0 <q x → nat 0 <q y → nat 0 <q x *q y
*_pos {x} {y} X Y = ≤_<_trans (leq (x ∷ []) (## 0) (qv 0 ⊠ ## 0) tt) (*_mono_< X Y)

pub *_nonneg : {x y : ℚ} → nat 0 ≤q x → nat 0 ≤q y → nat 0 ≤q x *q y
*_nonneg {x} {y} X Y = ≤_trans (leq (x ∷ []) (## 0) (qv 0 ⊠ ## 0) tt) (*_mono X Y)

-- ---- closed fractions, by computation
pub lit_< : {x y : ℚ} → T (ltqb x y) → x <q y
unfolding ltqb
lit_< {x} {y} t = record { lt = ltb→lt (x.p * y.d + y.q * x.d) (y.p * x.d + x.q * y.d) t }

pub lit_≈ : {x y : ℚ} → T (leqb x y) → T (leqb y x) → x ≈q y
unfolding leqb
lit_≈ {x} {y} t u = ≤_antisym (record { le = leb→le (x.p * y.d + y.q * x.d) (y.p * x.d + x.q * y.d) t }) (record { le = leb→le (y.p * x.d + x.q * y.d) (x.p * y.d + y.q * x.d) u })

pub nat_nonneg : (n : ℕ) → nat 0 ≤q nat n
unfolding nat
nat_nonneg n = record { le = omega arith }

pub nat_< : {a b : ℕ} → a < b → nat a <q nat b
unfolding nat
nat_< h = record { lt = omega arith }

pub frac_pos : (a b : ℕ) → 0 < a → nat 0 <q a // b
unfolding nat ◌//◌
frac_pos a b h = record { lt = omega (arith, one_or_more b) }
