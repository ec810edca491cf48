-- The laws of the exact fractions: a commutative ring up to being the same number, in order; whole numbers among them; closed comparisons by computation.
use Prim.Native.Nat.{ℕ, ◌+◌, ◌*◌, ◌≤◌, ◌<◌, max}
use mathlib.Core.Path.{◌≡◌, refl, ap, subst₂}
use native.Mathlib.Nat.{mul-pos, mul-le-mul_right, le_of_eq, le_of_mul-le-mul_right, eq_of_mul-eq-mul_right, le_dest}
use native.Mathlib.Omega.{arith}
use lib.Dec.{T, leb→le}
use mathlib.Core.List.{[], ◌∷◌}
use Rattle.exact.proofs.NatProver.{ν, ◌⊹◌, ◌⋆◌, poly_eq}
use Rattle.exact.specs.Fraction.{ℚ, ◌//◌, nat, ◌+q◌, negq, ◌*q◌, ◌≤q◌, ◌≈q◌, leqb}

-- ---- the same number
pub ≈_refl : (x : ℚ) → x ≈q x
≈_refl x = record { eq = refl }

pub ≈_sym : {x y : ℚ} → x ≈q y → y ≈q x
≈_sym e = let h = e.eq in record { eq = omega arith }

pub ≈_trans : {x y z : ℚ} → x ≈q y → y ≈q z → x ≈q z
≈_trans {x} {y} {z} e f =
    let g = e.eq in let h = f.eq in
    record { eq = eq_of_mul-eq-mul_right y.d y.d_pos _ _ (go x.p x.q x.d y.p y.q y.d z.p z.q z.d g h) }
  where
    go : (xp xq xd yp yq yd zp zq zd : ℕ) → xp * yd + yq * xd ≡ yp * xd + xq * yd → yp * zd + zq * yd ≡ zp * yd + yq * zd → (xp * zd + zq * xd) * yd ≡ (zp * xd + xq * zd) * yd
    go xp xq xd yp yq yd zp zq zd g h = omega (arith, ap (λ t. t * zd) g, ap (λ t. t * xd) h)

-- ---- a commutative ring, up to ≈
pub +_comm : (x y : ℚ) → x +q y ≈q y +q x
unfolding ◌+q◌
+_comm x y = record { eq = omega arith }

pub +_assoc : (x y z : ℚ) → x +q y +q z ≈q x +q (y +q z)
unfolding ◌+q◌
+_assoc x y z = record { eq = omega arith }

pub *_comm : (x y : ℚ) → x *q y ≈q y *q x
unfolding ◌*q◌
*_comm x y = record { eq = omega arith }

pub *_assoc : (x y z : ℚ) → x *q y *q z ≈q x *q (y *q z)
unfolding ◌*q◌
*_assoc x y z = record { eq = omega arith }

pub *-+ : (x y z : ℚ) → x *q (y +q z) ≈q x *q y +q x *q z
unfolding ◌*q◌ ◌+q◌
*-+ x y z =
    let xp = ν 0 in let xq = ν 1 in let xd = ν 2 in let yp = ν 3 in let yq = ν 4 in let yd = ν 5 in let zp = ν 6 in let zq = ν 7 in let zd = ν 8 in
    let lp = xp ⋆ (yp ⋆ zd ⊹ zp ⋆ yd) ⊹ xq ⋆ (yq ⋆ zd ⊹ zq ⋆ yd) in
    let lq = xp ⋆ (yq ⋆ zd ⊹ zq ⋆ yd) ⊹ xq ⋆ (yp ⋆ zd ⊹ zp ⋆ yd) in
    let ld = xd ⋆ (yd ⋆ zd) in
    let rp = (xp ⋆ yp ⊹ xq ⋆ yq) ⋆ (xd ⋆ zd) ⊹ (xp ⋆ zp ⊹ xq ⋆ zq) ⋆ (xd ⋆ yd) in
    let rq = (xp ⋆ yq ⊹ xq ⋆ yp) ⋆ (xd ⋆ zd) ⊹ (xp ⋆ zq ⊹ xq ⋆ zp) ⋆ (xd ⋆ yd) in
    let rd = xd ⋆ yd ⋆ (xd ⋆ zd) in
    record { eq = poly_eq (x.p ∷ x.q ∷ x.d ∷ y.p ∷ y.q ∷ y.d ∷ z.p ∷ z.q ∷ z.d ∷ []) (lp ⋆ rd ⊹ rq ⋆ ld) (rp ⋆ ld ⊹ lq ⋆ rd) tt tt }

pub +_cong_r : (x : ℚ) {y z : ℚ} → y ≈q z → x +q y ≈q x +q z
unfolding ◌+q◌
+_cong_r x {y} {z} e = record { eq = omega (arith, ap (λ t. t * (x.d * x.d)) e.eq) }

pub +_cong : {x y z w : ℚ} → x ≈q y → z ≈q w → x +q z ≈q y +q w
+_cong {x} {y} {z} {w} e f = ≈_trans (+_cong_r x f) (≈_trans (+_comm x w) (≈_trans (+_cong_r w e) (+_comm w y)))

pub *_cong_r : (x : ℚ) {y z : ℚ} → y ≈q z → x *q y ≈q x *q z
unfolding ◌*q◌
*_cong_r x {y} {z} e = record { eq = omega (arith, ap (λ t. t * (x.p * x.d)) e.eq, ap (λ t. t * (x.q * x.d)) e.eq) }

pub *_cong : {x y z w : ℚ} → x ≈q y → z ≈q w → x *q z ≈q y *q w
*_cong {x} {y} {z} {w} e f = ≈_trans (*_cong_r x f) (≈_trans (*_comm x w) (≈_trans (*_cong_r w e) (*_comm w y)))

pub zero_+ : (x : ℚ) → nat 0 +q x ≈q x
unfolding ◌+q◌ nat
zero_+ x = record { eq = omega arith }

pub zero_* : (x : ℚ) → nat 0 *q x ≈q nat 0
unfolding ◌*q◌ nat
zero_* x = record { eq = omega arith }

pub one_* : (x : ℚ) → nat 1 *q x ≈q x
unfolding ◌*q◌ nat
one_* x = record { eq = omega arith }

pub nat_+ : (a b : ℕ) → nat (a + b) ≈q nat a +q nat b
unfolding ◌+q◌ nat
nat_+ a b = record { eq = omega arith }

pub nat_* : (a b : ℕ) → nat (a * b) ≈q nat a *q nat b
unfolding ◌*q◌ nat
nat_* a b = record { eq = omega arith }

pub neg_cong : {x y : ℚ} → x ≈q y → negq x ≈q negq y
unfolding negq
neg_cong e = let h = e.eq in record { eq = omega arith }

pub neg_neg : (x : ℚ) → negq (negq x) ≈q x
unfolding negq
neg_neg x = ≈_refl x

pub neg_+ : (x : ℚ) → negq x +q x ≈q nat 0
unfolding negq ◌+q◌ nat
neg_+ x = record { eq = omega arith }

-- the denominator of a // b
pub max_one : (b : ℕ) → 0 < b → max b 1 ≡ b
max_one b h = omega arith

pub frac_is : (a b : ℕ) → nat (max b 1) *q (a // b) ≈q nat a
unfolding ◌*q◌ ◌//◌ nat
frac_is a b = record { eq = omega arith }

-- ---- the order
pub ≤_of_≈ : {x y : ℚ} → x ≈q y → x ≤q y
≤_of_≈ e = record { le = le_of_eq e.eq }

pub ≤_refl : (x : ℚ) → x ≤q x
≤_refl x = ≤_of_≈ (≈_refl x)

pub ≤_trans : {x y z : ℚ} → x ≤q y → y ≤q z → x ≤q z
≤_trans {x} {y} {z} e f =
    let g = e.le in let h = f.le in
    record { le = le_of_mul-le-mul_right {k = y.d} (omega (arith, mul-le-mul_right z.d g, mul-le-mul_right x.d h)) y.d_pos }

pub ≤_antisym : {x y : ℚ} → x ≤q y → y ≤q x → x ≈q y
≤_antisym f g = let h = f.le in let k = g.le in record { eq = omega arith }

pub +_mono_r : (x : ℚ) {y z : ℚ} → y ≤q z → x +q y ≤q x +q z
unfolding ◌+q◌
+_mono_r x {y} {z} e = record { le = omega (arith, mul-le-mul_right (x.d * x.d) e.le) }

pub +_mono : {x y z w : ℚ} → x ≤q y → z ≤q w → x +q z ≤q y +q w
+_mono {x} {y} {z} {w} e f = ≤_trans (+_mono_r x f) (≤_trans (≤_of_≈ (+_comm x w)) (≤_trans (+_mono_r w e) (≤_of_≈ (+_comm w y))))

pub +_cancel : (x : ℚ) {y z : ℚ} → x +q y ≤q x +q z → y ≤q z
unfolding ◌+q◌
+_cancel x {y} {z} e = record { le = le_of_mul-le-mul_right {k = x.d * x.d} (let h = e.le in omega arith) (mul-pos x.d_pos x.d_pos) }

pub neg_mono : {x y : ℚ} → x ≤q y → negq y ≤q negq x
unfolding negq
neg_mono e = let h = e.le in record { le = omega arith }

pub nat_cancel : (m : ℕ) {x y : ℚ} → 0 < m → nat m *q x ≤q nat m *q y → x ≤q y
unfolding nat ◌*q◌
nat_cancel m {x} {y} M e = record { le = le_of_mul-le-mul_right {k = m} (let h = e.le in omega arith) M }

-- a product of two hypotheses
cross : (x y p q : ℕ) → x ≤ y → p ≤ q → x * q + y * p ≤ x * p + y * q
cross x y p q f g = let (d, e) = le_dest f in let (c, i) = le_dest g in subst₂ (λ y q. x * q + y * p ≤ x * p + y * q) e i (omega arith)

pub *_mono : {c x y : ℚ} → nat 0 ≤q c → x ≤q y → c *q x ≤q c *q y
unfolding nat ◌*q◌
*_mono {c} {x} {y} C e =
    let n : c.q ≤ c.p = let h = C.le in omega arith in
    record { le = go c.p c.q c.d x.p x.q x.d y.p y.q y.d (cross c.q c.p (x.p * y.d + y.q * x.d) (y.p * x.d + x.q * y.d) n e.le) }
  where
    go : (cp cq cd xp xq xd yp yq yd : ℕ) → cq * (yp * xd + xq * yd) + cp * (xp * yd + yq * xd) ≤ cq * (xp * yd + yq * xd) + cp * (yp * xd + xq * yd)
        → (cp * xp + cq * xq) * (cd * yd) + (cp * yq + cq * yp) * (cd * xd) ≤ (cp * yp + cq * yq) * (cd * xd) + (cp * xq + cq * xp) * (cd * yd)
    go cp cq cd xp xq xd yp yq yd h = omega (arith, mul-le-mul_right cd h)

pub lit_≤ : {x y : ℚ} → T (leqb x y) → x ≤q y
unfolding leqb
lit_≤ {x} {y} t = record { le = leb→le (x.p * y.d + y.q * x.d) (y.p * x.d + x.q * y.d) t }
