-- The quotient of two exact fractions: x / y is the one number z with z y = x. Its sign and size, its bounds, and how far two quotients are apart.
use Prim.Native.Nat.{ℕ, ◌+◌, ◌-◌, ◌*◌, ◌<◌, max}
use mathlib.Core.Path.{◌≡◌, sym, subst}
use mathlib.Core.List.{[], ◌∷◌}
use mathlib.Core.Logic.{inl, inr}
use native.Mathlib.Nat.{mul-pos}
use native.Mathlib.Omega.{arith, ne_cases}
use Rattle.exact.specs.Fraction.{ℚ, ◌//◌, nat, ◌+q◌, negq, ◌-q◌, ◌*q◌, ◌/q◌, absq, ◌≤q◌, ◌<q◌, ◌≈q◌, Within}
use Rattle.exact.proofs.FractionLaws.{max_one, ≈_refl, ≈_sym, ≈_trans, +_cong, *_comm, *_assoc, *_cong, *_cong_r, one_*, zero_*, neg_cong, ≤_of_≈, ≤_trans, *_mono}
use Rattle.exact.proofs.FractionProver.{qv, ##, ◌⊞◌, ◌⊟◌, ◌⊠◌, ⊝, req}
use Rattle.exact.proofs.StrictOrder.{≤_of_<, <_or_≈_or_>, <_of_not_≤, not_≤_of_<, <_≤_trans, ≤_<_trans, <-≈, neg_mono_<, *_cancel_≤, *_cancel_≈, nat_<}
use Rattle.exact.proofs.AbsoluteValue.{abs_nonneg, abs_cong, abs_*_≈, abs_pos, not_zero_of_abs, not_zero_of_pos}
use Rattle.exact.proofs.Closeness.{within_abs, abs_within, within_trans, within_≈, abs_*_le}

-- with yp = yq + n
up_case : (xp xq xd yq yd n : ℕ) → ((xp * n + xq * 0) * yd * (yq + n) + (xq * n + xp * 0) * yd * yq) * xd + xq * (xd * (n * n + 0 * 0) * yd) ≡ xp * (xd * (n * n + 0 * 0) * yd) + ((xp * n + xq * 0) * yd * yq + (xq * n + xp * 0) * yd * (yq + n)) * xd
up_case xp xq xd yq yd n = omega arith

down_case : (xp xq xd yp yd m : ℕ) → ((xp * 0 + xq * m) * yd * yp + (xq * 0 + xp * m) * yd * (yp + m)) * xd + xq * (xd * (0 * 0 + m * m) * yd) ≡ xp * (xd * (0 * 0 + m * m) * yd) + ((xp * 0 + xq * m) * yd * (yp + m) + (xq * 0 + xp * m) * yd * yp) * xd
down_case xp xq xd yp yd m = omega arith

Goal : (xp xq xd yp yq yd n m : ℕ) → Type 0
Goal xp xq xd yp yq yd n m = ((xp * n + xq * m) * yd * yp + (xq * n + xp * m) * yd * yq) * xd + xq * (max (xd * (n * n + m * m)) 1 * yd) ≡ xp * (max (xd * (n * n + m * m)) 1 * yd) + ((xp * n + xq * m) * yd * yq + (xq * n + xp * m) * yd * yp) * xd

pub div_* : (x y : ℚ) → ¬ (y ≈q nat 0) → (x /q y) *q y ≈q x
unfolding ◌/q◌ ◌*q◌ nat Goal
div_* x y nz = record { eq = go x.p x.q x.d y.p y.q y.d x.d_pos (λ (e : y.p ≡ y.q). nz (record { eq = omega arith })) }
  where
    above : (xp xq xd yq yd n yp m : ℕ) → 0 < xd → 0 < n → m ≡ 0 → yp ≡ yq + n → Goal xp xq xd yp yq yd n m
    above xp xq xd yq yd n yp m X N e g =
        subst (λ (m : ℕ). Goal xp xq xd yp yq yd n m) (sym e)
        (subst (λ (yp : ℕ). Goal xp xq xd yp yq yd n 0) (sym g)
        (rw (max_one (xd * (n * n + 0 * 0)) (mul-pos X (omega (arith, mul-pos N N)))) (up_case xp xq xd yq yd n)))

    below : (xp xq xd yp yd m yq n : ℕ) → 0 < xd → 0 < m → n ≡ 0 → yq ≡ yp + m → Goal xp xq xd yp yq yd n m
    below xp xq xd yp yd m yq n X N e g =
        subst (λ (n : ℕ). Goal xp xq xd yp yq yd n m) (sym e)
        (subst (λ (yq : ℕ). Goal xp xq xd yp yq yd 0 m) (sym g)
        (rw (max_one (xd * (0 * 0 + m * m)) (mul-pos X (omega (arith, mul-pos N N)))) (down_case xp xq xd yp yd m)))

    go : (xp xq xd yp yq yd : ℕ) → 0 < xd → ¬ (yp ≡ yq) → Goal xp xq xd yp yq yd (yp - yq) (yq - yp)
    go xp xq xd yp yq yd X ne =
        ne_cases yp yq (Goal xp xq xd yp yq yd (yp - yq) (yq - yp)) ne
        (λ (l : yp < yq). below xp xq xd yp yd (yq - yp) yq (yp - yq) X (omega arith) (omega arith) (omega arith))
        (λ (l : yq < yp). above xp xq xd yq yd (yp - yq) yp (yq - yp) X (omega arith) (omega arith) (omega arith))

-- ---- the one number z with z y = x
pub *_cancel_r : {x y z : ℚ} → ¬ (y ≈q nat 0) → x *q y ≈q z *q y → x ≈q z
*_cancel_r {x} {y} {z} n e = elim (<_or_≈_or_> (nat 0) y) [
  | inl h ↦ *_cancel_≈ h (≈_trans (*_comm y x) (≈_trans e (*_comm z y)))
  | inr h ↦ elim h [
    | inl g ↦ absurd (n (≈_sym g))
    | inr g ↦
        *_cancel_≈ (<-≈ (leq_0) (≈_refl (negq y)) (neg_mono_< g))
        (≈_trans (req (x ∷ y ∷ []) (⊝ (qv 1) ⊠ qv 0) (⊝ (qv 0 ⊠ qv 1)) tt tt) (≈_trans (neg_cong e) (req (z ∷ y ∷ []) (⊝ (qv 0 ⊠ qv 1)) (⊝ (qv 1) ⊠ qv 0) tt tt)))
  ]
]
  where
    leq_0 : negq (nat 0) ≈q nat 0
    leq_0 = req [] (⊝ (## 0)) (## 0) tt tt

pub div_unique : {x y z : ℚ} → ¬ (y ≈q nat 0) → z *q y ≈q x → z ≈q x /q y
div_unique {x} {y} {z} n e = *_cancel_r n (≈_trans e (≈_sym (div_* x y n)))

pub div_cong : {x y z w : ℚ} → ¬ (y ≈q nat 0) → x ≈q z → y ≈q w → x /q y ≈q z /q w
div_cong {x} {y} {z} {w} n e f = div_unique (λ k. n (≈_trans f k)) (≈_trans (*_cong_r (x /q y) (≈_sym f)) (≈_trans (div_* x y n) e))

-- ---- its algebra
pub div_+ : (x z y : ℚ) → ¬ (y ≈q nat 0) → (x +q z) /q y ≈q x /q y +q z /q y
div_+ x z y n = ≈_sym (div_unique n (≈_trans (req ((x /q y) ∷ (z /q y) ∷ y ∷ []) ((qv 0 ⊞ qv 1) ⊠ qv 2) (qv 0 ⊠ qv 2 ⊞ qv 1 ⊠ qv 2) tt tt) (+_cong (div_* x y n) (div_* z y n))))

pub div_neg : (x y : ℚ) → ¬ (y ≈q nat 0) → negq x /q y ≈q negq (x /q y)
div_neg x y n = ≈_sym (div_unique n (≈_trans (req ((x /q y) ∷ y ∷ []) (⊝ (qv 0) ⊠ qv 1) (⊝ (qv 0 ⊠ qv 1)) tt tt) (neg_cong (div_* x y n))))

pub mul_div : (z x y : ℚ) → ¬ (y ≈q nat 0) → (z *q x) /q y ≈q z *q (x /q y)
mul_div z x y n = ≈_sym (div_unique n (≈_trans (*_assoc z (x /q y) y) (*_cong_r z (div_* x y n))))

pub div_as_* : (x y : ℚ) → ¬ (y ≈q nat 0) → x /q y ≈q x *q (nat 1 /q y)
div_as_* x y n = ≈_trans (div_cong n (≈_trans (≈_sym (one_* x)) (*_comm (nat 1) x)) (≈_refl y)) (mul_div x (nat 1) y n)

pub div_self : (y : ℚ) → ¬ (y ≈q nat 0) → y /q y ≈q nat 1
div_self y n = ≈_sym (div_unique n (one_* y))

pub div_one : (x : ℚ) → x /q nat 1 ≈q x
div_one x = ≈_sym (div_unique (not_zero_of_pos (nat_< {a = 0} {b = 1} (omega arith))) (≈_trans (*_comm x (nat 1)) (one_* x)))

pub zero_div : (y : ℚ) → ¬ (y ≈q nat 0) → nat 0 /q y ≈q nat 0
zero_div y n = ≈_sym (div_unique n (zero_* y))

-- (x y) / y and x / y / z
pub mul_div_cancel : (x y : ℚ) → ¬ (y ≈q nat 0) → (x *q y) /q y ≈q x
mul_div_cancel x y n = ≈_sym (div_unique n (≈_refl (x *q y)))

pub *_not_zero : {y z : ℚ} → ¬ (y ≈q nat 0) → ¬ (z ≈q nat 0) → ¬ (y *q z ≈q nat 0)
*_not_zero {y} {z} n m e = n (*_cancel_r m (≈_trans e (≈_sym (zero_* z))))

pub div_div : (x y z : ℚ) → ¬ (y ≈q nat 0) → ¬ (z ≈q nat 0) → x /q y /q z ≈q x /q (y *q z)
div_div x y z n m = div_unique (*_not_zero n m) (≈_trans (req ((x /q y /q z) ∷ y ∷ z ∷ []) (qv 0 ⊠ (qv 1 ⊠ qv 2)) (qv 0 ⊠ qv 2 ⊠ qv 1) tt tt) (≈_trans (*_cong (div_* (x /q y) z m) (≈_refl y)) (div_* x y n)))

-- the quotient of two whole numbers
frac_*_nat : (a b : ℕ) → 0 < b → (a // b) *q nat b ≈q nat a
unfolding ◌//◌ ◌*q◌ nat
frac_*_nat a b h = record { eq = rw (max_one b h) (omega arith) }

pub div_nat : (a b : ℕ) → 0 < b → nat a /q nat b ≈q a // b
div_nat a b h = ≈_sym (div_unique (not_zero_of_pos (nat_< h)) (frac_*_nat a b h))

-- ---- bounds: x / y ≤ z as x ≤ z y
pub div_≤ : {x y z : ℚ} → nat 0 <q y → x ≤q z *q y → x /q y ≤q z
div_≤ {x} {y} {z} Y h = *_cancel_≤ Y (≤_trans (≤_of_≈ (≈_trans (*_comm y (x /q y)) (div_* x y (not_zero_of_pos Y)))) (≤_trans h (≤_of_≈ (*_comm z y))))

pub ≤_div : {x y z : ℚ} → nat 0 <q y → z *q y ≤q x → z ≤q x /q y
≤_div {x} {y} {z} Y h = *_cancel_≤ Y (≤_trans (≤_of_≈ (*_comm y z)) (≤_trans h (≤_of_≈ (≈_trans (≈_sym (div_* x y (not_zero_of_pos Y))) (*_comm (x /q y) y)))))

pub ≤_of_div_≤ : (x : ℚ) {y z : ℚ} → nat 0 <q y → x /q y ≤q z → x ≤q z *q y
≤_of_div_≤ x {y} {z} Y h = ≤_trans (≤_of_≈ (≈_trans (≈_sym (div_* x y (not_zero_of_pos Y))) (*_comm (x /q y) y))) (≤_trans (*_mono (≤_of_< Y) h) (≤_of_≈ (*_comm y z)))

pub ≤_of_≤_div : (x : ℚ) {y z : ℚ} → nat 0 <q y → z ≤q x /q y → z *q y ≤q x
≤_of_≤_div x {y} {z} Y h = ≤_trans (≤_of_≈ (*_comm z y)) (≤_trans (*_mono (≤_of_< Y) h) (≤_of_≈ (≈_trans (*_comm y (x /q y)) (div_* x y (not_zero_of_pos Y)))))

pub div_< : {x y z : ℚ} → nat 0 <q y → x <q z *q y → x /q y <q z
div_< {x} {y} {z} Y h = <_of_not_≤ (λ k. not_≤_of_< h (≤_of_≤_div x Y k))

pub <_div : {x y z : ℚ} → nat 0 <q y → z *q y <q x → z <q x /q y
<_div {x} {y} {z} Y h = <_of_not_≤ (λ k. not_≤_of_< h (≤_of_div_≤ x Y k))

-- ---- its sign
pub div_nonneg : {x y : ℚ} → nat 0 ≤q x → nat 0 <q y → nat 0 ≤q x /q y
div_nonneg {x} {y} X Y = ≤_div Y (≤_trans (≤_of_≈ (zero_* y)) X)

pub div_pos : {x y : ℚ} → nat 0 <q x → nat 0 <q y → nat 0 <q x /q y
div_pos {x} {y} X Y = <_div Y (≤_<_trans (≤_of_≈ (zero_* y)) X)

-- ---- it grows with the numerator and falls with the denominator
pub div_mono : {x a y : ℚ} → nat 0 <q y → x ≤q a → x /q y ≤q a /q y
div_mono {x} {a} {y} Y h = div_≤ Y (≤_trans h (≤_of_≈ (≈_sym (div_* a y (not_zero_of_pos Y)))))

pub div_mono_< : {x a y : ℚ} → nat 0 <q y → x <q a → x /q y <q a /q y
div_mono_< {x} {a} {y} Y h = div_< Y (<_≤_trans h (≤_of_≈ (≈_sym (div_* a y (not_zero_of_pos Y)))))

pub div_anti : {x b y : ℚ} → nat 0 ≤q x → nat 0 <q b → b ≤q y → x /q y ≤q x /q b
div_anti {x} {b} {y} X B h = div_≤ (<_≤_trans B h) (≤_trans (≤_of_≈ (≈_sym (div_* x b (not_zero_of_pos B)))) (*_mono (div_nonneg X B) h))

-- x ≤ a and b ≤ y: x / y ≤ a / b
pub div_bound : {x a b y : ℚ} → nat 0 ≤q a → nat 0 <q b → x ≤q a → b ≤q y → x /q y ≤q a /q b
div_bound A B h k = ≤_trans (div_mono (<_≤_trans B k) h) (div_anti A B k)

-- a ≤ x and y ≤ b: a / b ≤ x / y
pub div_bound_below : {x a b y : ℚ} → nat 0 ≤q a → nat 0 <q y → a ≤q x → y ≤q b → a /q b ≤q x /q y
div_bound_below A Y h k = ≤_trans (div_anti A Y k) (div_mono Y h)

-- ---- its size
pub abs_div : (x y : ℚ) → ¬ (y ≈q nat 0) → absq (x /q y) ≈q absq x /q absq y
abs_div x y n = div_unique (not_zero_of_pos (abs_pos n)) (≈_trans (≈_sym (abs_*_≈ (x /q y) y)) (abs_cong (div_* x y n)))

pub abs_div_le : (x y : ℚ) {a b : ℚ} → nat 0 <q b → absq x ≤q a → b ≤q absq y → absq (x /q y) ≤q a /q b
abs_div_le x y {a} {b} B h k = ≤_trans (≤_of_≈ (abs_div x y (not_zero_of_abs (<_≤_trans B k)))) (div_bound (≤_trans (abs_nonneg x) h) B h k)

pub abs_div_ge : (x y : ℚ) {a b : ℚ} → nat 0 ≤q a → a ≤q absq x → nat 0 <q absq y → absq y ≤q b → a /q b ≤q absq (x /q y)
abs_div_ge x y {a} {b} A h Y k = ≤_trans (div_bound_below A Y h k) (≤_of_≈ (≈_sym (abs_div x y (not_zero_of_abs Y))))

-- ---- two quotients: x / y - z / w = (x - z + (z / w) (w - y)) / y
pub within_div : {x y z w e g b q : ℚ} → nat 0 <q b → b ≤q absq y → ¬ (w ≈q nat 0) → absq (z /q w) ≤q q → Within x z e → Within y w g → Within (x /q y) (z /q w) ((e +q q *q g) /q b)
within_div {x} {y} {z} {w} {e} {g} {b} {q} B k n s X Y =
    let r = z /q w in
    let ny = not_zero_of_abs (<_≤_trans B k) in
    let G : nat 0 ≤q g = ≤_trans (abs_nonneg (y -q w)) (abs_within Y) in
    -- r w = z
    let c : Within x (r *q w) e = within_≈ (≈_refl x) (≈_sym (div_* z w n)) X in
    let d : absq (r *q w -q r *q y) ≤q q *q g =
    ≤_trans (≤_of_≈ (abs_cong (req (r ∷ w ∷ y ∷ []) (qv 0 ⊠ qv 1 ⊟ qv 0 ⊠ qv 2) (qv 0 ⊠ (qv 1 ⊟ qv 2)) tt tt))) (abs_*_le r (w -q y) s (abs_within (record { above = Y.below; below = Y.above }))) in
    let m : absq (x -q r *q y) ≤q e +q q *q g = abs_within (within_trans c (within_abs d)) in
    let t : x /q y -q r ≈q (x -q r *q y) /q y =
    div_unique ny (≈_trans (req ((x /q y) ∷ r ∷ y ∷ []) ((qv 0 ⊟ qv 1) ⊠ qv 2) (qv 0 ⊠ qv 2 ⊞ ⊝ (qv 1 ⊠ qv 2)) tt tt)
    (≈_trans (+_cong (div_* x y ny) (≈_refl (negq (r *q y)))) (req (x ∷ r ∷ y ∷ []) (qv 0 ⊞ ⊝ (qv 1 ⊠ qv 2)) (qv 0 ⊟ qv 1 ⊠ qv 2) tt tt))) in
    within_abs (≤_trans (≤_of_≈ (abs_cong t)) (abs_div_le (x -q r *q y) y B m k))

-- of one denominator
pub within_div_l : (y : ℚ) {x z e b : ℚ} → nat 0 <q b → b ≤q absq y → Within x z e → Within (x /q y) (z /q y) (e /q b)
within_div_l y {x} {z} {e} {b} B k X =
    let n = not_zero_of_abs (<_≤_trans B k) in
    let t : x /q y -q z /q y ≈q (x -q z) /q y =
    div_unique n (≈_trans (req ((x /q y) ∷ (z /q y) ∷ y ∷ []) ((qv 0 ⊟ qv 1) ⊠ qv 2) (qv 0 ⊠ qv 2 ⊞ ⊝ (qv 1 ⊠ qv 2)) tt tt)
    (≈_trans (+_cong (div_* x y n) (neg_cong (div_* z y n))) (req (x ∷ z ∷ []) (qv 0 ⊞ ⊝ (qv 1)) (qv 0 ⊟ qv 1) tt tt))) in
    within_abs (≤_trans (≤_of_≈ (abs_cong t)) (abs_div_le (x -q z) y B (abs_within X) k))
