-- Floats are whole numbers of small units: one of size 2 ^ -k or more is a multiple of 2 ^ -(k + 52). So a sum of two floats that is not 0 is not tiny.
use Prim.Native.Nat.{ℕ, zero, suc, ◌+◌, ◌-◌, ◌*◌, ◌%◌, ◌^◌, ◌≤◌, ◌<◌, max}
use mathlib.Core.Path.{◌≡◌, sym, ap, ◌∙◌}
use mathlib.Core.Bool.{Bool, true, false, not, ◌&&◌, cond}
use mathlib.Core.List.{[], ◌∷◌}
use mathlib.Core.Logic.{inl, inr}
use native.Mathlib.Nat.{mul-le-mul_right, not-le_of_lt, add-sub_of_le, one-mul, mul-lt-mul_of_pos_right, pow-succ'}
use native.Mathlib.Omega.{arith, ne_cases}
use lib.Dec.{T, leb, ltb, eqb, leb→le, nleb→lt, ltb→lt}
use lib.IntN.{pos, negsuc}
use lib.Pow.{pow_pos, pow-add, pow_mono}
use lib.Ieee.{Float, nan, inf, fin, binary64, up, down, fits}
use lib.Ieee.Fits.{and_l, and_r, down_pos}
use lib.Ieee.Scale.{finite}
use Rattle.exact.specs.Fraction.{ℚ, ◌//◌, nat, ◌+q◌, absq, ◌≤q◌, ◌≈q◌}
use Rattle.exact.specs.FloatValue.{value, signed}
use Rattle.exact.proofs.AbsoluteValue.{abs_mono_≈, abs_le, le_abs, neg_le_abs}
use Rattle.exact.proofs.StrictOrder.{≤_or_≤}
use Rattle.exact.proofs.FractionProver.{qv, ◌⊞◌, ⊝, linq, ◌⊑◌by◌}
use Rattle.exact.proofs.FractionLaws.{≈_sym, ≈_trans, +_cong, ≤_trans}

-- (above - below) / 2 ^ j
pub record Multiple (j : ℕ) (z : ℚ) : Type 0 where
  pub above : ℕ
  pub below : ℕ
  pub is : record { p = above; q = below; d = 2 ^ j; d_pos = pow_pos j } ≈q z

pub multiple_+ : {j : ℕ} {x y : ℚ} → Multiple j x → Multiple j y → Multiple j (x +q y)
unfolding ◌+q◌
multiple_+ {j} {x} {y} X Y = record {
  above = X.above + Y.above;
  below = X.below + Y.below;
  is = ≈_trans (sum X.above X.below Y.above Y.below (2 ^ j) (pow_pos j)) (+_cong X.is Y.is);
}
  where
    sum : (a b c d u : ℕ) (W : 0 < u) → record { p = a + c; q = b + d; d = u; d_pos = W } ≈q record { p = a; q = b; d = u; d_pos = W } +q record { p = c; q = d; d = u; d_pos = W }
    sum a b c d u W = record { eq = omega arith }

max_is : (u : ℕ) → 0 < u → max u 1 ≡ u
max_is u h = omega arith

-- one that is not 0 is 2 ^ -j or more in size
pub multiple_size : {j : ℕ} {z : ℚ} → Multiple j z → ¬ (z ≈q nat 0) → 1 // 2 ^ j ≤q absq z
unfolding nat absq ◌//◌
multiple_size {j} {z} M nz =
    ≤_trans (size M.above M.below (2 ^ j) (pow_pos j) (λ (e : M.above ≡ M.below). nz (≈_trans (≈_sym M.is) (record { eq = zero_is M.above M.below (2 ^ j) e })))) (abs_mono_≈ M.is)
  where
    zero_is : (a b u : ℕ) → a ≡ b → a * 1 + 0 * u ≡ 0 * u + b * 1
    zero_is a b u e = omega arith

    size : (a b u : ℕ) (W : 0 < u) → ¬ (a ≡ b) → 1 // u ≤q absq (record { p = a; q = b; d = u; d_pos = W })
    size a b u W ne =
        let k : 1 ≤ (a - b) + (b - a) = ne_cases a b (1 ≤ (a - b) + (b - a)) ne (λ (l : a < b). omega arith) (λ (l : b < a). omega arith) in
        record { le = rw (max_is u W) (omega (arith, mul-le-mul_right u k)) }

-- a / c where c divides 2 ^ j
whole : (j : ℕ) (s : Bool) (a c u : ℕ) (C : 0 < c) → c * u ≡ 2 ^ j → Multiple j (signed s a c C)
whole j true a c u C e = record { above = 0; below = a * u; is = record { eq = go (2 ^ j) e } }
  where
    go : (l : ℕ) → c * u ≡ l → 0 * c + a * l ≡ 0 * l + a * u * c
    go l e = omega (arith, ap (λ (t : ℕ). a * t) e)
whole j false a c u C e = record { above = a * u; below = 0; is = record { eq = go (2 ^ j) e } }
  where
    go : (l : ℕ) → c * u ≡ l → a * u * c + 0 * l ≡ a * l + 0 * c
    go l e = omega (arith, ap (λ (t : ℕ). a * t) e)

pow_lt_inv : (a b : ℕ) → 2 ^ a < 2 ^ b → a < b
pow_lt_inv a b h = go (leb b a) (leb→le b a) (nleb→lt b a)
  where
    go : (t : Bool) → (T t → b ≤ a) → (T (not t) → a < b) → a < b
    go true f g = absurd (not-le_of_lt h (pow_mono (f tt)))
    go false f g = g tt

-- ±a / c at least 1 / 2 ^ k in size
size_at : (s : Bool) (a c k : ℕ) (C : 0 < c) → 1 // 2 ^ k ≤q absq (signed s a c C) → c ≤ a * 2 ^ k
unfolding absq ◌//◌
size_at s a c k C h = go s h.le
  where
    plain : (w u : ℕ) → 0 < u → w ≡ a → 1 * c + 0 * max u 1 ≤ w * max u 1 + 0 * c → c ≤ a * u
    plain w u W e l = omega (arith, ap (λ (v : ℕ). v * max u 1) e, ap (λ (v : ℕ). a * v) (max_is u W))

    go : (s : Bool) → 1 * c + 0 * max (2 ^ k) 1 ≤ (cond s 0 a - cond s a 0 + (cond s a 0 - cond s 0 a)) * max (2 ^ k) 1 + 0 * c → c ≤ a * 2 ^ k
    go true l = plain (0 - a + (a - 0)) (2 ^ k) (pow_pos k) (omega arith) l
    go false l = plain (a - 0 + (0 - a)) (2 ^ k) (pow_pos k) (omega arith) l

pub multiple_of : (k : ℕ) (x : Float) → T (finite x) → T (fits binary64 x) → 1 // 2 ^ k ≤q absq (value x) → Multiple (k + 52) (value x)
unfolding fits value
multiple_of k nan t f h = absurd t
multiple_of k (inf s) t f h = absurd t
multiple_of k (fin s zero e) t f h = zero_multiple s
  where
    zero_multiple : (s : Bool) → Multiple (k + 52) (signed s (0 * up e) (down e) (down_pos e))
    zero_multiple true = record { above = 0; below = 0; is = record { eq = omega arith } }
    zero_multiple false = record { above = 0; below = 0; is = record { eq = omega arith } }
multiple_of k (fin s (suc m) (pos n)) t f h = whole (k + 52) s (suc m * 2 ^ n) 1 (2 ^ (k + 52)) (down_pos (pos n)) (one-mul (2 ^ (k + 52)))
multiple_of k (fin s (suc m) (negsuc n)) t f h =
    whole (k + 52) s (suc m * 1) (2 ^ suc n) (2 ^ (k + 52 - suc n)) (down_pos (negsuc n))
    (sym (pow-add 2 (suc n) (k + 52 - suc n)) ∙ ap (λ (i : ℕ). 2 ^ i) (add-sub_of_le fit))
  where
    digits : suc m < 2 ^ 53
    digits =
        let A = eqb (suc m % 2) 1 in let B = ltb (suc m) (2 ^ 53) in let C = leb (2 ^ suc n) (2 ^ 1074) in let D = ltb (suc m * 1) (2 ^ 1024 * 2 ^ suc n) in
        ltb→lt (suc m) (2 ^ 53) (and_r A B (and_l (A && B) C (and_l (A && B && C) D f)))

    plain : (x u w v : ℕ) → w ≡ u * v → x ≤ suc m * 1 * u → suc m * u < v * u → x < w
    plain x u w v e l g = omega arith

    fit : suc n ≤ k + 52
    fit =
        let l : 2 ^ suc n ≤ suc m * 1 * 2 ^ k = size_at s (suc m * 1) (2 ^ suc n) k (down_pos (negsuc n)) h in
        let g : suc m * 2 ^ k < 2 ^ 53 * 2 ^ k = mul-lt-mul_of_pos_right digits (pow_pos k) in
        let b : 2 ^ suc n < 2 ^ (k + 53) = plain (2 ^ suc n) (2 ^ k) (2 ^ (k + 53)) (2 ^ 53) (pow-add 2 k 53) l g in
        let c : suc n < k + 53 = pow_lt_inv (suc n) (k + 53) b in
        omega arith

-- ---- a sum of two floats
less : {i j : ℕ} → i ≤ j → 1 // 2 ^ j ≤q 1 // 2 ^ i
unfolding ◌//◌
less {i} {j} h = record { le = plain (2 ^ i) (2 ^ j) (pow_mono h) }
  where
    plain : (u v : ℕ) → u ≤ v → 1 * max u 1 + 0 * max v 1 ≤ 1 * max v 1 + 0 * max u 1
    plain u v h = omega arith

halves : (k : ℕ) → 1 // 2 ^ suc k +q 1 // 2 ^ suc k ≤q 1 // 2 ^ k
unfolding ◌//◌ ◌+q◌
halves k = record { le = plain (2 ^ k) (2 ^ suc k) (pow-succ' 2 k) (pow_pos k) }
  where
    plain : (u v : ℕ) → v ≡ 2 * u → 0 < u → (1 * max v 1 + 1 * max v 1) * max u 1 + 0 * (max v 1 * max v 1) ≤ 1 * (max v 1 * max v 1) + (0 * max v 1 + 0 * max v 1) * max u 1
    plain u v e h = rw (max_is u h, max_is v (omega arith)) (omega (arith, ap (λ (w : ℕ). w * v) e))

-- x at least 2 ^ -k in size: x + y is 0, or at least 2 ^ -(k + 53) in size
pub sum_not_tiny : (k : ℕ) (x y : Float) → T (finite x) → T (finite y) → T (fits binary64 x) → T (fits binary64 y) → 1 // 2 ^ k ≤q absq (value x) → ¬ (value x +q value y ≈q nat 0) → 1 // 2 ^ (suc k + 52) ≤q absq (value x +q value y)
sum_not_tiny k x y p q f g h nz = elim (≤_or_≤ (1 // 2 ^ suc k) (absq (value y))) [
  | inl l ↦ multiple_size (multiple_+ (multiple_of (suc k) x p f (≤_trans (less (le_suc k)) h)) (multiple_of (suc k) y q g l)) nz
  | inr l ↦ ≤_trans (less (le_add k))
      (linq (absq (value x) ∷ absq (value y) ∷ absq (value x +q value y) ∷ (1 // 2 ^ k) ∷ (1 // 2 ^ suc k) ∷ [])
      ((qv 3 ⊑ qv 0 by 1) ∷ (qv 1 ⊑ qv 4 by 1) ∷ (qv 4 ⊞ qv 4 ⊑ qv 3 by 1) ∷ (qv 0 ⊑ qv 2 ⊞ qv 1 by 1) ∷ []) 0 (qv 4) (qv 2) tt h l (halves k) (triangle (value x) (value y)))
]
  where
    le_suc : (k : ℕ) → k ≤ suc k
    le_suc k = omega arith

    le_add : (k : ℕ) → suc k ≤ suc k + 52
    le_add k = omega arith

    triangle : (a b : ℚ) → absq a ≤q absq (a +q b) +q absq b
    triangle a b =
        let ρ = a ∷ b ∷ absq (a +q b) ∷ absq b ∷ [] in
        abs_le
        (linq ρ ((qv 0 ⊞ qv 1 ⊑ qv 2 by 1) ∷ (⊝ (qv 1) ⊑ qv 3 by 1) ∷ []) 0 (qv 0) (qv 2 ⊞ qv 3) tt (le_abs (a +q b)) (neg_le_abs b))
        (linq ρ ((⊝ (qv 0 ⊞ qv 1) ⊑ qv 2 by 1) ∷ (qv 1 ⊑ qv 3 by 1) ∷ []) 0 (⊝ (qv 0)) (qv 2 ⊞ qv 3) tt (neg_le_abs (a +q b)) (le_abs b))
