-- A number above 1 lies between E at its logarithm less 2^-45 and E at its logarithm plus 2^-45, for every sum with enough terms. Assumes nothing.
use Rattle.std.proofs.Common.{◌≡◌, ℕ, ◌+◌, ◌-◌, ◌*◌, ◌^◌, ◌<◌, ◌≤◌, [], ◌∷◌, refl, le_trans, le_of_eq, le-add_right, le_of_lt, mul-le-mul_right, zero-lt-suc, mul_assoc, mul_comm, mul-le-mul_left, lt_of_not-le, sub-add_cancel, mul_right_comm, le_of_mul-le-mul_right, mul_left_comm, arith, lit<, lit≤}
use native.Mathlib.Decide.{dec_le}
use Rattle.exact.specs.Fraction.{ℚ, ◌//◌, ◌+q◌, ◌-q◌, ◌≤q◌, ◌≈q◌}
use Rattle.exact.proofs.FractionLaws.{≈_refl, ≈_sym, ≤_of_≈, ≤_trans, ≤_antisym}
use Rattle.exact.proofs.FractionProver.{qv, ##, ◌⊞◌, ◌⊟◌, linq, ◌⊑◌by◌}
use Rattle.series.specs.Series.{E, Enough, top, bot}
use Rattle.series.proofs.Product.{bot_pos}
use Rattle.series.proofs.Tail.{settle}
use Rattle.series.proofs.Quotients.{frac_≤, frac_+, frac_≡, frac_nat, ◌⟫◌}
use Rattle.series.proofs.AtFractions.{E_above}
use Rattle.series.proofs.Order.{sandwich, E_at_most_one}
use Rattle.logarithm.proofs.WholeBounds.{Fixed, B, D, S}

-- the bound, 2^-45
abbrev pub δ : ℚ
δ = D // B

-- a logarithm v in units of 2^-53
abbrev pub fixed : ℕ → ℚ
fixed v = (v * 2048) // B

-- (a - c) / b
pub difference : (a c b : ℕ) → 0 < b → c ≤ a → (a // b) -q (c // b) ≈q (a - c) // b
difference a c b B h =
    let x = (a - c) // b in let y = c // b in let z = a // b in
    let e : x +q y ≈q z = frac_+ (a - c) c B ⟫ frac_≡ (sub-add_cancel h) refl in
    ≤_antisym
    (linq (x ∷ y ∷ z ∷ []) ((qv 2 ⊑ qv 0 ⊞ qv 1 by 1) ∷ []) 0 (qv 2 ⊟ qv 1) (qv 0) tt (≤_of_≈ (≈_sym e)))
    (linq (x ∷ y ∷ z ∷ []) ((qv 0 ⊞ qv 1 ⊑ qv 2 by 1) ∷ []) 0 (qv 0) (qv 2 ⊟ qv 1) tt (≤_of_≈ e))

drop : (x y K J : ℕ) → 0 < K → K ≤ J → x * J ≤ y * K → x ≤ y
drop x y K J p h l = le_of_mul-le-mul_right {k = K} (le_trans (mul-le-mul_left x h) l) p

module _ {v u w : ℕ} (F : Fixed v u w) {N : ℕ} (n : Enough N) where
  most : 3999 ≤ N
  most = omega arith

  pub not_above : u // w ≤q E N (fixed v +q δ)
  not_above =
      sandwich (≈_refl (u // w)) (E_above N (v * 2048 + D) B (lit< tt) (frac_+ (v * 2048) D (lit< tt)))
      (frac_≤ u (top N (v * 2048 + D) B) F.divisor (bot_pos N B (lit< tt))
      (drop (u * bot N B) (top N (v * 2048 + D) B * w) (B * (2 ^ 1000 + 1)) ((B + S) * 2 ^ 1000) (lit< tt) (lit≤ {m = B * (2 ^ 1000 + 1)} {n = (B + S) * 2 ^ 1000} tt)
      (sorted u w (top N (v * 2048 + D) B) (bot N B) (B + S) (2 ^ 1000) B (2 ^ 1000 + 1) (settle (lit< tt) (le_trans F.moderate (lit≤ tt)) F.high N most))))
    where
      sorted : (u w t b s P B Q : ℕ) → u * s * P * b ≤ t * (w * B * Q) → u * b * (s * P) ≤ t * w * (B * Q)
      sorted u w t b s P B Q h = le_trans (le_of_eq (left u s P b)) (le_trans h (le_of_eq (right t w B Q)))
        where
          left : (u s P b : ℕ) → u * b * (s * P) ≡ u * s * P * b
          left u s P b = simp (mul_assoc, mul_comm, mul_left_comm) refl

          right : (t w B Q : ℕ) → t * (w * B * Q) ≡ t * w * (B * Q)
          right t w B Q = simp mul_assoc refl

  pub not_below : E N (fixed v -q δ) ≤q u // w
  not_below = either (dec_le D (v * 2048))
    where
      whole : D ≤ v * 2048 → E N (fixed v -q δ) ≤q u // w
      whole h =
          sandwich (E_above N (v * 2048 - D) B (lit< tt) (difference (v * 2048) D B (lit< tt) h)) (≈_refl (u // w))
          (frac_≤ (top N (v * 2048 - D) B) u (bot_pos N B (lit< tt)) F.divisor
          (drop (top N (v * 2048 - D) B * w) (u * bot N B) B (B + S) (lit< tt) (le-add_right B S)
          (sorted (top N (v * 2048 - D) B) w u (bot N B) (B + S) B ((F.low h).bound N))))
        where
          sorted : (t w u b s B : ℕ) → t * (w * s) ≤ u * B * b → t * w * s ≤ u * b * B
          sorted t w u b s B h = le_trans (le_of_eq (mul_assoc t w s)) (le_trans h (le_of_eq (mul_right_comm u B b)))

      small : v * 2048 < D → E N (fixed v -q δ) ≤q u // w
      small h =
          ≤_trans (E_at_most_one N (linq (fixed v ∷ δ ∷ []) ((qv 0 ⊑ qv 1 by 1) ∷ []) 0 (qv 0 ⊟ qv 1) (## 0) tt (frac_≤ (v * 2048) D (lit< tt) (lit< tt) (mul-le-mul_right B (le_of_lt h)))))
          (≤_trans (≤_of_≈ (≈_sym (frac_nat 1))) (frac_≤ 1 u (zero-lt-suc 0) F.divisor (at_least u w F.above_one)))
        where
          at_least : (u w : ℕ) → w * (2 ^ 53 + 1) ≤ u * 2 ^ 53 → 1 * w ≤ u * 1
          at_least u w h = omega arith

      either : Dec (D ≤ v * 2048) → E N (fixed v -q δ) ≤q u // w
      either (yes h) = whole h
      either (no f) = small (lt_of_not-le f)
