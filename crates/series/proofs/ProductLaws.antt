-- E(x) E(y) against E(x + y): for arguments above zero each way with no error, and for any signs but for a few parts in 2^1000. Assumes nothing.
use mathlib.Core.Path.{refl, sym}
use mathlib.Core.List.{[], ◌∷◌}
use mathlib.Core.Logic.{inl, inr}
use Prim.Native.Nat.{ℕ, ◌+◌, ◌*◌, ◌^◌, ◌<◌}
use native.Mathlib.Nat.{mul-pos, mul_comm, mul_assoc, le_trans, le_of_eq, mul-le-mul_right}
use native.Mathlib.Omega.{arith}
use Rattle.exact.specs.Fraction.{ℚ, ◌//◌, nat, ◌+q◌, negq, ◌*q◌, ◌≤q◌, ◌≈q◌, leqb}
use Rattle.exact.proofs.FractionLaws.{≈_refl, ≈_sym, *_comm, *_assoc, *_cong, one_*, +_cong, +_comm, ≤_of_≈, ≤_trans, *_mono, lit_≤}
use Rattle.exact.proofs.FractionProver.{qv, ##, ◌⊞◌, ◌⊠◌, ⊝, leq, req, linq, ◌⊑◌by◌}
use Rattle.exact.proofs.Rounding.{abs_neg, abs_mono_≈}
pub use Rattle.exact.proofs.StrictOrder.{*_nonneg as product_nonneg}
use Rattle.exact.proofs.StrictOrder.{≤_or_≤, *_nonneg}
use Rattle.series.specs.Series.{E, Enough, top, bot}
use Rattle.series.proofs.Product.{bot_pos, sum_le_product, product_le_sum}
use Rattle.series.proofs.Quotients.{◌⟫◌, frac_≤, frac_≡, frac_*, frac_+, above_of}
use Rattle.series.proofs.AtFractions.{E_above}
use Rattle.series.proofs.Order.{sandwich, E_cong, E_reciprocal, E_nonneg}
use Rattle.series.proofs.Alike.{Alike, alike_sym, alike_≈, alike_scale, alike_trans, alike_mono}
use Rattle.series.proofs.TailLaws.{Moderate, tail, E_tail}

module _ {x y : ℚ} (X : nat 0 ≤q x) (Y : nat 0 ≤q y) where
  b : ℕ
  b = x.d * y.d

  B : 0 < b
  unfolding b
  B = mul-pos x.d_pos y.d_pos

  of_x : (a : ℕ) × (x ≈q a // b)
  unfolding b
  of_x = above_of x y.d y.d_pos X

  of_y : (c : ℕ) × (y ≈q c // b)
  unfolding b
  of_y = let r = above_of y x.d x.d_pos Y in (r.0, r.1 ⟫ frac_≡ refl (mul_comm y.d x.d))

  of_sum : x +q y ≈q (of_x.0 + of_y.0) // b
  of_sum = +_cong of_x.1 of_y.1 ⟫ frac_+ of_x.0 of_y.0 B

  pub E_sum_≤ : (N : ℕ) → E N (x +q y) ≤q E N x *q E N y
  E_sum_≤ N =
      sandwich (E_above N (of_x.0 + of_y.0) b B of_sum) (*_cong (E_above N of_x.0 b B of_x.1) (E_above N of_y.0 b B of_y.1) ⟫ frac_* _ _ (bot_pos N b B) (bot_pos N b B))
      (frac_≤ _ _ (bot_pos N b B) (mul-pos (bot_pos N b B) (bot_pos N b B))
      (le_trans (le_of_eq (sym (mul_assoc (top N (of_x.0 + of_y.0) b) (bot N b) (bot N b)))) (mul-le-mul_right (bot N b) (sum_le_product of_x.0 of_y.0 b N B))))

  pub E_product_≤ : (N M : ℕ) → E N x *q E M y ≤q E (N + M) (x +q y)
  E_product_≤ N M =
      sandwich (*_cong (E_above N of_x.0 b B of_x.1) (E_above M of_y.0 b B of_y.1) ⟫ frac_* _ _ (bot_pos N b B) (bot_pos M b B)) (E_above (N + M) (of_x.0 + of_y.0) b B of_sum)
      (frac_≤ _ _ (mul-pos (bot_pos N b B) (bot_pos M b B)) (bot_pos (N + M) b B) (product_le_sum of_x.0 of_y.0 b N M B))

-- ---- any signs, one number of terms
abbrev s : ℚ
s = nat 1 +q tail

s_pos : nat 0 ≤q s
unfolding leqb nat ◌+q◌ ◌//◌
s_pos = lit_≤ tt

s_one : nat 1 ≤q s
unfolding leqb nat ◌+q◌ ◌//◌
s_one = lit_≤ tt

-- x = x * 1 ≤ x * s
widen : (x : ℚ) → nat 0 ≤q x → x ≤q x *q s
widen x X = ≤_trans (leq (x ∷ []) (qv 0) (qv 0 ⊠ ## 1) tt) (*_mono X s_one)

more : (N M : ℕ) → Enough N → Enough (N + M)
more N M n = omega arith

base : {N : ℕ} {x y : ℚ} → Enough N → Moderate (x +q y) → nat 0 ≤q x → nat 0 ≤q y → Alike s (E N (x +q y)) (E N x *q E N y)
base {N} {x} {y} n m X Y = record {
  le = ≤_trans (E_sum_≤ X Y N) (widen (E N x *q E N y) (*_nonneg (E_nonneg N x) (E_nonneg N y)));
  ge = ≤_trans (E_product_≤ X Y N N) (E_tail n (more N N n) m).le;
}

cancel : (u c c' : ℚ) → c *q c' ≈q nat 1 → u *q c *q c' ≈q u
cancel u c c' h = *_assoc u c c' ⟫ *_cong (≈_refl u) h ⟫ *_comm u (nat 1) ⟫ one_* u

neg_≤ : {x : ℚ} → x ≤q nat 0 → nat 0 ≤q negq x
neg_≤ {x} h = linq (x ∷ []) ((qv 0 ⊑ ## 0 by 1) ∷ []) 0 (## 0) (⊝ (qv 0)) tt h

pub moderate_neg : {x : ℚ} → Moderate x → Moderate (negq x)
moderate_neg {x} h = record { size = ≤_trans (≤_of_≈ (abs_neg x)) h.size }

pub moderate_≈ : {x y : ℚ} → x ≈q y → Moderate x → Moderate y
moderate_≈ e h = record { size = ≤_trans (abs_mono_≈ (≈_sym e)) h.size }

module _ {N : ℕ} {x y : ℚ} (n : Enough N) (mx : Moderate x) (my : Moderate y) (mz : Moderate (x +q y)) where
  back : (x : ℚ) → E N (negq x) *q E N x ≈q nat 1
  back x = *_comm (E N (negq x)) (E N x) ⟫ E_reciprocal N x

  both_below : x ≤q nat 0 → y ≤q nat 0 → Alike s (E N (x +q y)) (E N x *q E N y)
  both_below X Y =
      let z = negq x +q negq y in
      let e : negq (x +q y) ≈q z = req (x ∷ y ∷ []) (⊝ (qv 0 ⊞ qv 1)) (⊝ (qv 0) ⊞ ⊝ (qv 1)) tt tt in
      let r = base n (moderate_≈ e (moderate_neg mz)) (neg_≤ X) (neg_≤ Y) in
      let p = E N (x +q y) in
      let q = E N x *q E N y in
      alike_sym (alike_≈
      (*_cong (*_cong (E_cong N (≈_sym e)) (≈_refl p) ⟫ back (x +q y)) (≈_refl q) ⟫ one_* q)
      (req (E N (negq x) ∷ E N (negq y) ∷ p ∷ E N x ∷ E N y ∷ []) (qv 0 ⊠ qv 1 ⊠ qv 2 ⊠ (qv 3 ⊠ qv 4)) (qv 2 ⊠ (qv 0 ⊠ qv 3) ⊠ (qv 1 ⊠ qv 4)) tt tt
      ⟫ *_cong (*_cong (≈_refl p) (back x)) (back y) ⟫ req (p ∷ []) (qv 0 ⊠ ## 1 ⊠ ## 1) (qv 0) tt tt)
      (alike_scale q (*_nonneg (E_nonneg N x) (E_nonneg N y)) (alike_scale p (E_nonneg N (x +q y)) r)))

  -- x = (x + y) + (-y)
  down_above : nat 0 ≤q x +q y → y ≤q nat 0 → Alike s (E N (x +q y)) (E N x *q E N y)
  down_above Z Y =
      let e : x ≈q x +q y +q negq y = req (x ∷ y ∷ []) (qv 0) (qv 0 ⊞ qv 1 ⊞ ⊝ (qv 1)) tt tt in
      let r = base n (moderate_≈ e mx) Z (neg_≤ Y) in
      alike_sym (alike_≈ (*_cong (E_cong N (≈_sym e)) (≈_refl (E N y))) (cancel (E N (x +q y)) (E N (negq y)) (E N y) (back y)) (alike_scale (E N y) (E_nonneg N y) r))

  -- -y = x + (-(x + y))
  down_below : nat 0 ≤q x → x +q y ≤q nat 0 → Alike s (E N (x +q y)) (E N x *q E N y)
  down_below X Z =
      let e : negq y ≈q x +q negq (x +q y) = req (x ∷ y ∷ []) (⊝ (qv 1)) (qv 0 ⊞ ⊝ (qv 0 ⊞ qv 1)) tt tt in
      let r = base n (moderate_≈ e (moderate_neg my)) X (neg_≤ Z) in
      let p = E N (x +q y) in
      alike_≈
      (*_cong (*_comm (E N (x +q negq (x +q y))) p ⟫ *_cong (≈_refl p) (E_cong N (≈_sym e))) (≈_refl (E N y)) ⟫ cancel p (E N (negq y)) (E N y) (back y))
      (*_cong (cancel (E N x) (E N (negq (x +q y))) p (back (x +q y))) (≈_refl (E N y)))
      (alike_scale (E N y) (E_nonneg N y) (alike_scale p (E_nonneg N (x +q y)) r))

  above_below : nat 0 ≤q x → y ≤q nat 0 → Alike s (E N (x +q y)) (E N x *q E N y)
  above_below X Y = elim (≤_or_≤ (nat 0) (x +q y)) [ inl Z ↦ down_above Z Y | inr Z ↦ down_below X Z ]

same_terms : {N : ℕ} {x y : ℚ} → Enough N → Moderate x → Moderate y → Moderate (x +q y) → Alike s (E N (x +q y)) (E N x *q E N y)
same_terms {N} {x} {y} n mx my mz = elim (≤_or_≤ (nat 0) x) [
  | inl X ↦ elim (≤_or_≤ (nat 0) y) [ inl Y ↦ base n mz X Y | inr Y ↦ above_below n mx my mz X Y ]
  | inr X ↦ elim (≤_or_≤ (nat 0) y) [
    | inl Y ↦ alike_≈ (E_cong N (+_comm y x)) (*_comm (E N y) (E N x)) (above_below n my mx (moderate_≈ (+_comm x y) mz) Y X)
    | inr Y ↦ both_below n mx my mz X Y
  ]
]

-- ---- any numbers of terms
abbrev pub tails : ℚ
tails = 1 // 2 ^ 998

three : s *q (s *q s) ≤q nat 1 +q tails
unfolding leqb nat ◌+q◌ ◌*q◌ ◌//◌
three = lit_≤ tt

pub E_+ : {K N M : ℕ} {x y : ℚ} → Enough K → Enough N → Enough M → Moderate x → Moderate y → Moderate (x +q y) → Alike (nat 1 +q tails) (E K (x +q y)) (E N x *q E M y)
E_+ {K} {N} {M} {x} {y} k n m mx my mz =
    alike_mono (E_nonneg K (x +q y)) (*_nonneg (E_nonneg N x) (E_nonneg M y)) three
    (alike_trans s_pos (*_nonneg s_pos s_pos) (same_terms k mx my mz)
    (alike_trans s_pos s_pos (alike_scale (E K y) (E_nonneg K y) (E_tail n k mx))
    (alike_≈ (*_comm (E K y) (E N x)) (*_comm (E M y) (E N x)) (alike_scale (E N x) (E_nonneg N x) (E_tail m k my)))))
