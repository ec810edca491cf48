-- Near 0: 1 + x ≤ E(x), and E(x) ≤ 1 + x + x^2 for x up to 3/2. Assumes nothing.
use mathlib.Core.Path.{◌≡◌, ap, ◌∙◌}
use mathlib.Core.List.{[], ◌∷◌}
use mathlib.Core.Logic.{inl, inr}
use Prim.Native.Nat.{ℕ, ◌+◌, ◌*◌, ◌^◌, ◌≤◌, ◌<◌}
use native.Mathlib.Nat.{mul-pos, mul-one, zero-lt-suc, pow-zero, pow-succ'}
use native.Mathlib.Omega.{arith}
use Rattle.exact.specs.Fraction.{ℚ, ◌//◌, nat, ◌+q◌, ◌-q◌, negq, ◌*q◌, ◌≤q◌, ◌≈q◌}
use Rattle.exact.proofs.FractionLaws.{≈_refl, ≈_sym, *_cong, +_cong, ≤_of_≈, ≤_trans, *_mono}
use Rattle.exact.proofs.FractionProver.{qv, ##, ◌÷◌, ◌⊞◌, ◌⊟◌, ◌⊠◌, ⊝, leq, req, linq, ◌⊑◌by◌}
use Rattle.exact.proofs.StrictOrder.{≤_or_≤, *_nonneg}
use Rattle.series.specs.Series.{E, top, bot}
use Rattle.series.proofs.Product.{bot_pos}
use Rattle.series.proofs.Bounds.{doubled, up_doubled}
use Rattle.series.proofs.Differences.{one_two}
use Rattle.series.proofs.Quotients.{◌⟫◌, frac_≈, frac_≤, frac_*, frac_+, frac_one, cross_≤, above_of}
use Rattle.series.proofs.AtFractions.{E_above}
use Rattle.series.proofs.Order.{sandwich, E_reciprocal, E_nonneg, E_terms_above}

-- ---- x above 0
module _ {x : ℚ} (X : nat 0 ≤q x) where
  b : ℕ
  b = x.d * 1

  B : 0 < b
  unfolding b
  B = mul-pos x.d_pos (zero-lt-suc 0)

  of_x : (a : ℕ) × (x ≈q a // b)
  unfolding b
  of_x = above_of x 1 (zero-lt-suc 0) X

  one_plus_is : nat 1 +q x ≈q (b + of_x.0) // b
  one_plus_is = +_cong (≈_sym (frac_one b B)) of_x.1 ⟫ frac_+ b of_x.0 B

  one_plus_above : {N : ℕ} → 1 ≤ N → nat 1 +q x ≤q E N x
  one_plus_above l = ≤_trans (≤_of_≈ (one_plus_is ⟫ frac_≈ _ _ B (bot_pos 1 b B) (one_two of_x.0 b) ⟫ ≈_sym (E_above 1 of_x.0 b B of_x.1))) (E_terms_above l X)

  square_is : nat 1 +q x +q x *q x ≈q (b * (b + of_x.0) + of_x.0 * of_x.0) // (b * b)
  square_is =
      +_cong (one_plus_is ⟫ frac_≈ _ _ B (mul-pos B B) (sort (b + of_x.0) b)) (*_cong of_x.1 of_x.1 ⟫ frac_* _ _ B B)
      ⟫ frac_+ (b * (b + of_x.0)) (of_x.0 * of_x.0) (mul-pos B B)
    where
      sort : (n b : ℕ) → n * (b * b) ≡ b * n * b
      sort n b = omega arith

  doubled_is : (a b : ℕ) → doubled 1 a b * (b * b) ≡ (b * (b + a) + a * a) * bot 2 b
  unfolding doubled top bot
  doubled_is a b = rw (one a) (rw (two a) (expand a b))
    where
      one : (a : ℕ) → a ^ 1 ≡ a
      one a = pow-succ' a 0 ∙ ap (λ (z : ℕ). a * z) (pow-zero a) ∙ mul-one a

      two : (a : ℕ) → a ^ 2 ≡ a * a
      two a = pow-succ' a 1 ∙ ap (λ (z : ℕ). a * z) (one a)

      expand : (a b : ℕ) → (2 * b * (1 * b * 1 + a) + a * a + a * a) * (b * b) ≡ (b * (b + a) + a * a) * (2 * b * (1 * b * 1))
      expand a b = omega arith

  quadratic_above : (N : ℕ) → x ≤q 3 // 2 → E N x ≤q nat 1 +q x +q x *q x
  quadratic_above N h =
      sandwich (E_above N of_x.0 b B of_x.1) (square_is ⟫ ≈_sym (frac_≈ _ _ (bot_pos 2 b B) (mul-pos B B) (doubled_is of_x.0 b)))
      (frac_≤ _ _ (bot_pos N b B) (bot_pos 2 b B) ((up_doubled 1 of_x.0 b B small).bound N))
    where
      small : 2 * of_x.0 ≤ 3 * b
      small = let k = cross_≤ of_x.0 3 B (zero-lt-suc 1) (≤_trans (≤_of_≈ (≈_sym of_x.1)) h) in omega arith

-- ---- x below 0: with u = -x and y = E(u), E(x) y = 1
module _ {N : ℕ} {x : ℚ} (n : 1 ≤ N) (X : x ≤q nat 0) where
  u : ℚ
  u = negq x

  U : nat 0 ≤q u
  unfolding u
  U = linq (x ∷ []) ((qv 0 ⊑ ## 0 by 1) ∷ []) 0 (## 0) (⊝ (qv 0)) tt X

  inverse : E N x *q E N u ≈q nat 1
  unfolding u
  inverse = E_reciprocal N x

  minus : nat 1 +q x ≈q nat 1 -q u
  unfolding u
  minus = req (x ∷ []) (## 1 ⊞ qv 0) (## 1 ⊟ ⊝ (qv 0)) tt tt

  small_below : u ≤q nat 1 → nat 1 -q u ≤q E N x
  small_below h =
      let e = E N x in let y = E N u in
      let q : y ≤q nat 1 +q u +q u *q u = quadratic_above U N (≤_trans h (leq [] (## 1) (3 ÷ 2) tt)) in
      let w : nat 0 ≤q nat 1 -q u = linq (u ∷ []) ((qv 0 ⊑ ## 1 by 1) ∷ []) 0 (## 0) (## 1 ⊟ qv 0) tt h in
      let p : (nat 1 -q u) *q y ≤q nat 1 =
      linq (u ∷ y ∷ []) (((## 1 ⊟ qv 0) ⊠ qv 1 ⊑ (## 1 ⊟ qv 0) ⊠ (## 1 ⊞ qv 0 ⊞ qv 0 ⊠ qv 0) by 1) ∷ (## 0 ⊑ qv 0 ⊠ (qv 0 ⊠ qv 0) by 1) ∷ []) 0 ((## 1 ⊟ qv 0) ⊠ qv 1) (## 1) tt (*_mono w q) (*_nonneg U (*_nonneg U U)) in
      ≤_trans (≤_of_≈ (req (u ∷ []) (## 1 ⊟ qv 0) (## 1 ⊠ (## 1 ⊟ qv 0)) tt tt ⟫ *_cong (≈_sym inverse) (≈_refl (nat 1 -q u)) ⟫ req (e ∷ y ∷ u ∷ []) (qv 0 ⊠ qv 1 ⊠ (## 1 ⊟ qv 2)) (qv 0 ⊠ ((## 1 ⊟ qv 2) ⊠ qv 1)) tt tt))
      (≤_trans (*_mono (E_nonneg N x) p) (leq (e ∷ []) (qv 0 ⊠ ## 1) (qv 0) tt))

  minus_below : nat 1 -q u ≤q E N x
  minus_below = elim (≤_or_≤ u (nat 1)) [
    | inl h ↦ small_below h
    | inr h ↦ ≤_trans (linq (u ∷ []) ((## 1 ⊑ qv 0 by 1) ∷ []) 0 (## 1 ⊟ qv 0) (## 0) tt h) (E_nonneg N x)
  ]

  one_plus_below : nat 1 +q x ≤q E N x
  one_plus_below = ≤_trans (≤_of_≈ minus) minus_below

  quadratic_below : E N x ≤q nat 1 +q x +q x *q x
  unfolding u
  quadratic_below =
      let e = E N x in let y = E N (negq x) in
      ≤_trans
      (linq (negq x ∷ e ∷ y ∷ []) ((qv 1 ⊠ (## 1 ⊞ qv 0) ⊑ qv 1 ⊠ qv 2 by 1) ∷ (qv 1 ⊠ qv 2 ⊑ ## 1 by 1) ∷ (qv 0 ⊠ (## 1 ⊟ qv 0) ⊑ qv 0 ⊠ qv 1 by 1) ∷ []) 0 (qv 1) (## 1 ⊟ qv 0 ⊞ qv 0 ⊠ qv 0) tt
      (*_mono (E_nonneg N x) (one_plus_above U n)) (≤_of_≈ inverse) (*_mono U minus_below))
      (leq (x ∷ []) (## 1 ⊟ ⊝ (qv 0) ⊞ ⊝ (qv 0) ⊠ ⊝ (qv 0)) (## 1 ⊞ qv 0 ⊞ qv 0 ⊠ qv 0) tt)

-- ---- both signs
pub E_one_plus : {N : ℕ} (x : ℚ) → 1 ≤ N → nat 1 +q x ≤q E N x
E_one_plus x n = elim (≤_or_≤ (nat 0) x) [ inl X ↦ one_plus_above X n | inr X ↦ one_plus_below n X ]

pub E_quadratic : {N : ℕ} {x : ℚ} → 1 ≤ N → x ≤q 3 // 2 → E N x ≤q nat 1 +q x +q x *q x
E_quadratic {N} {x} n h = elim (≤_or_≤ (nat 0) x) [ inl X ↦ quadratic_above X N h | inr X ↦ quadratic_below n X ]
