-- A small change of the argument is a relative change of E about as large; and E tells arguments apart. Assumes nothing.
use mathlib.Core.List.{[], ◌∷◌}
use mathlib.Core.Logic.{inl, inr}
use Prim.Native.Nat.{ℕ, ◌^◌, ◌≤◌, zero-le}
use native.Mathlib.Nat.{zero-lt-suc, mul-pos}
use lib.Pow.{pow_pos}
use native.Mathlib.Omega.{arith}
use Rattle.exact.specs.Fraction.{ℚ, ◌//◌, nat, ◌+q◌, ◌-q◌, negq, ◌*q◌, absq, ◌≤q◌, ◌≈q◌, Within, leqb}
use Rattle.exact.proofs.FractionLaws.{≈_refl, ≈_sym, *_comm, *_cong, ≤_of_≈, ≤_refl, ≤_trans, ≤_antisym, *_mono, lit_≤}
use Rattle.exact.proofs.Closeness.{le_abs, neg_le_abs, abs_nonneg, abs_*_le}
use Rattle.exact.proofs.FractionProver.{qv, ##, ◌÷◌, ◌⊞◌, ◌⊟◌, ◌⊠◌, ⊝, leq, req, linq, ◌⊑◌by◌, nat_≤}
use Rattle.exact.proofs.StrictOrder.{≤_or_≤, *_nonneg}
use Rattle.series.specs.Series.{E, Enough}
use Rattle.series.proofs.Quotients.{◌⟫◌, frac_nat, frac_*, frac_≈}
use Rattle.series.proofs.Order.{E_mono, E_nonneg, E_not_zero}
use Rattle.series.proofs.Alike.{Alike}
use Rattle.series.proofs.TailLaws.{Moderate}
use Rattle.series.proofs.ProductLaws.{tails, E_+}
use Rattle.series.proofs.SmallArguments.{E_one_plus, E_quadratic}

tails_nonneg : nat 0 ≤q tails
unfolding leqb nat ◌//◌
tails_nonneg = lit_≤ tt

tails_small : tails ≤q 1 // 8
unfolding leqb ◌//◌
tails_small = lit_≤ tt

factor_nonneg : nat 0 ≤q nat 1 +q tails
factor_nonneg = linq (tails ∷ []) ((## 0 ⊑ qv 0 by 1) ∷ []) 0 (## 0) (## 1 ⊞ qv 0) tt tails_nonneg

some : {N : ℕ} → Enough N → 1 ≤ N
some {N} n = omega arith

module _ {K N : ℕ} {x : ℚ} (d : ℚ) (k : Enough K) (n : Enough N) (mx : Moderate x) (mz : Moderate (x +q d)) (D : absq d ≤q nat 1) where
  together : Alike (nat 1 +q tails) (E K (x +q d)) (E N x *q E N d)
  together = E_+ k n n mx (record { size = ≤_trans D (leq [] (## 1) (## 1000) tt) }) mz

  -- E(x) (1 + d) ≤ E(x + d), but for the tails
  pub E_shift_≥ : E N x *q (nat 1 +q d) ≤q E K (x +q d) *q (nat 1 +q tails)
  E_shift_≥ = ≤_trans (*_mono (E_nonneg N x) (E_one_plus d (some n))) together.ge

  -- E(x + d) ≤ E(x) (1 + d + d^2), but for the tails
  pub E_shift_≤ : E K (x +q d) ≤q E N x *q (nat 1 +q d +q d *q d) *q (nat 1 +q tails)
  E_shift_≤ =
      let q = *_mono (E_nonneg N x) (E_quadratic (some n) (≤_trans (le_abs d) (≤_trans D (leq [] (## 1) (3 ÷ 2) tt)))) in
      ≤_trans together.le (≤_trans (≤_of_≈ (*_comm (E N x *q E N d) (nat 1 +q tails))) (≤_trans (*_mono factor_nonneg q) (≤_of_≈ (*_comm (nat 1 +q tails) (E N x *q (nat 1 +q d +q d *q d))))))

-- |E(x + d) - E(x)| ≤ (2 |d| + 2^-996) E(x) for |d| ≤ 1/4
pub E_shift : {K N : ℕ} {x : ℚ} (d : ℚ) → Enough K → Enough N → Moderate x → Moderate (x +q d) → absq d ≤q 1 // 4 → Within (E K (x +q d)) (E N x) ((nat 2 *q absq d +q nat 4 *q tails) *q E N x)
E_shift {K} {N} {x} d k n mx mz D =
    let e = E N x in let f = E K (x +q d) in let g = absq d in let t = tails in
    let w = e *q (nat 1 +q d +q d *q d) in
    let D₁ : g ≤q nat 1 = ≤_trans D (leq [] (1 ÷ 4) (## 1) tt) in
    let e₀ = E_nonneg N x in
    let eg₀ = *_nonneg e₀ (abs_nonneg d) in
    let et₀ = *_nonneg e₀ tails_nonneg in
    let ed : e *q d ≤q e *q g = *_mono e₀ (le_abs d) in
    let en : e *q negq d ≤q e *q g = *_mono e₀ (neg_le_abs d) in
    let dd : d *q d ≤q g *q (1 // 4) = ≤_trans (le_abs (d *q d)) (abs_*_le d d (≤_refl g) D) in
    let eg : e *q g ≤q e *q (1 // 4) = *_mono e₀ D in
    let W : w ≤q e +q e *q g *q (5 // 4) =
    linq (e ∷ d ∷ g ∷ []) ((qv 0 ⊠ qv 1 ⊑ qv 0 ⊠ qv 2 by 1) ∷ (qv 0 ⊠ (qv 1 ⊠ qv 1) ⊑ qv 0 ⊠ (qv 2 ⊠ 1 ÷ 4) by 1) ∷ []) 0 (qv 0 ⊠ (## 1 ⊞ qv 1 ⊞ qv 1 ⊠ qv 1)) (qv 0 ⊞ qv 0 ⊠ qv 2 ⊠ 5 ÷ 4) tt ed (*_mono e₀ dd) in
    let W₂ : w ≤q nat 2 *q e =
    linq (e ∷ g ∷ w ∷ []) ((qv 2 ⊑ qv 0 ⊞ qv 0 ⊠ qv 1 ⊠ 5 ÷ 4 by 16) ∷ (qv 0 ⊠ qv 1 ⊑ qv 0 ⊠ 1 ÷ 4 by 20) ∷ (## 0 ⊑ qv 0 by 11) ∷ []) 15 (qv 2) (## 2 ⊠ qv 0) tt W eg e₀ in
    let up : f -q e ≤q (nat 2 *q g +q nat 4 *q t) *q e =
    linq (e ∷ f ∷ g ∷ w ∷ t ∷ [])
    ((qv 1 ⊑ qv 3 ⊠ (## 1 ⊞ qv 4) by 4) ∷ (qv 3 ⊑ qv 0 ⊞ qv 0 ⊠ qv 2 ⊠ 5 ÷ 4 by 4) ∷ (qv 4 ⊠ qv 3 ⊑ qv 4 ⊠ (## 2 ⊠ qv 0) by 4) ∷ (## 0 ⊑ qv 0 ⊠ qv 2 by 3) ∷ (## 0 ⊑ qv 0 ⊠ qv 4 by 8) ∷ [])
    3 (qv 1 ⊟ qv 0) ((## 2 ⊠ qv 2 ⊞ ## 4 ⊠ qv 4) ⊠ qv 0) tt (E_shift_≤ d k n mx mz D₁) W (*_mono tails_nonneg W₂) eg₀ et₀ in
    let F : f ≤q nat 2 *q e =
    linq (e ∷ f ∷ g ∷ t ∷ []) ((qv 1 ⊟ qv 0 ⊑ (## 2 ⊠ qv 2 ⊞ ## 4 ⊠ qv 3) ⊠ qv 0 by 1) ∷ (qv 0 ⊠ qv 2 ⊑ qv 0 ⊠ 1 ÷ 4 by 2) ∷ (qv 0 ⊠ qv 3 ⊑ qv 0 ⊠ 1 ÷ 8 by 4) ∷ []) 0 (qv 1) (## 2 ⊠ qv 0) tt up eg (*_mono e₀ tails_small) in
    record {
      above = up;
      below =
          linq (e ∷ f ∷ d ∷ g ∷ t ∷ [])
          ((qv 0 ⊠ (## 1 ⊞ qv 2) ⊑ qv 1 ⊠ (## 1 ⊞ qv 4) by 1) ∷ (qv 0 ⊠ ⊝ (qv 2) ⊑ qv 0 ⊠ qv 3 by 1) ∷ (qv 4 ⊠ qv 1 ⊑ qv 4 ⊠ (## 2 ⊠ qv 0) by 1) ∷ (## 0 ⊑ qv 0 ⊠ qv 3 by 1) ∷ (## 0 ⊑ qv 0 ⊠ qv 4 by 2) ∷ [])
          0 (qv 0 ⊟ qv 1) ((## 2 ⊠ qv 3 ⊞ ## 4 ⊠ qv 4) ⊠ qv 0) tt (E_shift_≥ d k n mx mz D₁) en (*_mono tails_nonneg F) eg₀ et₀;
    }

-- ---- E(u) ≤ E(v) only where u ≤ v, but for the tails
two_tails : absq (nat 2 *q tails) ≤q nat 1
unfolding leqb nat ◌//◌ ◌*q◌ absq
two_tails = lit_≤ tt

whole : (P : ℕ) → 1 ≤ P → nat P *q (1 // P) ≈q nat 1
whole P h = *_cong (≈_sym (frac_nat P)) (≈_refl (1 // P)) ⟫ frac_* P 1 (zero-lt-suc 0) h ⟫ frac_≈ _ 1 (mul-pos (zero-lt-suc 0) h) (zero-lt-suc 0) (omega arith) ⟫ frac_nat 1

unit_factor : (e : ℚ) (P : ℕ) → 1 ≤ P → e *q (1 // P) ≤q nat 0 → e ≤q nat 0
unit_factor e P h l =
    ≤_trans (≤_of_≈ (req (e ∷ []) (qv 0) (qv 0 ⊠ ## 1) tt tt ⟫ *_cong (≈_refl e) (≈_sym (whole P h)) ⟫ req (e ∷ nat P ∷ (1 // P) ∷ []) (qv 0 ⊠ (qv 1 ⊠ qv 2)) (qv 1 ⊠ (qv 0 ⊠ qv 2)) tt tt))
    (≤_trans (*_mono (nat_≤ {a = 0} zero-le) l) (leq (nat P ∷ []) (qv 0 ⊠ ## 0) (## 0) tt))

pub E_reflects : {K N : ℕ} {u v : ℚ} → Enough K → Enough N → Moderate v → Moderate (v +q nat 2 *q tails) → E K u ≤q E N v → u ≤q v +q nat 2 *q tails
E_reflects {K} {N} {u} {v} k n mv mw h = elim (≤_or_≤ u (v +q nat 2 *q tails)) [
  | inl l ↦ l
  | inr l ↦
      let e = E N v in let d = nat 2 *q tails in
      let f = E K (v +q d) in
      let t = tails in
      let p : e *q (nat 1 +q d) ≤q f *q (nat 1 +q t) = E_shift_≥ d k n mv mw two_tails in
      let q : f *q (nat 1 +q t) ≤q e *q (nat 1 +q t) = ≤_trans (≤_of_≈ (*_comm f (nat 1 +q t))) (≤_trans (*_mono factor_nonneg (≤_trans (E_mono K l) h)) (≤_of_≈ (*_comm (nat 1 +q t) e))) in
      absurd (E_not_zero N v (≤_antisym (unit_factor e (2 ^ 998) large
      (linq (e ∷ t ∷ f ∷ []) ((qv 0 ⊠ (## 1 ⊞ ## 2 ⊠ qv 1) ⊑ qv 2 ⊠ (## 1 ⊞ qv 1) by 1) ∷ (qv 2 ⊠ (## 1 ⊞ qv 1) ⊑ qv 0 ⊠ (## 1 ⊞ qv 1) by 1) ∷ []) 0 (qv 0 ⊠ qv 1) (## 0) tt p q)) (E_nonneg N v)))
]
  where
    large : 1 ≤ 2 ^ 998
    large = pow_pos 998
