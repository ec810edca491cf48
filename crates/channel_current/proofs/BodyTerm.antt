-- The term gmbs vbs, against r = |gmbs / gm|: where gm is not tiny, |gmbs| = r |gm|; where it is, gmbs is tiny too.
use Prim.Native.Nat.{◌^◌}
use mathlib.Core.Bool.{Bool, true, false, cond}
use mathlib.Core.Logic.{inl, inr}
use mathlib.Core.List.{[], ◌∷◌}
use lib.Dec.{T}
use Rattle.exact.specs.Fraction.{ℚ, ◌//◌, nat, ◌+q◌, ◌*q◌, ◌/q◌, absq, ◌≤q◌, ◌<q◌, ◌≈q◌, leqb}
use Rattle.exact.proofs.Computing.{computing}
use Rattle.exact.proofs.FractionLaws.{≈_sym, ≈_trans, ≤_of_≈, ≤_refl, *_mono, lit_≤}
use Rattle.exact.proofs.FractionProver.{qv, ##, ◌⊞◌, ◌⊠◌, linq, ◌⊑◌by◌}
use Rattle.exact.proofs.StrictOrder.{≤_of_<, ≤_or_<, ≤_<_trans, not_≤_of_<, *_nonneg}
use Rattle.exact.proofs.AbsoluteValue.{abs_nonneg, abs_cong, abs_*_≈, not_zero_of_abs}
use Rattle.exact.proofs.FractionDivision.{div_*}
use Rattle.exact.proofs.Rounding.{frac_nonneg}
use Rattle.channel_current.specs.ChannelCurrent.{body_ratio}
use Rattle.channel_current.proofs.Sizes.{underflow}
use Rattle.channel_current.proofs.Regions.{current_scale, conductance_scale}

-- ---- r
pub ratio_nonneg : (gm gmbs : ℚ) → nat 0 ≤q body_ratio gm gmbs
unfolding body_ratio
ratio_nonneg gm gmbs = go (leqb (absq gm) (nat 0))
  where
    go : (t : Bool) → nat 0 ≤q cond t (nat 0) (absq (gmbs /q gm))
    go true = ≤_refl (nat 0)
    go false = abs_nonneg (gmbs /q gm)

ratio_times : (gm gmbs : ℚ) → nat 0 <q absq gm → body_ratio gm gmbs *q absq gm ≈q absq gmbs
unfolding body_ratio
ratio_times gm gmbs h = go (leqb (absq gm) (nat 0)) (λ t. not_≤_of_< h (lit_≤ t))
  where
    go : (t : Bool) → (T t → ⊥) → cond t (nat 0) (absq (gmbs /q gm)) *q absq gm ≈q absq gmbs
    go true n = absurd (n tt)
    go false n = ≈_trans (≈_sym (abs_*_≈ (gmbs /q gm) gm)) (abs_cong (div_* gmbs gm (not_zero_of_abs h)))

module _ (gm gmbs : ℚ) {g : ℚ} (g₀ : nat 0 ≤q g) (K : absq gmbs ≤q nat (2 ^ 25) *q absq gm +q underflow) (M : absq gm ≤q nat 3 *q g +q underflow) where
  under_small : absq gm ≤q nat 2 *q underflow → absq gmbs ≤q nat 6 *q (body_ratio gm gmbs *q g) +q nat (2 ^ 27) *q underflow
  under_small h =
      linq (absq gmbs ∷ absq gm ∷ body_ratio gm gmbs ∷ g ∷ underflow ∷ [])
      ((qv 0 ⊑ ## (2 ^ 25) ⊠ qv 1 ⊞ qv 4 by 1) ∷ (qv 1 ⊑ ## 2 ⊠ qv 4 by 33554432) ∷ (## 0 ⊑ qv 2 ⊠ qv 3 by 6) ∷ (## 0 ⊑ qv 4 by 67108863) ∷ []) 0 (qv 0) (## 6 ⊠ (qv 2 ⊠ qv 3) ⊞ ## (2 ^ 27) ⊠ qv 4) tt
      K h (*_nonneg (ratio_nonneg gm gmbs) g₀) (frac_nonneg 1 (2 ^ 990))

  not_small : nat 2 *q underflow <q absq gm → absq gmbs ≤q nat 6 *q (body_ratio gm gmbs *q g) +q nat (2 ^ 27) *q underflow
  unfolding computing
  not_small h =
      let m : absq gm ≤q nat 6 *q g = linq (absq gm ∷ g ∷ underflow ∷ []) ((qv 0 ⊑ ## 3 ⊠ qv 1 ⊞ qv 2 by 2) ∷ (## 2 ⊠ qv 2 ⊑ qv 0 by 1) ∷ []) 0 (qv 0) (## 6 ⊠ qv 1) tt M (≤_of_< h) in
      let n = ≤_of_≈ (≈_sym (ratio_times gm gmbs (≤_<_trans (lit_≤ {y = nat 2 *q underflow} tt) h))) in
      linq (absq gmbs ∷ absq gm ∷ body_ratio gm gmbs ∷ g ∷ underflow ∷ [])
      ((qv 0 ⊑ qv 2 ⊠ qv 1 by 1) ∷ (qv 2 ⊠ qv 1 ⊑ qv 2 ⊠ (## 6 ⊠ qv 3) by 1) ∷ (## 0 ⊑ qv 4 by 134217728) ∷ []) 0 (qv 0) (## 6 ⊠ (qv 2 ⊠ qv 3) ⊞ ## (2 ^ 27) ⊠ qv 4) tt
      n (*_mono (ratio_nonneg gm gmbs) m) (frac_nonneg 1 (2 ^ 990))

  pub gmbs_by_ratio : absq gmbs ≤q nat 6 *q (body_ratio gm gmbs *q g) +q nat (2 ^ 27) *q underflow
  gmbs_by_ratio = elim (≤_or_< (absq gm) (nat 2 *q underflow)) [ inl h ↦ under_small h | inr h ↦ not_small h ]

-- ---- |gmbs| |vbs| ≤ 12 r s but for underflow; vbs is the nodes', at most 2 V but for underflow
module _ (b v a gm gmbs vbs : ℚ) (g₀ : nat 0 ≤q conductance_scale b v a) (v₀ : nat 0 ≤q v) (v_top : v ≤q nat (2 ^ 14)) (K : absq gmbs ≤q nat (2 ^ 25) *q absq gm +q underflow) (K_top : absq gmbs ≤q nat (2 ^ 104))
    (M : absq gm ≤q nat 3 *q conductance_scale b v a +q underflow) (W : absq vbs ≤q nat 2 *q v +q nat 2 *q (1 // 2 ^ 1075)) where
  pub body_term : absq gmbs *q absq vbs ≤q nat 12 *q (body_ratio gm gmbs *q current_scale b v a) +q 1 // 2 ^ 940
  unfolding computing
  body_term =
      linq (absq gmbs ∷ absq vbs ∷ v ∷ body_ratio gm gmbs ∷ b ∷ a ∷ underflow ∷ (1 // 2 ^ 1075) ∷ (underflow *q nat (2 ^ 14)) ∷ ((1 // 2 ^ 1075) *q nat (2 ^ 104)) ∷ (1 // 2 ^ 940) ∷ [])
      ((qv 0 ⊠ qv 1 ⊑ qv 0 ⊠ (## 2 ⊠ qv 2 ⊞ ## 2 ⊠ qv 7) by 1)
      ∷ (qv 2 ⊠ qv 0 ⊑ qv 2 ⊠ (## 6 ⊠ (qv 3 ⊠ (qv 4 ⊠ qv 2 ⊠ (## 1 ⊞ qv 5 ⊠ qv 2))) ⊞ ## (2 ^ 27) ⊠ qv 6) by 2)
      ∷ (qv 7 ⊠ qv 0 ⊑ qv 9 by 2)
      ∷ (qv 6 ⊠ qv 2 ⊑ qv 8 by 268435456)
      ∷ (## (2 ^ 28) ⊠ qv 8 ⊞ ## 2 ⊠ qv 9 ⊑ qv 10 by 1)
      ∷ [])
      0
      (qv 0 ⊠ qv 1)
      (## 12 ⊠ (qv 3 ⊠ (qv 4 ⊠ qv 2 ⊠ qv 2 ⊠ (## 1 ⊞ qv 5 ⊠ qv 2))) ⊞ qv 10)
      tt
      (*_mono (abs_nonneg gmbs) W)
      (*_mono v₀ (gmbs_by_ratio gm gmbs g₀ K M))
      (*_mono (frac_nonneg 1 (2 ^ 1075)) K_top)
      (*_mono (frac_nonneg 1 (2 ^ 990)) v_top)
      (lit_≤ tt)
