-- All errors of the returned current together: about 202, 120 and 20 roundings of s = b V V (1 + lambda V), of r s and of gmin V.
use Prim.Native.Nat.{◌^◌}
use mathlib.Core.List.{[], ◌∷◌}
use Rattle.exact.specs.Fraction.{ℚ, ◌//◌, nat, ◌+q◌, ◌*q◌, absq, ◌≤q◌}
use Rattle.exact.proofs.Computing.{computing}
use Rattle.exact.proofs.FractionLaws.{≤_refl, ≤_trans, *_mono, lit_≤}
use Rattle.exact.proofs.FractionProver.{qv, ##, ◌÷◌, ◌⊞◌, ◌⊠◌, linq, ◌⊑◌by◌}
use Rattle.exact.proofs.StrictOrder.{*_nonneg}
use Rattle.exact.proofs.Closeness.{abs_nonneg, *_mono₂}
use Rattle.exact.proofs.Rounding.{frac_nonneg}
use Rattle.channel_current.specs.ChannelCurrent.{scale_from}
use Rattle.channel_current.proofs.Sizes.{underflow}
use Rattle.channel_current.proofs.Regions.{current_scale}
use Rattle.channel_current.proofs.RegionChoice.{current_error}
use Rattle.channel_current.proofs.NortonCurrent.{term_sizes}

abbrev pub all_errors : (s ids gm vgs gds vds gmbs vbs : ℚ) → ℚ
all_errors s ids gm vgs gds vds gmbs vbs = (10 // 2 ^ 53) *q term_sizes ids gm vgs gds vds gmbs vbs +q 1 // 2 ^ 960 +q current_error s

module _ (s g v q r ids gm vgs gds vds gmbs vbs : ℚ) (s₀ : nat 0 ≤q s) (v₀ : nat 0 ≤q v) (q₀ : nat 0 ≤q q) (r₀ : nat 0 ≤q r) (v_top : v ≤q nat (2 ^ 14)) (g_is : g *q v ≤q s)
    (I : absq ids ≤q nat 4 *q s +q underflow) (M : absq gm ≤q nat 3 *q g +q underflow) (G : absq vgs ≤q v) (D : absq gds ≤q nat 8 *q g +q nat 2 *q q +q nat 3 *q underflow) (S : absq vds ≤q v)
    (K : absq gmbs *q absq vbs ≤q nat 12 *q (r *q s) +q 1 // 2 ^ 940) where
  -- below 2^-45 of the scale s (1 + r) + q v, and 2^-901
  errors_≤ : all_errors s ids gm vgs gds vds gmbs vbs ≤q (1 // 2 ^ 45) *q (s *q (nat 1 +q r) +q q *q v) +q 1 // 2 ^ 901
  unfolding computing
  errors_≤ =
      linq (s ∷ g ∷ v ∷ q ∷ r ∷ absq ids ∷ absq gm ∷ absq vgs ∷ absq gds ∷ absq vds ∷ absq gmbs ∷ absq vbs ∷ underflow ∷ (1 // 2 ^ 960) ∷ (1 // 2 ^ 901) ∷ (1 // 2 ^ 940) ∷ (underflow *q nat (2 ^ 14)) ∷ [])
      ((qv 5 ⊑ ## 4 ⊠ qv 0 ⊞ qv 12 by 5)
      ∷ (qv 6 ⊠ qv 7 ⊑ (## 3 ⊠ qv 1 ⊞ qv 12) ⊠ qv 2 by 5)
      ∷ (qv 8 ⊠ qv 9 ⊑ (## 8 ⊠ qv 1 ⊞ ## 2 ⊠ qv 3 ⊞ ## 3 ⊠ qv 12) ⊠ qv 2 by 5)
      ∷ (qv 10 ⊠ qv 11 ⊑ ## 12 ⊠ (qv 4 ⊠ qv 0) ⊞ qv 15 by 5)
      ∷ (qv 1 ⊠ qv 2 ⊑ qv 0 by 55)
      ∷ (qv 12 ⊠ qv 2 ⊑ qv 16 by 20)
      ∷ (10 ÷ 2 ^ 53 ⊠ (qv 12 ⊞ ## 4 ⊠ qv 16 ⊞ qv 15) ⊞ qv 13 ⊞ ## 2 ⊠ qv 12 ⊑ qv 14 by 4503599627370496)
      ∷ (## 0 ⊑ qv 0 by 27)
      ∷ (## 0 ⊑ qv 4 ⊠ qv 0 by 68)
      ∷ (## 0 ⊑ qv 3 ⊠ qv 2 by 118)
      ∷ [])
      4503599627370495
      (10 ÷ 2 ^ 53 ⊠ (qv 5 ⊞ qv 6 ⊠ qv 7 ⊞ qv 8 ⊠ qv 9 ⊞ qv 10 ⊠ qv 11) ⊞ qv 13 ⊞ (52 ÷ 2 ^ 53 ⊠ qv 0 ⊞ ## 2 ⊠ qv 12))
      (1 ÷ 2 ^ 45 ⊠ (qv 0 ⊠ (## 1 ⊞ qv 4) ⊞ qv 3 ⊠ qv 2) ⊞ qv 14)
      tt
      I
      (*_mono₂ (abs_nonneg gm) (abs_nonneg vgs) M G)
      (*_mono₂ (abs_nonneg gds) (abs_nonneg vds) D S)
      K
      g_is
      (*_mono (frac_nonneg 1 (2 ^ 990)) v_top)
      (lit_≤ tt)
      s₀
      (*_nonneg r₀ s₀)
      (*_nonneg q₀ v₀)

  sum_nonneg : nat 0 ≤q s *q (nat 1 +q r) +q q *q v
  sum_nonneg = linq (s ∷ r ∷ q ∷ v ∷ []) ((## 0 ⊑ qv 0 by 1) ∷ (## 0 ⊑ qv 1 ⊠ qv 0 by 1) ∷ (## 0 ⊑ qv 2 ⊠ qv 3 by 1) ∷ []) 0 (## 0) (qv 0 ⊠ (## 1 ⊞ qv 1) ⊞ qv 2 ⊠ qv 3) tt s₀ (*_nonneg r₀ s₀) (*_nonneg q₀ v₀)

  -- so below any bound that is no less, of any scale that is no less
  pub errors_within : (c t scale : ℚ) → 1 // 2 ^ 45 ≤q c → 1 // 2 ^ 901 ≤q t → s *q (nat 1 +q r) +q q *q v ≤q scale → all_errors s ids gm vgs gds vds gmbs vbs ≤q c *q scale +q t
  errors_within c t scale C U h =
      linq (all_errors s ids gm vgs gds vds gmbs vbs ∷ c ∷ t ∷ scale ∷ (1 // 2 ^ 45) ∷ (1 // 2 ^ 901) ∷ (s *q (nat 1 +q r) +q q *q v) ∷ [])
      ((qv 0 ⊑ qv 4 ⊠ qv 6 ⊞ qv 5 by 1) ∷ (qv 4 ⊠ qv 6 ⊑ qv 4 ⊠ qv 3 by 1) ∷ (qv 3 ⊠ qv 4 ⊑ qv 3 ⊠ qv 1 by 1) ∷ (qv 5 ⊑ qv 2 by 1) ∷ []) 0 (qv 0) (qv 1 ⊠ qv 3 ⊞ qv 2) tt
      errors_≤ (*_mono (frac_nonneg 1 (2 ^ 45)) h) (*_mono (≤_trans sum_nonneg h) C) U

pub scale_covers : (b v a r q : ℚ) → current_scale b v a *q (nat 1 +q r) +q q *q v ≤q scale_from b v a r q
unfolding scale_from
scale_covers b v a r q = ≤_refl (current_scale b v a *q (nat 1 +q r) +q q *q v)
