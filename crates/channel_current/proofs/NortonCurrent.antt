-- jeq is ids less the three products, rounded six times more; so the products and jeq add up to ids again, but for these roundings.
use Prim.Native.Nat.{◌^◌}
use mathlib.Core.Path.{◌≡◌}
use mathlib.Core.Logic.{◌⊎◌}
use mathlib.Core.List.{[], ◌∷◌}
use lib.IntN.{pos}
use lib.Ieee.{Float, neg}
use Rattle.exact.specs.Fraction.{ℚ, ◌//◌, nat, ◌+q◌, ◌-q◌, ◌*q◌, absq, ◌≤q◌, ◌≈q◌, Within}
use Rattle.exact.specs.FloatValue.{value}
use Rattle.exact.specs.Float64.{◌⊗◌, +1}
use Rattle.exact.specs.Size.{AtMost}
use Rattle.exact.proofs.Computing.{computing}
use Rattle.exact.proofs.FractionLaws.{≈_refl, ≈_trans, +_cong, *_cong, ≤_refl, ≤_trans, +_mono, *_mono, lit_≤}
use Rattle.exact.proofs.FractionProver.{qv, ##, ◌÷◌, ◌⊞◌, ◌⊟◌, ◌⊠◌, req, linq, ◌⊑◌by◌}
use Rattle.exact.proofs.StrictOrder.{*_nonneg}
use Rattle.exact.proofs.Closeness.{abs_nonneg, mul_within, within_+, within_mono, within_nonneg, within_refl, within_≈, *_mono₂}
use Rattle.exact.proofs.Rounding.{frac_nonneg}
use Rattle.exact.proofs.RelativeErrors.{Rel, rel_at_most, rel_⊖, rel_⊗}
use Rattle.channel.specs.Channel.{norton_current_of}
use Rattle.channel_current.proofs.Polarity.{pol_square, pol_≤_1, pol_given, flipped_near}

-- |ids| + |gm vgs| + |gds vds| + |gmbs vbs|, with the vbs of the nodes
abbrev pub term_sizes : (ids gm vgs gds vds gmbs vbs : ℚ) → ℚ
term_sizes ids gm vgs gds vds gmbs vbs = absq ids +q absq gm *q absq vgs +q absq gds *q absq vds +q absq gmbs *q absq vbs

others_nonneg : (i g a d c : ℚ) → nat 0 ≤q absq i +q absq g *q absq a +q absq d *q absq c
others_nonneg i g a d c =
    linq (absq i ∷ absq g ∷ absq a ∷ absq d ∷ absq c ∷ []) ((## 0 ⊑ qv 0 by 1) ∷ (## 0 ⊑ qv 1 ⊠ qv 2 by 1) ∷ (## 0 ⊑ qv 3 ⊠ qv 4 by 1) ∷ []) 0 (## 0) (qv 0 ⊞ qv 1 ⊠ qv 2 ⊞ qv 3 ⊠ qv 4) tt
    (abs_nonneg i) (*_nonneg (abs_nonneg g) (abs_nonneg a)) (*_nonneg (abs_nonneg d) (abs_nonneg c))

module _ {pol ids gm gds gmbs vgs vds node_vbs : Float} (P : (pol ≡ +1) ⊎ (pol ≡ neg +1)) (I : AtMost ids (pos 90)) (N : AtMost gm (pos 80)) (D : AtMost gds (pos 81)) (K : AtMost gmbs (pos 104))
    (G : AtMost vgs (pos 11)) (S : AtMost vds (pos 11)) (B : AtMost node_vbs (pos 11)) where
  abbrev exact_norton : ℚ
  exact_norton = value pol *q value ids -q value gm *q (value pol *q value vgs) -q value gds *q (value pol *q value vds) -q value gmbs *q value node_vbs

  abbrev norton_scale : ℚ
  norton_scale = nat 1 *q absq (value ids) +q absq (value gm) *q (nat 1 *q absq (value vgs)) +q absq (value gds) *q (nat 1 *q absq (value vds)) +q absq (value gmbs) *q absq (value node_vbs)

  pub jeq_near : Rel (norton_current_of (pol ⊗ ids) gm (pol ⊗ vgs) gds (pol ⊗ vds) gmbs node_vbs) exact_norton norton_scale (nat (2 ^ 116)) (9 // 2 ^ 53) (1 // 2 ^ 990)
  unfolding computing norton_current_of
  jeq_near =
      let i = rel_⊗ (pol_given P) (rel_at_most I) (nat (2 ^ 90)) (1 // 2 ^ 53) (1 // 2 ^ 1075) tt in
      let m = rel_⊗ (rel_at_most N) (flipped_near P G) (nat (2 ^ 91)) (3 // 2 ^ 53) (1 // 2 ^ 994) tt in
      let d = rel_⊗ (rel_at_most D) (flipped_near P S) (nat (2 ^ 92)) (3 // 2 ^ 53) (1 // 2 ^ 993) tt in
      let k = rel_⊗ (rel_at_most K) (rel_at_most B) (nat (2 ^ 115)) (1 // 2 ^ 53) (1 // 2 ^ 1075) tt in
      rel_⊖ (rel_⊖ (rel_⊖ i m (nat (2 ^ 92)) (5 // 2 ^ 53) (1 // 2 ^ 993) tt) d (nat (2 ^ 93)) (7 // 2 ^ 53) (1 // 2 ^ 991) tt) k (nat (2 ^ 116)) (9 // 2 ^ 53) (1 // 2 ^ 990) tt

  -- what underflows: jeq's own, and gmbs times that of the flipped vbs
  rest_≤ : 1 // 2 ^ 990 +q absq (value gmbs) *q (1 // 2 ^ 1075) ≤q 1 // 2 ^ 960
  unfolding computing
  rest_≤ =
      ≤_trans (+_mono (≤_refl (1 // 2 ^ 990)) (*_mono₂ (abs_nonneg (value gmbs)) (frac_nonneg 1 (2 ^ 1075)) (≤_trans K.size (lit_≤ {y = nat (2 ^ 104)} tt)) (≤_refl (1 // 2 ^ 1075)))) (lit_≤ tt)

  -- exactly, with pol pol = 1
  exact_sum : value gm *q value vgs +q value gds *q value vds +q value gmbs *q (value pol *q value node_vbs) +q value pol *q exact_norton ≈q value ids
  exact_sum =
      let ρ = value pol ∷ value ids ∷ value gm ∷ value vgs ∷ value gds ∷ value vds ∷ value gmbs ∷ value node_vbs ∷ [] in
      let products = value gm *q value vgs +q value gds *q value vds in
      ≈_trans
      (req ρ
      (qv 2 ⊠ qv 3 ⊞ qv 4 ⊠ qv 5 ⊞ qv 6 ⊠ (qv 0 ⊠ qv 7) ⊞ qv 0 ⊠ (qv 0 ⊠ qv 1 ⊟ qv 2 ⊠ (qv 0 ⊠ qv 3) ⊟ qv 4 ⊠ (qv 0 ⊠ qv 5) ⊟ qv 6 ⊠ qv 7))
      (qv 0 ⊠ qv 0 ⊠ (qv 1 ⊟ (qv 2 ⊠ qv 3 ⊞ qv 4 ⊠ qv 5)) ⊞ (qv 2 ⊠ qv 3 ⊞ qv 4 ⊠ qv 5)) tt tt)
      (≈_trans (+_cong (*_cong (pol_square P) (≈_refl (value ids -q products))) (≈_refl products)) (req (value ids ∷ products ∷ []) (## 1 ⊠ (qv 0 ⊟ qv 1) ⊞ qv 1) (qv 0) tt tt))

  abbrev norton_error : ℚ
  norton_error = (9 // 2 ^ 53) *q norton_scale +q 1 // 2 ^ 990

  sum_error : norton_error *q absq (value pol) ≤q norton_error *q nat 1
      → nat 0 +q absq (value gmbs) *q ((1 // 2 ^ 53) *q (nat 1 *q absq (value node_vbs)) +q 1 // 2 ^ 1075) +q absq (value pol) *q norton_error
      ≤q (10 // 2 ^ 53) *q term_sizes (value ids) (value gm) (value vgs) (value gds) (value vds) (value gmbs) (value node_vbs) +q 1 // 2 ^ 960
  sum_error once =
      let error = 9 ÷ 2 ^ 53 ⊠ (## 1 ⊠ qv 0 ⊞ qv 1 ⊠ (## 1 ⊠ qv 2) ⊞ qv 3 ⊠ (## 1 ⊠ qv 4) ⊞ qv 5 ⊠ qv 6) ⊞ qv 9 in
      linq (absq (value ids) ∷ absq (value gm) ∷ absq (value vgs) ∷ absq (value gds) ∷ absq (value vds) ∷ absq (value gmbs) ∷ absq (value node_vbs) ∷ absq (value pol) ∷ (1 // 2 ^ 1075) ∷ (1 // 2 ^ 990) ∷ (1 // 2 ^ 960) ∷ [])
      ((error ⊠ qv 7 ⊑ error ⊠ ## 1 by 1)
      ∷ (qv 9 ⊞ qv 5 ⊠ qv 8 ⊑ qv 10 by 1)
      ∷ (## 0 ⊑ 1 ÷ 2 ^ 53 ⊠ (qv 0 ⊞ qv 1 ⊠ qv 2 ⊞ qv 3 ⊠ qv 4) by 1)
      ∷ [])
      0
      (## 0 ⊞ qv 5 ⊠ (1 ÷ 2 ^ 53 ⊠ (## 1 ⊠ qv 6) ⊞ qv 8) ⊞ qv 7 ⊠ error)
      (10 ÷ 2 ^ 53 ⊠ (qv 0 ⊞ qv 1 ⊠ qv 2 ⊞ qv 3 ⊠ qv 4 ⊞ qv 5 ⊠ qv 6) ⊞ qv 10)
      tt
      once
      rest_≤
      (*_nonneg (frac_nonneg 1 (2 ^ 53)) (others_nonneg (value ids) (value gm) (value vgs) (value gds) (value vds)))

  pub norton_returns : Within (value gm *q value vgs +q value gds *q value vds +q value gmbs *q value (pol ⊗ node_vbs) +q value pol *q value (norton_current_of (pol ⊗ ids) gm (pol ⊗ vgs) gds (pol ⊗ vds) gmbs node_vbs)) (value ids)
      ((10 // 2 ^ 53) *q term_sizes (value ids) (value gm) (value vgs) (value gds) (value vds) (value gmbs) (value node_vbs) +q 1 // 2 ^ 960)
  norton_returns =
      let close = jeq_near.est.close in
      within_mono (within_≈ (≈_refl _) exact_sum (within_+ (within_+ (within_refl (value gm *q value vgs +q value gds *q value vds)) (mul_within (value gmbs) (flipped_near P B).est.close)) (mul_within (value pol) close)))
      (sum_error (*_mono (within_nonneg close) (pol_≤_1 P)))
