-- The channel in each region, with its exact current: how near ids is to it, and how large the conductances are.
-- Scales: s = b V V (1 + lambda V) for currents, g = b V (1 + lambda V) for conductances.
use Prim.Native.Nat.{◌^◌}
use mathlib.Core.List.{[], ◌∷◌}
use lib.IntN.{pos}
use lib.Ieee.{Float}
use Rattle.exact.specs.Fraction.{ℚ, ◌//◌, nat, ◌+q◌, ◌-q◌, ◌*q◌, absq, ◌≤q◌, Within}
use Rattle.exact.specs.FloatValue.{value}
use Rattle.exact.specs.Size.{AtMost}
use Rattle.exact.proofs.Computing.{computing}
use Rattle.exact.proofs.FractionLaws.{lit_≤}
use Rattle.exact.proofs.FractionProver.{qv, ##, ◌÷◌, ◌⊞◌, ◌⊠◌, linq, ◌⊑◌by◌}
use Rattle.exact.proofs.StrictOrder.{*_nonneg}
use Rattle.exact.proofs.Sizes.{at_most_⊗, at_most_neg}
use Rattle.exact.proofs.RelativeErrors.{Rel, rel_⊕, rel_⊖, rel_⊗}
use Rattle.channel.specs.Channel.{triode_charge_of, body_transconductance_of, triode_of, saturation_of}
use Rattle.channel.specs.declared.Channel.{Channel}
use Rattle.channel_current.specs.ChannelCurrent.{triode_current, saturation_current}
use Rattle.channel_current.proofs.Terms.{a_half, Beta, Voltage, Difference, Lambda, modulation_near}
use Rattle.channel_current.proofs.Sizes.{underflow, top_of, size_of, close_of, body_size}

abbrev pub current_scale : (b v lambda : ℚ) → ℚ
current_scale b v lambda = b *q v *q v *q (nat 1 +q lambda *q v)

abbrev pub conductance_scale : (b v lambda : ℚ) → ℚ
conductance_scale b v lambda = b *q v *q (nat 1 +q lambda *q v)

pub record ChannelEstimate (at : Channel) (current error s g : ℚ) : Type 0 where
  pub ids_close : Within (value at.ids) current error
  pub ids_size : absq (value at.ids) ≤q nat 4 *q s +q underflow
  pub ids_top : AtMost at.ids (pos 90)
  pub gm_size : absq (value at.gm) ≤q nat 3 *q g +q underflow
  pub gm_top : AtMost at.gm (pos 80)
  pub gds_size : absq (value at.gds) ≤q nat 7 *q g +q underflow
  pub gds_top : AtMost at.gds (pos 80)
  pub gmbs_size : absq (value at.gmbs) ≤q nat (2 ^ 25) *q absq (value at.gm) +q underflow
  pub gmbs_top : AtMost at.gmbs (pos 104)

-- sixteen roundings of a current of 3 s at most
abbrev pub region_error : ℚ → ℚ
region_error s = (48 // 2 ^ 53) *q s +q underflow

-- from three bounds relative to scales of at most 3 s, 2 g and 6 g
module _ {ids gm gds slope : Float} {zi zm zd Bi Bm Bd s g : ℚ} (S : nat 0 ≤q s) (G : nat 0 ≤q g)
    (I : Rel ids zi Bi (nat (2 ^ 89)) (16 // 2 ^ 53) (1 // 2 ^ 990)) (i : Bi ≤q nat 3 *q s)
    (N : Rel gm zm Bm (nat (2 ^ 79)) (16 // 2 ^ 53) (1 // 2 ^ 990)) (n : Bm ≤q nat 2 *q g)
    (D : Rel gds zd Bd (nat (2 ^ 79)) (16 // 2 ^ 53) (1 // 2 ^ 990)) (d : Bd ≤q nat 6 *q g)
    (L : AtMost slope (pos 24)) where
  estimate : ChannelEstimate (record { ids = ids; gm = gm; gds = gds; gmbs = body_transconductance_of gm slope }) zi (region_error s) s g
  unfolding computing body_transconductance_of
  estimate =
      let m = top_of N (lit_≤ tt) (pos 80) (lit_≤ tt) in
      record {
        ids_close = close_of I (lit_≤ tt) S (nat 3) (48 // 2 ^ 53) i (lit_≤ tt) (lit_≤ tt);
        ids_size = size_of I (lit_≤ tt) S (nat 3) (nat 4) i (lit_≤ tt) (lit_≤ tt);
        ids_top = top_of I (lit_≤ tt) (pos 90) (lit_≤ tt);
        gm_size = size_of N (lit_≤ tt) G (nat 2) (nat 3) n (lit_≤ tt) (lit_≤ tt);
        gm_top = m;
        gds_size = size_of D (lit_≤ tt) G (nat 6) (nat 7) d (lit_≤ tt) (lit_≤ tt);
        gds_top = top_of D (lit_≤ tt) (pos 80) (lit_≤ tt);
        gmbs_size = body_size m L;
        gmbs_top = at_most_⊗ (at_most_neg m) L tt;
      }

-- ---- both scales are not negative, and what the regions' terms are against them
module _ {b v a : ℚ} (b₀ : nat 0 ≤q b) (v₀ : nat 0 ≤q v) (a₀ : nat 0 ≤q a) where
  bv : nat 0 ≤q b *q v
  bv = *_nonneg b₀ v₀

  bvav : nat 0 ≤q b *q v *q (a *q v)
  bvav = *_nonneg bv (*_nonneg a₀ v₀)

  pub conductance_nonneg : nat 0 ≤q conductance_scale b v a
  conductance_nonneg = linq (b ∷ v ∷ a ∷ []) ((## 0 ⊑ qv 0 ⊠ qv 1 by 1) ∷ (## 0 ⊑ qv 0 ⊠ qv 1 ⊠ (qv 2 ⊠ qv 1) by 1) ∷ []) 0 (## 0) (qv 0 ⊠ qv 1 ⊠ (## 1 ⊞ qv 2 ⊠ qv 1)) tt bv bvav

  pub current_nonneg : nat 0 ≤q current_scale b v a
  current_nonneg = linq (b ∷ v ∷ a ∷ []) ((## 0 ⊑ qv 0 ⊠ qv 1 ⊠ (## 1 ⊞ qv 2 ⊠ qv 1) ⊠ qv 1 by 1) ∷ []) 0 (## 0) (qv 0 ⊠ qv 1 ⊠ qv 1 ⊠ (## 1 ⊞ qv 2 ⊠ qv 1)) tt (*_nonneg conductance_nonneg v₀)

  triode_ids_scale : b *q ((v +q v) *q v +q 1 // 2 *q v *q v) *q (nat 1 +q a *q v) ≤q nat 3 *q current_scale b v a
  triode_ids_scale =
      linq (b ∷ v ∷ a ∷ []) ((## 0 ⊑ qv 0 ⊠ qv 1 ⊠ qv 1 ⊠ (## 1 ⊞ qv 2 ⊠ qv 1) by 1) ∷ []) 1
      (qv 0 ⊠ ((qv 1 ⊞ qv 1) ⊠ qv 1 ⊞ 1 ÷ 2 ⊠ qv 1 ⊠ qv 1) ⊠ (## 1 ⊞ qv 2 ⊠ qv 1)) (## 3 ⊠ (qv 0 ⊠ qv 1 ⊠ qv 1 ⊠ (## 1 ⊞ qv 2 ⊠ qv 1))) tt current_nonneg

  triode_gm_scale : b *q v *q (nat 1 +q a *q v) ≤q nat 2 *q conductance_scale b v a
  triode_gm_scale = linq (conductance_scale b v a ∷ []) ((## 0 ⊑ qv 0 by 1) ∷ []) 0 (qv 0) (## 2 ⊠ qv 0) tt conductance_nonneg

  triode_gds_scale : b *q ((v +q v) +q v) *q (nat 1 +q a *q v) +q b *q ((v +q v) *q v +q 1 // 2 *q v *q v) *q a ≤q nat 6 *q conductance_scale b v a
  triode_gds_scale =
      linq (b ∷ v ∷ a ∷ []) ((## 0 ⊑ qv 0 ⊠ qv 1 by 6) ∷ (## 0 ⊑ qv 0 ⊠ qv 1 ⊠ (qv 2 ⊠ qv 1) by 1) ∷ []) 1
      (qv 0 ⊠ ((qv 1 ⊞ qv 1) ⊞ qv 1) ⊠ (## 1 ⊞ qv 2 ⊠ qv 1) ⊞ qv 0 ⊠ ((qv 1 ⊞ qv 1) ⊠ qv 1 ⊞ 1 ÷ 2 ⊠ qv 1 ⊠ qv 1) ⊠ qv 2) (## 6 ⊠ (qv 0 ⊠ qv 1 ⊠ (## 1 ⊞ qv 2 ⊠ qv 1))) tt bv bvav

  saturation_ids_scale : 1 // 2 *q b *q (v +q v) *q (v +q v) *q (nat 1 +q a *q v) ≤q nat 3 *q current_scale b v a
  saturation_ids_scale =
      linq (b ∷ v ∷ a ∷ []) ((## 0 ⊑ qv 0 ⊠ qv 1 ⊠ qv 1 ⊠ (## 1 ⊞ qv 2 ⊠ qv 1) by 1) ∷ []) 0
      (1 ÷ 2 ⊠ qv 0 ⊠ (qv 1 ⊞ qv 1) ⊠ (qv 1 ⊞ qv 1) ⊠ (## 1 ⊞ qv 2 ⊠ qv 1)) (## 3 ⊠ (qv 0 ⊠ qv 1 ⊠ qv 1 ⊠ (## 1 ⊞ qv 2 ⊠ qv 1))) tt current_nonneg

  saturation_gm_scale : b *q (v +q v) *q (nat 1 +q a *q v) ≤q nat 2 *q conductance_scale b v a
  saturation_gm_scale = linq (b ∷ v ∷ a ∷ []) [] 0 (qv 0 ⊠ (qv 1 ⊞ qv 1) ⊠ (## 1 ⊞ qv 2 ⊠ qv 1)) (## 2 ⊠ (qv 0 ⊠ qv 1 ⊠ (## 1 ⊞ qv 2 ⊠ qv 1))) tt

  saturation_gds_scale : 1 // 2 *q b *q (v +q v) *q (v +q v) *q a ≤q nat 6 *q conductance_scale b v a
  saturation_gds_scale =
      linq (b ∷ v ∷ a ∷ []) ((## 0 ⊑ qv 0 ⊠ qv 1 by 6) ∷ (## 0 ⊑ qv 0 ⊠ qv 1 ⊠ (qv 2 ⊠ qv 1) by 4) ∷ []) 0
      (1 ÷ 2 ⊠ qv 0 ⊠ (qv 1 ⊞ qv 1) ⊠ (qv 1 ⊞ qv 1) ⊠ qv 2) (## 6 ⊠ (qv 0 ⊠ qv 1 ⊠ (## 1 ⊞ qv 2 ⊠ qv 1))) tt bv bvav

-- ---- triode and saturation
module _ {beta vdsat vds lambda slope : Float} {b e v : ℚ} (B : Beta beta b) (E : Difference vdsat e v) (D : Voltage vds v) (A : Lambda lambda) (L : AtMost slope (pos 24)) (b₀ : nat 0 ≤q b) (v₀ : nat 0 ≤q v) (a₀ : nat 0 ≤q value lambda) where
  charge_near : Rel (triode_charge_of vdsat vds) (e *q value vds -q 1 // 2 *q value vds *q value vds) ((v +q v) *q v +q 1 // 2 *q v *q v) (nat (2 ^ 30)) (5 // 2 ^ 53) (1 // 2 ^ 1058)
  unfolding computing triode_charge_of
  charge_near =
      rel_⊖ (rel_⊗ E D (nat (2 ^ 29)) (3 // 2 ^ 53) (1 // 2 ^ 1060) tt)
      (rel_⊗ (rel_⊗ a_half D (nat (2 ^ 13)) (1 // 2 ^ 53) (1 // 2 ^ 1075) tt) D (nat (2 ^ 27)) (3 // 2 ^ 53) (1 // 2 ^ 1060) tt) (nat (2 ^ 30)) (5 // 2 ^ 53) (1 // 2 ^ 1058) tt

  pub triode_near : ChannelEstimate (triode_of beta vdsat vds lambda slope) (triode_current b e (value vds) (value lambda)) (region_error (current_scale b v (value lambda))) (current_scale b v (value lambda)) (conductance_scale b v (value lambda))
  unfolding computing triode_of triode_current
  triode_near =
      let M = modulation_near A D in
      let q = rel_⊗ B charge_near (nat (2 ^ 69)) (10 // 2 ^ 53) (1 // 2 ^ 1018) tt in
      let i = rel_⊗ q M (nat (2 ^ 89)) (16 // 2 ^ 53) (1 // 2 ^ 990) tt in
      let n = rel_⊗ (rel_⊗ B D (nat (2 ^ 53)) (5 // 2 ^ 53) (1 // 2 ^ 1050) tt) M (nat (2 ^ 79)) (16 // 2 ^ 53) (1 // 2 ^ 990) tt in
      let h = rel_⊗ (rel_⊗ B (rel_⊖ E D (nat (2 ^ 16)) (3 // 2 ^ 53) (1 // 2 ^ 1073) tt) (nat (2 ^ 55)) (8 // 2 ^ 53) (1 // 2 ^ 1033) tt) M (nat (2 ^ 74)) (13 // 2 ^ 53) (1 // 2 ^ 1013) tt in
      let d = rel_⊕ h (rel_⊗ q A (nat (2 ^ 73)) (12 // 2 ^ 53) (1 // 2 ^ 1013) tt) (nat (2 ^ 79)) (16 // 2 ^ 53) (1 // 2 ^ 990) tt in
      estimate (current_nonneg b₀ v₀ a₀) (conductance_nonneg b₀ v₀ a₀) i (triode_ids_scale b₀ v₀ a₀) n (triode_gm_scale b₀ v₀ a₀) d (triode_gds_scale b₀ v₀ a₀) L

  pub saturation_near : ChannelEstimate (saturation_of beta vdsat vds lambda slope) (saturation_current b e (value vds) (value lambda)) (region_error (current_scale b v (value lambda))) (current_scale b v (value lambda)) (conductance_scale b v (value lambda))
  unfolding computing saturation_of saturation_current
  saturation_near =
      let M = modulation_near A D in
      let q = rel_⊗ (rel_⊗ (rel_⊗ a_half B (nat (2 ^ 38)) (5 // 2 ^ 53) (1 // 2 ^ 1065) tt) E (nat (2 ^ 53)) (8 // 2 ^ 53) (1 // 2 ^ 1036) tt) E (nat (2 ^ 68)) (11 // 2 ^ 53) (1 // 2 ^ 1020) tt in
      let i = rel_⊗ q M (nat (2 ^ 89)) (16 // 2 ^ 53) (1 // 2 ^ 990) tt in
      let n = rel_⊗ (rel_⊗ B E (nat (2 ^ 54)) (6 // 2 ^ 53) (1 // 2 ^ 1035) tt) M (nat (2 ^ 79)) (16 // 2 ^ 53) (1 // 2 ^ 990) tt in
      let d = rel_⊗ q A (nat (2 ^ 79)) (16 // 2 ^ 53) (1 // 2 ^ 990) tt in
      estimate (current_nonneg b₀ v₀ a₀) (conductance_nonneg b₀ v₀ a₀) i (saturation_ids_scale b₀ v₀ a₀) n (saturation_gm_scale b₀ v₀ a₀) d (saturation_gds_scale b₀ v₀ a₀) L
