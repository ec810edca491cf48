-- The region is chosen by comparing floats, with a rounded vdsat; the formula's by comparing exactly. Cutoff is the same in both. Where triode
-- and saturation differ, vds lies within one rounding of vdsat, and the two formulas are b/2 (vdsat - vds)² (1 + lambda vds) apart.
use Prim.Native.Nat.{◌+◌, ◌*◌, ◌^◌}
use mathlib.Core.Bool.{Bool, true, false, not, cond}
use mathlib.Core.List.{[], ◌∷◌}
use lib.Dec.{T, nltb→le}
use lib.IntN.{pos}
use lib.Ieee.{Float}
use lib.Ieee.Scale.{finite}
use Rattle.exact.specs.Fraction.{ℚ, ◌//◌, nat, ◌+q◌, negq, ◌-q◌, ◌*q◌, absq, ◌≤q◌, ◌<q◌, ◌≈q◌, Within, ltqb}
use Rattle.exact.specs.FloatValue.{value}
use Rattle.exact.specs.Float64.{◌⊖◌, ◌<f◌, +0}
use Rattle.exact.specs.Size.{AtMost}
use Rattle.exact.proofs.Computing.{computing}
use Rattle.exact.proofs.FractionLaws.{≈_sym, ≈_refl, ≤_trans, ≤_of_≈, *_mono, lit_≤}
use Rattle.exact.proofs.FractionProver.{qv, ##, ◌÷◌, ◌⊞◌, ◌⊟◌, ◌⊠◌, ⊝, req, linq, ◌⊑◌by◌}
use Rattle.exact.proofs.StrictOrder.{≤_of_<, not_≤_of_<, *_nonneg, nat_nonneg, lit_<}
use Rattle.exact.proofs.AbsoluteValue.{abs_neg, abs_mono_≈}
use Rattle.exact.proofs.Closeness.{abs_nonneg, within_abs, abs_within, abs_*_le, abs_minus_le, *_mono₂, within_mono, within_trans, within_sym, within_≈, within_refl}
use Rattle.exact.proofs.Comparisons.{lt→<, nlt→≤}
use Rattle.exact.proofs.Constants.{value_+0}
use Rattle.exact.proofs.Rounding.{frac_nonneg}
use Rattle.exact.proofs.Sizes.{constant_at_most}
use Rattle.channel.specs.Channel.{region_of, cutoff_of, triode_of, saturation_of, in_region_of, shichman_hodges_of}
use Rattle.channel.specs.declared.Region.TheVariants.{Cutoff, Triode, Saturation}
use Rattle.channel.specs.declared.Channel.{Channel}
use Rattle.channel_current.specs.ChannelCurrent.{triode_current, saturation_current, exact_current}
use Rattle.channel_current.proofs.Terms.{Beta, Voltage, Lambda, difference, modulation_near}
use Rattle.channel_current.proofs.Sizes.{underflow}
use Rattle.channel_current.proofs.Regions.{current_scale, conductance_scale, ChannelEstimate, region_error, current_nonneg, conductance_nonneg, triode_near, saturation_near}

-- ---- what holds in each region holds of the channel
module _ (beta vgs vds vth lambda slope : Float) (G : T (finite vgs)) (D : T (finite vds)) (H : T (finite vth)) (S : T (finite (vgs ⊖ vth))) where
  pub channel_by : (P : Channel → Type 0) → (value vgs <q value vth → P cutoff_of)
      → (value vth ≤q value vgs → value vds <q value (vgs ⊖ vth) → P (triode_of beta (vgs ⊖ vth) vds lambda slope))
      → (value vth ≤q value vgs → value (vgs ⊖ vth) ≤q value vds → P (saturation_of beta (vgs ⊖ vth) vds lambda slope)) → P (shichman_hodges_of beta vgs vds vth lambda slope)
  unfolding shichman_hodges_of region_of in_region_of
  channel_by P f g h =
      go (vgs <f vth) (vds <f (vgs ⊖ vth)) (λ t. f (lt→< vgs vth G H t)) (λ t u. g (nlt→≤ vgs vth G H t) (lt→< vds (vgs ⊖ vth) D S u)) (λ t u. h (nlt→≤ vgs vth G H t) (nlt→≤ vds (vgs ⊖ vth) D S u))
    where
      go : (s t : Bool) → (T s → P cutoff_of) → (T (not s) → T t → P (triode_of beta (vgs ⊖ vth) vds lambda slope)) → (T (not s) → T (not t) → P (saturation_of beta (vgs ⊖ vth) vds lambda slope))
          → P (in_region_of (cond s Cutoff (cond t Triode Saturation)) beta (vgs ⊖ vth) vds lambda slope)
      go true t f g h = f tt
      go false true f g h = g tt tt
      go false false f g h = h tt tt

-- ---- and of the exact current
not_less : (x y : ℚ) → T (not (ltqb x y)) → y ≤q x
unfolding ltqb
not_less x y t = record { le = nltb→le (x.p * y.d + y.q * x.d) (y.p * x.d + x.q * y.d) t }

pub current_by : (b vgs vds vth lambda : ℚ) (P : ℚ → Type 0) → (vgs <q vth → P (nat 0)) → (vth ≤q vgs → vds <q vgs -q vth → P (triode_current b (vgs -q vth) vds lambda))
    → (vth ≤q vgs → vgs -q vth ≤q vds → P (saturation_current b (vgs -q vth) vds lambda)) → P (exact_current b vgs vds vth lambda)
unfolding exact_current
current_by b vgs vds vth lambda P f g h =
    go (ltqb vgs vth) (ltqb vds (vgs -q vth)) (λ t. f (lit_< t)) (λ t u. g (not_less vgs vth t) (lit_< u)) (λ t u. h (not_less vgs vth t) (not_less vds (vgs -q vth) u))
  where
    go : (s t : Bool) → (T s → P (nat 0)) → (T (not s) → T t → P (triode_current b (vgs -q vth) vds lambda)) → (T (not s) → T (not t) → P (saturation_current b (vgs -q vth) vds lambda))
        → P (cond s (nat 0) (cond t (triode_current b (vgs -q vth) vds lambda) (saturation_current b (vgs -q vth) vds lambda)))
    go true t f g h = f tt
    go false true f g h = g tt tt
    go false false f g h = h tt tt

-- ---- vds between the rounded vdsat and the exact one
abbrev spread : ℚ → ℚ
spread v = (1 // 2 ^ 53) *q (v +q v) +q 1 // 2 ^ 1075

below_rounded : {r e d f : ℚ} → Within r e f → nat 0 ≤q f → d ≤q r → e ≤q d → Within e d f
below_rounded {r} {e} {d} {f} W F h g = record {
  above = linq (e ∷ d ∷ f ∷ []) ((qv 0 ⊑ qv 1 by 1) ∷ (## 0 ⊑ qv 2 by 1) ∷ []) 0 (qv 0 ⊟ qv 1) (qv 2) tt g F;
  below = linq (r ∷ e ∷ d ∷ f ∷ []) ((qv 0 ⊟ qv 1 ⊑ qv 3 by 1) ∷ (qv 2 ⊑ qv 0 by 1) ∷ []) 0 (qv 2 ⊟ qv 1) (qv 3) tt W.above h;
}

above_rounded : {r e d f : ℚ} → Within r e f → nat 0 ≤q f → r ≤q d → d ≤q e → Within e d f
above_rounded {r} {e} {d} {f} W F h g = record {
  above = linq (r ∷ e ∷ d ∷ f ∷ []) ((qv 1 ⊟ qv 0 ⊑ qv 3 by 1) ∷ (qv 0 ⊑ qv 2 by 1) ∷ []) 0 (qv 1 ⊟ qv 2) (qv 3) tt W.below h;
  below = linq (e ∷ d ∷ f ∷ []) ((qv 1 ⊑ qv 0 by 1) ∷ (## 0 ⊑ qv 2 by 1) ∷ []) 0 (qv 1 ⊟ qv 0) (qv 2) tt g F;
}

-- the two formulas there
module _ {b v a e d : ℚ} (b₀ : nat 0 ≤q b) (v₀ : nat 0 ≤q v) (a₀ : nat 0 ≤q a) (B : absq b ≤q b) (E : absq e ≤q v +q v) (D : absq d ≤q v) (M : absq (nat 1 +q a *q d) ≤q nat 1 +q a *q v)
    (g_top : conductance_scale b v a ≤q nat (2 ^ 72)) (W : Within e d (spread v)) where
  square_≤ : absq (b *q (e -q d) *q (e -q d) *q (nat 1 +q a *q d)) ≤q b *q spread v *q (v +q v +q v) *q (nat 1 +q a *q v)
  square_≤ = abs_*_le (b *q (e -q d) *q (e -q d)) (nat 1 +q a *q d) (abs_*_le (b *q (e -q d)) (e -q d) (abs_*_le b (e -q d) B (abs_within W)) (abs_minus_le e d E D)) M

  rest_≤ : nat 3 *q ((1 // 2 ^ 1075) *q conductance_scale b v a) ≤q nat 2 *q underflow
  unfolding computing
  rest_≤ = ≤_trans (*_mono (nat_nonneg 3) (*_mono (lit_≤ tt) g_top)) (lit_≤ tt)

  difference_is : triode_current b e d a -q saturation_current b e d a ≈q negq (1 // 2 *q (b *q (e -q d) *q (e -q d) *q (nat 1 +q a *q d)))
  unfolding triode_current saturation_current
  difference_is =
      req (b ∷ e ∷ d ∷ a ∷ [])
      (qv 0 ⊠ (qv 1 ⊠ qv 2 ⊟ 1 ÷ 2 ⊠ qv 2 ⊠ qv 2) ⊠ (## 1 ⊞ qv 3 ⊠ qv 2) ⊟ 1 ÷ 2 ⊠ qv 0 ⊠ qv 1 ⊠ qv 1 ⊠ (## 1 ⊞ qv 3 ⊠ qv 2))
      (⊝ (1 ÷ 2 ⊠ (qv 0 ⊠ (qv 1 ⊟ qv 2) ⊠ (qv 1 ⊟ qv 2) ⊠ (## 1 ⊞ qv 3 ⊠ qv 2)))) tt tt

  pub formulas_near : Within (triode_current b e d a) (saturation_current b e d a) ((4 // 2 ^ 53) *q current_scale b v a +q underflow)
  unfolding computing
  formulas_near =
      let square = b *q (e -q d) *q (e -q d) *q (nat 1 +q a *q d) in
      let half = ≤_trans (≤_of_≈ (abs_neg (1 // 2 *q square))) (abs_*_le (1 // 2) square (lit_≤ {y = 1 // 2} tt) square_≤) in
      within_abs
      (≤_trans (abs_mono_≈ difference_is)
      (≤_trans half
      (linq (b ∷ v ∷ a ∷ (1 // 2 ^ 1075) ∷ underflow ∷ [])
      ((## 3 ⊠ (qv 3 ⊠ (qv 0 ⊠ qv 1 ⊠ (## 1 ⊞ qv 2 ⊠ qv 1))) ⊑ ## 2 ⊠ qv 4 by 1) ∷ (## 0 ⊑ 1 ÷ 2 ^ 53 ⊠ (qv 0 ⊠ qv 1 ⊠ qv 1 ⊠ (## 1 ⊞ qv 2 ⊠ qv 1)) by 2) ∷ [])
      1
      (1 ÷ 2 ⊠ (qv 0 ⊠ (1 ÷ 2 ^ 53 ⊠ (qv 1 ⊞ qv 1) ⊞ qv 3) ⊠ (qv 1 ⊞ qv 1 ⊞ qv 1) ⊠ (## 1 ⊞ qv 2 ⊠ qv 1)))
      (4 ÷ 2 ^ 53 ⊠ (qv 0 ⊠ qv 1 ⊠ qv 1 ⊠ (## 1 ⊞ qv 2 ⊠ qv 1)) ⊞ qv 4)
      tt
      rest_≤
      (*_nonneg (frac_nonneg 1 (2 ^ 53)) (current_nonneg b₀ v₀ a₀)))))

-- ---- the channel near the exact current
-- a region's error, and the distance of the two formulas
abbrev pub current_error : ℚ → ℚ
current_error s = (52 // 2 ^ 53) *q s +q nat 2 *q underflow

module _ {at : Channel} {z s g : ℚ} (S : nat 0 ≤q s) (A : ChannelEstimate at z (region_error s) s g) where
  -- of another exact current close by
  other_current : {w : ℚ} → Within z w ((4 // 2 ^ 53) *q s +q underflow) → ChannelEstimate at w (current_error s) s g
  other_current {w} W = record {
    ids_close = within_mono (within_trans A.ids_close W) (linq (s ∷ underflow ∷ []) [] 0 (48 ÷ 2 ^ 53 ⊠ qv 0 ⊞ qv 1 ⊞ (4 ÷ 2 ^ 53 ⊠ qv 0 ⊞ qv 1)) (52 ÷ 2 ^ 53 ⊠ qv 0 ⊞ ## 2 ⊠ qv 1) tt);
    ids_size = A.ids_size;
    ids_top = A.ids_top;
    gm_size = A.gm_size;
    gm_top = A.gm_top;
    gds_size = A.gds_size;
    gds_top = A.gds_top;
    gmbs_size = A.gmbs_size;
    gmbs_top = A.gmbs_top;
  }

  same_current : ChannelEstimate at z (current_error s) s g
  same_current = other_current (within_mono (within_refl z) (linq (s ∷ underflow ∷ []) ((## 0 ⊑ 4 ÷ 2 ^ 53 ⊠ qv 0 by 1) ∷ (## 0 ⊑ qv 1 by 1) ∷ []) 0 (## 0) (4 ÷ 2 ^ 53 ⊠ qv 0 ⊞ qv 1) tt (*_nonneg (frac_nonneg 4 (2 ^ 53)) S) (frac_nonneg 1 (2 ^ 990))))

-- in cutoff all is 0
module _ {s g : ℚ} (S : nat 0 ≤q s) (G : nat 0 ≤q g) where
  zero_size : {n x t : ℚ} → nat 0 ≤q n → nat 0 ≤q x → nat 0 ≤q t → absq (value +0) ≤q n *q x +q t
  unfolding computing
  zero_size {n} {x} {t} N X U = ≤_trans (lit_≤ {y = nat 0} tt) (linq (n ∷ x ∷ t ∷ []) ((## 0 ⊑ qv 0 ⊠ qv 1 by 1) ∷ (## 0 ⊑ qv 2 by 1) ∷ []) 0 (## 0) (qv 0 ⊠ qv 1 ⊞ qv 2) tt (*_nonneg N X) U)

  cutoff_near : ChannelEstimate cutoff_of (nat 0) (region_error s) s g
  unfolding computing cutoff_of
  cutoff_near =
      let t = frac_nonneg 1 (2 ^ 990) in
      record {
        ids_close = within_≈ (≈_sym value_+0) (≈_refl (nat 0)) (within_mono (within_refl (nat 0)) (linq (s ∷ underflow ∷ []) ((## 0 ⊑ 48 ÷ 2 ^ 53 ⊠ qv 0 by 1) ∷ (## 0 ⊑ qv 1 by 1) ∷ []) 0 (## 0) (48 ÷ 2 ^ 53 ⊠ qv 0 ⊞ qv 1) tt (*_nonneg (frac_nonneg 48 (2 ^ 53)) S) t));
        ids_size = zero_size (nat_nonneg 4) S t;
        ids_top = constant_at_most 0 (pos 90) tt;
        gm_size = zero_size (nat_nonneg 3) G t;
        gm_top = constant_at_most 0 (pos 80) tt;
        gds_size = zero_size (nat_nonneg 7) G t;
        gds_top = constant_at_most 0 (pos 80) tt;
        gmbs_size = zero_size (nat_nonneg (2 ^ 25)) (abs_nonneg (value +0)) t;
        gmbs_top = constant_at_most 0 (pos 104) tt;
      }

module _ {beta vgs vds vth lambda slope : Float} {b v : ℚ} (B : Beta beta b) (G : Voltage vgs v) (D : Voltage vds v) (H : Voltage vth v) (A : Lambda lambda) (L : AtMost slope (pos 24)) (b₀ : nat 0 ≤q b) (v₀ : nat 0 ≤q v) (a₀ : nat 0 ≤q value lambda) where
  conductance_top : conductance_scale b v (value lambda) ≤q nat (2 ^ 72)
  unfolding computing
  conductance_top =
      let m₀ = ≤_trans (abs_nonneg (nat 1 +q value lambda *q value vds)) (modulation_near A D).est.size in
      ≤_trans (*_mono₂ (*_nonneg b₀ v₀) m₀ (*_mono₂ b₀ v₀ B.bound D.bound) (modulation_near A D).bound) (lit_≤ tt)

  spread_nonneg : nat 0 ≤q spread v
  spread_nonneg = linq (v ∷ (1 // 2 ^ 1075) ∷ []) ((## 0 ⊑ 1 ÷ 2 ^ 53 ⊠ qv 0 by 2) ∷ (## 0 ⊑ qv 1 by 1) ∷ []) 0 (## 0) (1 ÷ 2 ^ 53 ⊠ (qv 0 ⊞ qv 0) ⊞ qv 1) tt (*_nonneg (frac_nonneg 1 (2 ^ 53)) v₀) (frac_nonneg 1 (2 ^ 1075))

  apart : Within (value vgs -q value vth) (value vds) (spread v)
      → Within (triode_current b (value vgs -q value vth) (value vds) (value lambda)) (saturation_current b (value vgs -q value vth) (value vds) (value lambda)) ((4 // 2 ^ 53) *q current_scale b v (value lambda) +q underflow)
  apart = formulas_near b₀ v₀ a₀ B.est.size (difference G H).est.size D.est.size (modulation_near A D).est.size conductance_top

  pub channel_near : ChannelEstimate (shichman_hodges_of beta vgs vds vth lambda slope) (exact_current b (value vgs) (value vds) (value vth) (value lambda)) (current_error (current_scale b v (value lambda))) (current_scale b v (value lambda)) (conductance_scale b v (value lambda))
  channel_near =
      let s = current_scale b v (value lambda) in let g = conductance_scale b v (value lambda) in
      let S = current_nonneg b₀ v₀ a₀ in
      let E = difference G H in
      let Near : Channel → ℚ → Type 0 = λ at z. ChannelEstimate at z (current_error s) s g in
      let exact = current_by b (value vgs) (value vds) (value vth) (value lambda) in
      channel_by beta vgs vds vth lambda slope G.est.fin D.est.fin H.est.fin E.est.fin
      (λ at. Near at (exact_current b (value vgs) (value vds) (value vth) (value lambda)))
      (λ c. exact (Near cutoff_of) (λ h. same_current S (cutoff_near S (conductance_nonneg b₀ v₀ a₀))) (λ h k. absurd (not_≤_of_< c h)) (λ h k. absurd (not_≤_of_< c h)))
      (λ c t.
      let near = triode_near B E D A L b₀ v₀ a₀ in
      exact (Near (triode_of beta (vgs ⊖ vth) vds lambda slope)) (λ h. absurd (not_≤_of_< h c)) (λ h k. same_current S near)
      (λ h k. other_current S near (apart (below_rounded E.est.close spread_nonneg (≤_of_< t) k))))
      (λ c t.
      let near = saturation_near B E D A L b₀ v₀ a₀ in
      exact (Near (saturation_of beta (vgs ⊖ vth) vds lambda slope)) (λ h. absurd (not_≤_of_< h c)) (λ h k. other_current S near (within_sym (apart (above_rounded E.est.close spread_nonneg t (≤_of_< k)))))
      (λ h k. same_current S near))
