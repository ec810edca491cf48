-- Demand 3, the channel: what the loaded conductances and jeq return is the formula's current, within 2^-40 of the scale and 2^-900.
use Prim.Native.Nat.{◌^◌}
use mathlib.Core.List.{[], ◌∷◌}
use lib.IntN.{pos}
use Rattle.exact.specs.Fraction.{ℚ, ◌//◌, nat, ◌+q◌, ◌*q◌, absq, ◌≤q◌}
use Rattle.exact.specs.FloatValue.{value}
use Rattle.exact.specs.Float64.{◌⊕◌}
use Rattle.exact.specs.Size.{AtMost}
use Rattle.exact.proofs.Computing.{computing}
use Rattle.exact.proofs.FractionLaws.{≤_refl, ≤_trans, +_mono, *_mono, lit_≤}
use Rattle.exact.proofs.FractionProver.{qv, ##, ◌⊞◌, ◌⊠◌, leq}
use Rattle.exact.proofs.StrictOrder.{*_nonneg, nat_nonneg}
use Rattle.exact.proofs.Closeness.{abs_nonneg, within_mono, within_trans}
use Rattle.exact.proofs.Maximum.{≤_max4_1, ≤_max4_2, ≤_max4_3, ≤_max4_4, max4_≤}
use Rattle.exact.proofs.FractionDivision.{div_nonneg}
use Rattle.exact.proofs.Sizes.{at_most_⊕, at_most_⊗}
use Rattle.channel_current.specs.ChannelCurrent.{ChannelInputs, vbs_of, evaluated_of, stamp_from_of, stamp_of, returned_current, exact_beta, formula_current, largest_voltage, body_ratio, channel_scale, bound_from, ChannelReturns, ChannelSizes}
use Rattle.channel_current.proofs.Terms.{beta_near, voltage, lambda_given}
use Rattle.channel_current.proofs.Sizes.{with_gmin_size}
use Rattle.channel_current.proofs.ErrorSum.{errors_within, scale_covers}
use Rattle.channel_current.proofs.Regions.{ChannelEstimate, current_scale, conductance_scale, current_nonneg, conductance_nonneg}
use Rattle.channel_current.proofs.RegionChoice.{current_error, channel_near}
use Rattle.channel_current.proofs.Polarity.{pol_size, node_size_lem}
use Rattle.channel_current.proofs.NortonCurrent.{jeq_near, norton_returns}
use Rattle.channel_current.proofs.BodyTerm.{ratio_nonneg, body_term}

-- the two scales
abbrev current_of : ChannelInputs → ℚ
current_of i = current_scale (exact_beta i) (largest_voltage i) (value i.lambda)

abbrev conductance_of : ChannelInputs → ℚ
conductance_of i = conductance_scale (exact_beta i) (largest_voltage i) (value i.lambda)

module _ (i : ChannelInputs) (H : ChannelSizes i) where
  beta_nonneg : nat 0 ≤q exact_beta i
  unfolding exact_beta
  beta_nonneg = *_nonneg H.kp_sign.sign (div_nonneg H.w_sign.sign H.l_sign.sign)

  vgs_≤ : absq (value i.vgs) ≤q largest_voltage i
  unfolding largest_voltage
  vgs_≤ = ≤_max4_1 _ _ _ _

  vds_≤ : absq (value i.vds) ≤q largest_voltage i
  unfolding largest_voltage
  vds_≤ = ≤_max4_2 _ _ _ _

  vbs_≤ : absq (value (vbs_of i)) ≤q largest_voltage i
  unfolding largest_voltage
  vbs_≤ = ≤_max4_3 _ _ _ _

  vth_≤ : absq (value i.vth) ≤q largest_voltage i
  unfolding largest_voltage
  vth_≤ = ≤_max4_4 _ _ _ _

  voltage_nonneg : nat 0 ≤q largest_voltage i
  voltage_nonneg = ≤_trans (abs_nonneg (value i.vgs)) vgs_≤

  voltage_top : largest_voltage i ≤q nat (2 ^ 14)
  unfolding largest_voltage vbs_of computing
  voltage_top =
      let flipped = at_most_⊗ (pol_size H.polarity) H.node_vbs_size tt in
      max4_≤ (≤_trans H.vgs_size.size (lit_≤ tt)) (≤_trans H.vds_size.size (lit_≤ tt)) (≤_trans flipped.size (lit_≤ tt)) (≤_trans H.vth_size.size (lit_≤ tt))

  evaluated_near : ChannelEstimate (evaluated_of i) (formula_current i) (current_error (current_of i)) (current_of i) (conductance_of i)
  unfolding evaluated_of formula_current exact_beta
  evaluated_near =
      channel_near (beta_near H.kp_sign H.kp_size H.w_sign H.w_size H.l_sign H.l_size H.l_least) (voltage H.vgs_size.fin vgs_≤ voltage_top) (voltage H.vds_size.fin vds_≤ voltage_top) (voltage H.vth_size.fin vth_≤ voltage_top)
      (lambda_given H.lambda_sign H.lambda_size) H.slope_size beta_nonneg voltage_nonneg H.lambda_sign.sign

  node_≤ : absq (value i.node_vbs) ≤q nat 2 *q largest_voltage i +q nat 2 *q (1 // 2 ^ 1075)
  unfolding vbs_of
  node_≤ = ≤_trans (node_size_lem H.polarity H.node_vbs_size) (+_mono (*_mono (nat_nonneg 2) vbs_≤) (≤_refl (nat 2 *q (1 // 2 ^ 1075))))

  pub channel_returns : ChannelReturns i (stamp_of i)
  unfolding stamp_of stamp_from_of returned_current vbs_of channel_scale bound_from computing
  channel_returns =
      let E = evaluated_near in
      let at = evaluated_of i in
      let s₀ = current_nonneg beta_nonneg voltage_nonneg H.lambda_sign.sign in
      let g₀ = conductance_nonneg beta_nonneg voltage_nonneg H.lambda_sign.sign in
      let D : AtMost (at.gds ⊕ i.gmin) (pos 81) = at_most_⊕ E.gds_top H.gmin_size tt in
      let K = body_term (exact_beta i) (largest_voltage i) (value i.lambda) (value at.gm) (value at.gmbs) (value i.node_vbs) g₀ voltage_nonneg voltage_top E.gmbs_size (≤_trans E.gmbs_top.size (lit_≤ tt)) E.gm_size node_≤ in
      let P = H.polarity in
      record {
        gm_finite = E.gm_top.fin;
        gds_finite = D.fin;
        gmbs_finite = E.gmbs_top.fin;
        jeq_finite = (jeq_near P E.ids_top E.gm_top D E.gmbs_top H.vgs_size H.vds_size H.node_vbs_size).est.fin;
        close = within_mono (within_trans (norton_returns P E.ids_top E.gm_top D E.gmbs_top H.vgs_size H.vds_size H.node_vbs_size) E.ids_close)
            (errors_within (current_of i) (conductance_of i) (largest_voltage i) (value i.gmin) (body_ratio (value at.gm) (value at.gmbs)) (value at.ids) (value at.gm) (value i.vgs) (value (at.gds ⊕ i.gmin)) (value i.vds) (value at.gmbs) (value i.node_vbs)
            s₀ voltage_nonneg H.gmin_sign.sign (ratio_nonneg (value at.gm) (value at.gmbs)) voltage_top g_is
            E.ids_size E.gm_size vgs_≤ (with_gmin_size g₀ E.gds_top E.gds_size H.gmin_sign H.gmin_size) vds_≤ K _ _ _ (lit_≤ tt) (lit_≤ tt)
            (scale_covers (exact_beta i) (largest_voltage i) (value i.lambda) (body_ratio (value at.gm) (value at.gmbs)) (value i.gmin)));
      }
    where
      g_is : conductance_of i *q largest_voltage i ≤q current_of i
      g_is = leq (exact_beta i ∷ largest_voltage i ∷ value i.lambda ∷ []) (qv 0 ⊠ qv 1 ⊠ (## 1 ⊞ qv 2 ⊠ qv 1) ⊠ qv 1) (qv 0 ⊠ qv 1 ⊠ qv 1 ⊠ (## 1 ⊞ qv 2 ⊠ qv 1)) tt
