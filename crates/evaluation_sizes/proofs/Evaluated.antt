-- What an evaluation leaves is in its bounds, if the parameters are in theirs, the node voltages are those that row 9 lets pass, and what the device held
-- was in its bounds.
use Prim.Native.Nat.{◌^◌}
use mathlib.Core.Path.{◌≡◌, sym, subst}
use mathlib.Core.Bool.{Bool, true, false}
use mathlib.Core.List.{List}
use lib.IntN.{pos}
use lib.Ieee.{Float}
use Rattle.exact.specs.Fraction.{◌//◌, nat, negq}
use Rattle.exact.specs.Float64.{◌⊖◌, ◌⊗◌, +0, maximum}
use Rattle.exact.specs.Size.{Range, AtMost, Positive}
use Rattle.exact.proofs.Computing.{computing}
use Rattle.exact.proofs.FractionLaws.{lit_≤}
use Rattle.exact.proofs.Ranges.{range_⊖, range_⊗}
use Rattle.exact.proofs.Representable.{representable}
use Rattle.device.specs.declared.Card.{Card}
use Rattle.device.specs.declared.Charges as device
use Rattle.device.specs.declared.Geometry.{Geometry}
use Rattle.device.specs.declared.Mosfet1.{Mosfet1}
use Rattle.device.specs.declared.Scaled.{Scaled}
use Rattle.channel.specs.Channel.{region_of}
use Rattle.threshold.specs.Threshold.{body_slope_of}
use Rattle.bias.specs.Bias.{kept_of, evaluated_body_of, evaluated_vth_of, answer_from_of, channel_answer_of, operating_point_of}
use Rattle.charges.specs.Charges.{grading_of, gate_shares_of, charges_of}
use Rattle.mosfet1.specs.Steps.{evaluated_answer_of, evaluated_point_of, evaluated_charges_of, evaluated_from_of, evaluated_of}
use Rattle.bias.specs.declared.Answer.{Answer}
use Rattle.bias.specs.declared.Voltages.{Voltages}
use Rattle.mosfet1.specs.declared.steps.Conditions.{Conditions}
use Rattle.mosfet1.specs.declared.steps.Evaluated.{Evaluated}
use Rattle.model.specs.Calls.{eval_of}
use Rattle.device.specs.Refusals.{done}
use Rattle.depletion_sizes.specs.DepletionSizes.{NodeDifference}
use Rattle.depletion_sizes.proofs.Depletion.{cj_depl_at_most, q_depl_at_most}
use Rattle.evaluation_sizes.specs.Arguments.{NodeVoltage, VoltagesSizes, MethodSizes}
use Rattle.evaluation_sizes.specs.EvaluationSizes.{ParameterBounds, ChargesSizes, KeptSizes, StateSizes, AnswerSizes}
use Rattle.evaluation_sizes.proofs.Accepted.{eval_accepted}
use Rattle.evaluation_sizes.proofs.Threshold.{body_potential_range, body_potential_positive, body_potential_fits, threshold_at_most, body_slope_at_most}
use Rattle.evaluation_sizes.proofs.Limiter.{difference_at_most, limited_vgs_at_most, limited_vds_at_most}
use Rattle.evaluation_sizes.proofs.Gate.{meyer_sizes, gate_capacitance_range, gate_charge_at_most}

-- ---- voltages between two nodes
pub difference_range : {a b : Float} → NodeVoltage a → NodeVoltage b → NodeDifference (a ⊖ b)
unfolding computing
difference_range A B = range_⊖ A B (representable tt) (representable tt) (lit_≤ tt) (lit_≤ tt)

-- flipped by a polarity
pub flipped_range : {pol v : Float} → Range pol (negq (nat 1)) (nat 1) → NodeDifference v → NodeDifference (pol ⊗ v)
unfolding computing
flipped_range P D = range_⊗ P D (representable tt) (representable tt) (lit_≤ tt) (lit_≤ tt) (lit_≤ tt) (lit_≤ tt) (lit_≤ tt) (lit_≤ tt) (lit_≤ tt) (lit_≤ tt)

-- ---- the kept voltages
module _ {pol : Float} (P : Range pol (negq (nat 1)) (nat 1)) {v : Voltages} (W : VoltagesSizes v) where
  pub flipped_vgs : NodeDifference (pol ⊗ (v.vg ⊖ v.vs))
  flipped_vgs = flipped_range P (difference_range W.vg W.vs)

  pub flipped_vds : NodeDifference (pol ⊗ (v.vd ⊖ v.vs))
  flipped_vds = flipped_range P (difference_range W.vd W.vs)

  pub flipped_vbs : NodeDifference (pol ⊗ (v.vb ⊖ v.vs))
  flipped_vbs = flipped_range P (difference_range W.vb W.vs)

  -- limited or not: no growth however often it is repeated
  pub kept_sizes : (vto : Float) (limiter : Bool) {vgs1 vds1 : Float} → AtMost vgs1 (pos 11) → AtMost vds1 (pos 11) → KeptSizes (kept_of pol vto v limiter vgs1 vds1)
  unfolding kept_of
  kept_sizes vto true G D = record { vgs = limited_vgs_at_most flipped_vgs G vto; vds = limited_vds_at_most flipped_vds D }
  kept_sizes vto false G D = record { vgs = difference_at_most flipped_vgs; vds = difference_at_most flipped_vds }

-- ---- the threshold
module _ {card : Card} {geometry : Geometry} {scaled : Scaled} (B : ParameterBounds card geometry scaled) {v : Voltages} (W : VoltagesSizes v) where
  pub evaluated_body_range : Range (evaluated_body_of card scaled v) (1 // 10 ^ 10) (nat 4096)
  unfolding evaluated_body_of
  evaluated_body_range = body_potential_range B.phi_t (flipped_vbs B.polarity W)

  pub evaluated_body_positive : Positive (evaluated_body_of card scaled v)
  unfolding evaluated_body_of
  evaluated_body_positive = body_potential_positive B.phi_t (flipped_vbs B.polarity W)

  pub evaluated_vth_at_most : AtMost (evaluated_vth_of card scaled v) (pos 14)
  unfolding evaluated_vth_of evaluated_body_of computing
  evaluated_vth_at_most =
      let vto = range_⊗ {lo = negq (nat 1024)} {hi = nat 1024} B.polarity B.vto_t (representable tt) (representable tt) (lit_≤ tt) (lit_≤ tt) (lit_≤ tt) (lit_≤ tt) (lit_≤ tt) (lit_≤ tt) (lit_≤ tt) (lit_≤ tt) in
      threshold_at_most B.gamma evaluated_body_range (body_potential_fits B.phi_t (flipped_vbs B.polarity W)) vto B.phi_t B.phi_fits

  pub evaluated_slope_at_most : AtMost (body_slope_of card.gamma (evaluated_body_of card scaled v)) (pos 24)
  unfolding evaluated_body_of
  evaluated_slope_at_most = body_slope_at_most B.gamma evaluated_body_range (body_potential_fits B.phi_t (flipped_vbs B.polarity W))

  -- ---- capacitances and charges, wherever the channel is
  pub charges_sizes : (vgs vds vth : Float) → ChargesSizes (charges_of geometry (gate_shares_of vgs vds vth geometry.cox_wl) (grading_of card scaled) v)
  unfolding charges_of gate_shares_of
  charges_sizes vgs vds vth =
      let s = meyer_sizes (region_of vgs vth vds (maximum (vgs ⊖ vth) +0)) B.cox_wl in
      let cgs = gate_capacitance_range B.cgs_ov s.gs in
      let cgd = gate_capacitance_range B.cgd_ov s.gd in
      let cgb = gate_capacitance_range B.cgb_ov s.gb in
      let vbs = difference_range W.vb W.vs in
      let vbd = difference_range W.vb W.vd in
      record {
        cgs = cgs;
        cgd = cgd;
        cgb = cgb;
        q_gs = gate_charge_at_most cgs (difference_range W.vg W.vs);
        q_gd = gate_charge_at_most cgd (difference_range W.vg W.vd);
        q_gb = gate_charge_at_most cgb (difference_range W.vg W.vb);
        vbs = difference_at_most vbs;
        vbd = difference_at_most vbd;
        cbs = cj_depl_at_most B.grading B.cbs_bot B.cbs_sw vbs;
        cbd = cj_depl_at_most B.grading B.cbd_bot B.cbd_sw vbd;
        q_bs = q_depl_at_most B.grading B.cbs_bot B.cbs_sw vbs;
        q_bd = q_depl_at_most B.grading B.cbd_bot B.cbd_sw vbd;
      }

-- ---- the device
module _ {d : Mosfet1} (B : ParameterBounds d.card d.geometry d.scaled) (D : StateSizes d) {v : Voltages} (W : VoltagesSizes v) where
  pub answer_sizes : (gmin : Float) (limiter : Bool) → AnswerSizes (evaluated_answer_of d v gmin limiter)
  unfolding evaluated_answer_of channel_answer_of answer_from_of
  answer_sizes gmin limiter =
      let kept = kept_sizes B.polarity W (d.card.polarity ⊗ d.scaled.vto_t) limiter D.point.vgs D.point.vds in
      record { vgs = kept.vgs; vds = kept.vds; vth = evaluated_vth_at_most B W }

  pub evaluated_charges_sizes : (transient : Bool) (a : Answer) → ChargesSizes (evaluated_charges_of d v transient a)
  unfolding evaluated_charges_of
  evaluated_charges_sizes true a = charges_sizes B W a.vgs a.vds a.vth
  evaluated_charges_sizes false a = D.charges

  pub evaluated_sizes : (transient : Bool) (k : Conditions) → MethodSizes k.method → StateSizes (evaluated_of d v transient k).device
  unfolding evaluated_of evaluated_from_of evaluated_point_of operating_point_of
  evaluated_sizes transient k M =
      let a = answer_sizes k.gmin k.limiter in
      record {
        point = record { vgs = a.vgs; vds = a.vds };
        charges = evaluated_charges_sizes transient (evaluated_answer_of d v k.gmin k.limiter);
        histories = D.histories;
        method = M;
      }

-- an accepted evaluation
pub eval_sizes : {d : Mosfet1} → ParameterBounds d.card d.geometry d.scaled → StateSizes d → (x : List Float) (transient : Bool) (k : Conditions) {e : Evaluated} → eval_of d x transient k ≡ done e → StateSizes e.device × AnswerSizes e.answer
unfolding evaluated_of evaluated_from_of
eval_sizes {d} B D x transient k {e} h =
    let both = eval_accepted d x transient k e h in
    let W = both.1.voltages in
    subst (λ (z : Evaluated). StateSizes z.device × AnswerSizes z.answer) (sym both.0)
    (evaluated_sizes B D W transient k both.1.method, answer_sizes B D W k.gmin k.limiter)
