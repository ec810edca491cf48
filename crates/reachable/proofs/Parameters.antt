-- From the bounds of the parameters to those that the sizes of an evaluation rest on.
use lib.IntN.{pos}
use Rattle.exact.proofs.AbsoluteValue.{le_of_abs, neg_le_of_abs}
use Rattle.exact.proofs.Computing.{computing}
use Rattle.exact.proofs.FractionLaws.{lit_≤}
use Rattle.exact.proofs.Ranges.{range_weaken}
use Rattle.exact.proofs.Sizes.{at_most_weaken}
use Rattle.device.specs.declared.Card.{Card}
use Rattle.device.specs.declared.Geometry.{Geometry}
use Rattle.device.specs.declared.Scaled.{Scaled}
use Rattle.charges.specs.Charges.{grading_of}
use Rattle.depletion_sizes.specs.DepletionSizes.{GradingSizes}
use Rattle.parameter_sizes.specs.ParameterSizes.{CardSizes, GeometrySizes, ScaledSizes, FromZero}
use Rattle.evaluation_sizes.specs.EvaluationSizes.{ParameterBounds, GateCapacitance}
use Rattle.evaluation_sizes.proofs.Bounds.{non_negative_range, polarity_range}
use lib.Ieee.{Float}

gate : {c : Float} → FromZero c (pos 0) → GateCapacitance c
unfolding computing
gate C = range_weaken (non_negative_range C.sign C.at_most) (lit_≤ tt) (lit_≤ tt)

pub grading_sizes : {card : Card} {scaled : Scaled} → CardSizes card → ScaledSizes scaled → GradingSizes (grading_of card scaled)
unfolding computing grading_of
grading_sizes C S = record {
  fc = range_weaken C.fc.range (lit_≤ tt) (lit_≤ tt);
  pb_t = range_weaken S.pb_t.range (lit_≤ tt) (lit_≤ tt);
  mj = range_weaken C.mj.range (lit_≤ tt) (lit_≤ tt);
  mj_fits = C.mj.f64;
  mjsw = range_weaken C.mjsw.range (lit_≤ tt) (lit_≤ tt);
  mjsw_fits = C.mjsw.f64;
  cj_t_factor = S.cj_t_factor.at_most;
  cjsw_t_factor = S.cjsw_t_factor.at_most;
}

pub parameter_bounds : {card : Card} {geometry : Geometry} {scaled : Scaled} → CardSizes card → GeometrySizes geometry → ScaledSizes scaled → ParameterBounds card geometry scaled
unfolding computing
parameter_bounds C G S = record {
  polarity = polarity_range C.polarity;
  gamma = range_weaken C.gamma.range (lit_≤ tt) (lit_≤ tt);
  grading = grading_sizes C S;
  vto_t = range_weaken (record { fin = S.vto_t.at_most.fin; above = neg_le_of_abs S.vto_t.at_most.size; below = le_of_abs S.vto_t.at_most.size }) (lit_≤ tt) (lit_≤ tt);
  phi_t = range_weaken S.phi_t.range (lit_≤ tt) (lit_≤ tt);
  phi_fits = S.phi_t.f64;
  cgs_ov = gate G.cgs_ov;
  cgd_ov = gate G.cgd_ov;
  cgb_ov = gate G.cgb_ov;
  cox_wl = gate G.cox_wl;
  cbs_bot = at_most_weaken G.cbs_bot.at_most (pos 10) tt;
  cbs_sw = G.cbs_sw.at_most;
  cbd_bot = at_most_weaken G.cbd_bot.at_most (pos 10) tt;
  cbd_sw = G.cbd_sw.at_most;
}
