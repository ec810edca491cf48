-- At an accepted evaluation on a device within the bounds: the premises of the channel's and the junctions' claims.
use lib.IntN.{pos}
use lib.Ieee.{Float}
use Rattle.exact.specs.Float64.{◌⊗◌}
use Rattle.exact.specs.Size.{AtMost, NonNegative}
use Rattle.exact.proofs.Computing.{computing}
use Rattle.exact.proofs.FractionLaws.{lit_≤}
use Rattle.exact.proofs.Ranges.{range_at_most}
use Rattle.parameter_sizes.specs.ParameterSizes.{FromZero}
use Rattle.parameter_sizes.proofs.SizeLaws.{from_zero_⊗, from_zero_weaken, between_from_zero}
use Rattle.evaluation_sizes.specs.Arguments.{VoltagesSizes, EvaluationAccepted}
use Rattle.evaluation_sizes.specs.EvaluationSizes.{AnswerSizes}
use Rattle.evaluation_sizes.proofs.Evaluated.{difference_range, evaluated_slope_at_most, answer_sizes}
use Rattle.evaluation_sizes.proofs.Limiter.{difference_at_most}
use Rattle.call_lists.specs.LastEvaluation.{EvaluationMade, voltages_at, answer_at}
use Rattle.reachable.specs.DeviceBounds.{DeviceBounds}
use Rattle.reachable.proofs.Reachable.{bounds_of}
use Rattle.channel_current.specs.ChannelCurrent.{ChannelSizes}
use Rattle.junction_current.specs.JunctionCurrent.{JunctionSizes}
use Rattle.currents.specs.Branches.{voltage_of}
use Rattle.currents.specs.Currents.{channel_at, polarity_at, temperature_at, source_voltage, drain_voltage, source_saturation, drain_saturation}

module _ (e : EvaluationMade) (B : DeviceBounds e.device) (A : EvaluationAccepted e.device e.x e.conditions) where
  voltages : VoltagesSizes (voltages_at e)
  unfolding voltages_at
  voltages = A.voltages

  answer : AnswerSizes (answer_at e)
  unfolding answer_at voltages_at
  answer = answer_sizes (bounds_of B.parameters) B.state A.voltages e.conditions.gmin e.conditions.limiter

  gmin_sign : NonNegative e.conditions.gmin
  gmin_sign = record { fin = A.gmin.fin; sign = A.gmin.above }

  gmin_size : AtMost e.conditions.gmin (pos 0)
  unfolding computing
  gmin_size = range_at_most A.gmin (pos 0) (lit_≤ tt) (lit_≤ tt)

  pub channel_sizes : ChannelSizes (channel_at e)
  unfolding channel_at voltages_at
  channel_sizes =
      let D = B.parameters in
      record {
        polarity = D.card.polarity;
        kp_sign = D.scaled.kp_t.sign;
        kp_size = D.scaled.kp_t.at_most;
        w_sign = (between_from_zero D.geometry.w).sign;
        w_size = D.geometry.w.at_most;
        l_sign = D.geometry.l.sign;
        l_size = D.geometry.l.at_most;
        l_least = D.geometry.l.at_least;
        lambda_sign = D.card.lambda.sign;
        lambda_size = D.card.lambda.at_most;
        vth_size = answer.vth;
        slope_size = evaluated_slope_at_most (bounds_of D) A.voltages;
        vgs_size = answer.vgs;
        vds_size = answer.vds;
        node_vbs_size = difference_at_most (difference_range A.voltages.vb A.voltages.vs);
        gmin_sign = gmin_sign;
        gmin_size = gmin_size;
      }

  -- a saturation current times its temperature factor
  saturation : {isat : Float} → FromZero isat (pos 20) → FromZero (isat ⊗ e.device.scaled.isat_t_factor) (pos 89)
  unfolding computing
  saturation I = from_zero_weaken (from_zero_⊗ I (between_from_zero B.parameters.scaled.isat_t_factor) tt) (pos 89) tt

  junction_sizes : {isat v : Float} → FromZero isat (pos 20) → AtMost v (pos 11) → JunctionSizes (isat ⊗ e.device.scaled.isat_t_factor) (polarity_at e) v (temperature_at e) e.conditions.gmin
  unfolding polarity_at temperature_at
  junction_sizes I W = record {
    isat_sign = (saturation I).sign;
    isat_size = (saturation I).at_most;
    polarity = B.parameters.card.polarity;
    v0_size = W;
    t_range = A.temperature;
    gmin_range = A.gmin;
  }

  pub source_sizes : JunctionSizes (source_saturation e) (polarity_at e) (source_voltage e) (temperature_at e) e.conditions.gmin
  unfolding source_saturation source_voltage voltage_of voltages_at
  source_sizes = junction_sizes B.parameters.geometry.isat_bs (difference_at_most (difference_range A.voltages.vb A.voltages.vs))

  pub drain_sizes : JunctionSizes (drain_saturation e) (polarity_at e) (drain_voltage e) (temperature_at e) e.conditions.gmin
  unfolding drain_saturation drain_voltage voltage_of voltages_at
  drain_sizes = junction_sizes B.parameters.geometry.isat_bd (difference_at_most (difference_range A.voltages.vb A.voltages.vd))
