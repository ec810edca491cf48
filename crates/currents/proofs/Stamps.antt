-- The contributions by their places in a load's lists are the device's own values.
use mathlib.Core.Path.{◌≡◌, refl, ap, ◌∙◌}
use lib.Ieee.{Float}
use Rattle.exact.specs.Float64.{◌⊗◌, ◌⊘◌}
use Rattle.device.specs.declared.Mosfet1.{Mosfet1}
use Rattle.device.specs.declared.OperatingPoint.{OperatingPoint}
use Rattle.channel.specs.Channel.{shichman_hodges_of}
use Rattle.bias.specs.Bias.{evaluated_vth_of, evaluated_channel_of, answer_from_of, channel_answer_of, stamp_from_of, junction_stamp_of, operating_point_of}
use Rattle.bias.specs.declared.Kept.{Kept}
use Rattle.mosfet1.specs.Steps.{evaluated_answer_of, evaluated_point_of}
use Rattle.stamps.specs.Stamps.{jac_pairs_of, jac_values_of, residual_of}
use Rattle.assembly.specs.Assembly.{paired, matrix_contributions, offset_sources, source_contributions}
use Rattle.loading.specs.Loading.{jacobian_contributions, rhs_contributions}
use Rattle.loading.specs.declared.LoadKind.{LoadKind}
use Rattle.call_lists.specs.LastEvaluation.{EvaluationMade, voltages_at, answer_at, point_at, keeping}
use Rattle.channel_current.specs.ChannelCurrent as channel
use Rattle.junction_current.specs.JunctionCurrent as junction
use Rattle.currents.specs.Loaded.{cell_at, source_at, JunctionStamp, loaded_channel, loaded_source_junction, loaded_drain_junction}
use Rattle.currents.specs.Branches.{voltage_of}
use Rattle.currents.specs.Currents.{channel_at, polarity_at, temperature_at, source_voltage, drain_voltage, source_saturation, drain_saturation}

-- ---- a device's
unfoldable channel_stamp : OperatingPoint → channel.ChannelStamp
channel_stamp p = record { gm = p.gm; gds = p.gds; gmbs = p.gmbs; jeq = p.jeq }

unfoldable source_stamp : OperatingPoint → JunctionStamp
source_stamp p = record { conductance = p.gbs; offset = p.ibs_eq }

unfoldable drain_stamp : OperatingPoint → JunctionStamp
drain_stamp p = record { conductance = p.gbd; offset = p.ibd_eq }

channel_loaded : (d : Mosfet1) (k : LoadKind) → loaded_channel d k ≡ channel_stamp d.point
unfolding loaded_channel cell_at source_at jacobian_contributions rhs_contributions matrix_contributions source_contributions offset_sources paired jac_pairs_of jac_values_of residual_of channel_stamp
channel_loaded d k = refl

source_loaded : (d : Mosfet1) (k : LoadKind) → loaded_source_junction d k ≡ source_stamp d.point
unfolding loaded_source_junction cell_at source_at jacobian_contributions rhs_contributions matrix_contributions source_contributions offset_sources paired jac_pairs_of jac_values_of residual_of source_stamp
source_loaded d k = refl

drain_loaded : (d : Mosfet1) (k : LoadKind) → loaded_drain_junction d k ≡ drain_stamp d.point
unfolding loaded_drain_junction cell_at source_at jacobian_contributions rhs_contributions matrix_contributions source_contributions offset_sources paired jac_pairs_of jac_values_of residual_of drain_stamp
drain_loaded d k = refl

-- ---- an evaluation's
-- with the ratio W/L as a value of its own
unfoldable stamp_with : Float → channel.ChannelInputs → channel.ChannelStamp
stamp_with ratio i = channel.stamp_from_of i (shichman_hodges_of (i.kp ⊗ ratio) i.vgs i.vds i.vth i.lambda i.slope)

stamp_of_ratio : (i : channel.ChannelInputs) (ratio : Float) → ratio ≡ i.w ⊘ i.l → stamp_with ratio i ≡ channel.stamp_of i
unfolding stamp_with channel.stamp_of channel.evaluated_of
stamp_of_ratio i ratio e = ap (λ (r : Float). stamp_with r i) e

evaluated_channel : (e : EvaluationMade) (kept : Kept) → channel_stamp (keeping (point_at e) kept) ≡ stamp_with e.device.geometry.w_over_l (channel_at e)
unfolding channel_stamp stamp_with channel_at keeping point_at answer_at voltages_at evaluated_point_of evaluated_answer_of operating_point_of channel_answer_of answer_from_of evaluated_channel_of evaluated_vth_of channel.stamp_from_of
evaluated_channel e kept = refl

pub channel_is_loaded : (d : Mosfet1) (k : LoadKind) (e : EvaluationMade) (kept : Kept) → d.point ≡ keeping (point_at e) kept → e.device.geometry.w_over_l ≡ e.device.geometry.w ⊘ e.device.geometry.l → loaded_channel d k ≡ channel.stamp_of (channel_at e)
unfolding channel_at
channel_is_loaded d k e kept p r = channel_loaded d k ∙ ap channel_stamp p ∙ evaluated_channel e kept ∙ stamp_of_ratio (channel_at e) _ r

unfoldable pub evaluated_source : EvaluationMade → JunctionStamp
evaluated_source e = record {
  conductance = (junction.junction_at (source_saturation e) (polarity_at e) (source_voltage e) (temperature_at e) e.conditions.gmin).g;
  offset = junction.offset_at (source_saturation e) (polarity_at e) (source_voltage e) (temperature_at e) e.conditions.gmin;
}

unfoldable pub evaluated_drain : EvaluationMade → JunctionStamp
evaluated_drain e = record {
  conductance = (junction.junction_at (drain_saturation e) (polarity_at e) (drain_voltage e) (temperature_at e) e.conditions.gmin).g;
  offset = junction.offset_at (drain_saturation e) (polarity_at e) (drain_voltage e) (temperature_at e) e.conditions.gmin;
}

evaluated_source_lem : (e : EvaluationMade) (kept : Kept) → source_stamp (keeping (point_at e) kept) ≡ evaluated_source e
unfolding source_stamp evaluated_source keeping point_at answer_at voltages_at evaluated_point_of operating_point_of junction_stamp_of stamp_from_of polarity_at temperature_at source_voltage source_saturation voltage_of
evaluated_source_lem e kept = refl

evaluated_drain_lem : (e : EvaluationMade) (kept : Kept) → drain_stamp (keeping (point_at e) kept) ≡ evaluated_drain e
unfolding drain_stamp evaluated_drain keeping point_at answer_at voltages_at evaluated_point_of operating_point_of junction_stamp_of stamp_from_of polarity_at temperature_at drain_voltage drain_saturation voltage_of
evaluated_drain_lem e kept = refl

pub source_is_loaded : (d : Mosfet1) (k : LoadKind) (e : EvaluationMade) (kept : Kept) → d.point ≡ keeping (point_at e) kept → loaded_source_junction d k ≡ evaluated_source e
source_is_loaded d k e kept p = source_loaded d k ∙ ap source_stamp p ∙ evaluated_source_lem e kept

pub drain_is_loaded : (d : Mosfet1) (k : LoadKind) (e : EvaluationMade) (kept : Kept) → d.point ≡ keeping (point_at e) kept → loaded_drain_junction d k ≡ evaluated_drain e
drain_is_loaded d k e kept p = drain_loaded d k ∙ ap drain_stamp p ∙ evaluated_drain_lem e kept
