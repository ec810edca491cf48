-- One name for every definition that the example's calls compute through.
use mathlib.Core.Bool.{Bool, true}
use lib.Ieee.{round, neg, add, sub, mul, div, lt, le, eq, ne, of_int, to_unsigned, of_bits, to_bits}
use lib.Count.{count_leading_zeros}
use Rattle.exact.specs.Float64.{absolute, signum, maximum}
use Rattle.elementary.proofs.Computing.{functions}
use Rattle.temperature.specs.Temperature.{bandgap_ev_of, vt_of, is_exponent_of, mos_junction_is_factor_of, pbfact_arg_of, pbfact_of, mobility_factor_of, phio_of, scaled_phi_of, cap_term_of, junction_cap_factor_of, body_term_of, scaled_vto_of}
use Rattle.threshold.specs.Limiter.{cut_step_of, limited_vgs_of, limited_vds_of}
use Rattle.threshold.specs.Threshold.{body_potential_of, threshold_of, body_slope_of}
use Rattle.channel.specs.Channel.{region_of, modulation_of, triode_charge_of, body_transconductance_of, triode_of, saturation_of, cutoff_of, in_region_of, shichman_hodges_of, norton_current_of}
use Rattle.junction.specs.Junction.{thermal_voltage_of, shockley_of, bulk_junction_of, junction_offset_of}
use Rattle.bias.specs.Bias.{kept_of, evaluated_body_of, evaluated_vth_of, evaluated_channel_of, answer_from_of, channel_answer_of, stamp_from_of, junction_stamp_of, operating_point_of}
use Rattle.capacitance.specs.Meyer.{meyer_of}
use Rattle.capacitance.specs.Depletion.{cj_below_of, cj_above_of, cj_depl_mOf, q_below_of, q_above_of, q_depl_mOf, cj_depl_of, q_depl_of}
use Rattle.charges.specs.Charges.{grading_of, gate_shares_of, charges_of}
use Rattle.reactive.specs.Charge.{euler_of, trapezoid_of, gear_at_of, gear_of, gear_or_euler_of, charge_current_of, has_step_of, recorded_of, advance_of}
use Rattle.mosfet1.specs.Steps.{evaluated_answer_of, evaluated_point_of, evaluated_charges_of, evaluated_from_of, evaluated_of, committed_histories_of, committed_point_of, committed_of}
use Rattle.device.specs.Nodes.{any_node_beyond}
use Rattle.device.specs.Stages.{unbound, unevaluated}
use Rattle.rows.specs.Rows.{node_voltage_of, voltages_of, outside_of, row6_of, row9_of, bad_step_of, row11_of, nodes_outside, voltages_outside, eval_row_of, commit_row_of}
use Rattle.model.specs.Calls.{eval_of, commit_of}
use Rattle.keys.specs.Names.{card_names, geometry_names, names_of, lower_of, spells, named, meaning_of}
use Rattle.key_pairs.specs.Pairs.{pairs_astray, bad_pairs}
use Rattle.entries.specs.Entries.{entries_of, beyond_ascii, any_beyond_ascii, unknown_from, unknown_count, any_outside, any_tnom_outside}

-- floats
unfoldable pub floats : Bool
unfolding round neg add sub mul div lt le eq ne of_int to_unsigned of_bits to_bits count_leading_zeros absolute signum maximum functions
floats = true

-- keys
unfoldable pub keys : Bool
unfolding card_names geometry_names names_of lower_of spells named meaning_of entries_of pairs_astray bad_pairs beyond_ascii any_beyond_ascii unknown_from unknown_count any_outside any_tnom_outside
keys = true

-- the parameters at a temperature
unfoldable pub temperatures : Bool
unfolding bandgap_ev_of vt_of is_exponent_of mos_junction_is_factor_of pbfact_arg_of pbfact_of mobility_factor_of phio_of scaled_phi_of cap_term_of junction_cap_factor_of body_term_of scaled_vto_of
temperatures = true

-- the channel, the junctions and the charges
unfoldable pub model : Bool
unfolding cut_step_of limited_vgs_of limited_vds_of body_potential_of threshold_of body_slope_of region_of modulation_of triode_charge_of body_transconductance_of triode_of saturation_of cutoff_of in_region_of shichman_hodges_of norton_current_of thermal_voltage_of shockley_of bulk_junction_of junction_offset_of kept_of evaluated_body_of evaluated_vth_of evaluated_channel_of answer_from_of channel_answer_of stamp_from_of junction_stamp_of operating_point_of meyer_of cj_below_of cj_above_of cj_depl_mOf q_below_of q_above_of q_depl_mOf cj_depl_of q_depl_of grading_of gate_shares_of charges_of euler_of trapezoid_of gear_at_of gear_of gear_or_euler_of charge_current_of has_step_of recorded_of advance_of evaluated_answer_of evaluated_point_of evaluated_charges_of evaluated_from_of evaluated_of committed_histories_of committed_point_of committed_of
model = true

-- the rows of refusals at an evaluation and a commit
unfoldable pub rows : Bool
unfolding any_node_beyond unbound unevaluated node_voltage_of voltages_of outside_of row6_of row9_of bad_step_of row11_of nodes_outside voltages_outside eval_row_of commit_row_of eval_of commit_of
rows = true
