-- The device after an accepted evaluation and after an accepted commit.
use Rattle.std.specs.Prelude.{Bool, cond, Float}
use Rattle.exact.specs.Float64.{◌⊖◌, ◌⊗◌}
use Rattle.temperature.specs.declared.Kelvin.{Kelvin}
use Rattle.device.specs.declared.Charges as device
use Rattle.device.specs.declared.Discretisation.{Discretisation}
use Rattle.device.specs.declared.Geometry.{Geometry}
use Rattle.device.specs.declared.Histories.{Histories}
use Rattle.device.specs.declared.Mosfet1.{Mosfet1}
use Rattle.device.specs.declared.OperatingPoint.{OperatingPoint}
use Rattle.device.specs.declared.Stage.TheVariants as Stage
use Rattle.reactive.specs.Charge.{advance_of}
use Rattle.capacitance.specs.Depletion.{q_depl_of}
use Rattle.junction.specs.Junction.{thermal_voltage_of}
use Rattle.capacitance.specs.declared.Grading.{Grading}
use Rattle.bias.specs.Bias.{kept_of, channel_answer_of, junction_stamp_of, operating_point_of}
use Rattle.charges.specs.Charges.{grading_of, gate_shares_of, charges_of}
use Rattle.bias.specs.declared.Voltages.{Voltages}
use Rattle.bias.specs.declared.Answer.{Answer}
use Rattle.mosfet1.specs.declared.steps.Conditions.{Conditions}
use Rattle.mosfet1.specs.declared.steps.Evaluated.{Evaluated}

-- the limiter's predecessors are the voltages kept last
unfoldable pub evaluated_answer_of : Mosfet1 → Voltages → Float → Bool → Answer
evaluated_answer_of d v gmin limiter =
    channel_answer_of d.card d.geometry d.scaled v
    (kept_of d.card.polarity (d.card.polarity ⊗ d.scaled.vto_t) v limiter d.point.vgs_eff_prev d.point.vds_eff_prev) gmin

-- the junctions' saturation currents with their temperature factor, at the thermal voltage vt
abbrev pub point_at : Mosfet1 → Voltages → Float → Float → Answer → OperatingPoint
point_at d v vt gmin a =
    operating_point_of d.card.polarity a (v.vb ⊖ v.vs)
    (junction_stamp_of (d.geometry.isat_bs ⊗ d.scaled.isat_t_factor) d.card.polarity (v.vb ⊖ v.vs) vt gmin)
    (junction_stamp_of (d.geometry.isat_bd ⊗ d.scaled.isat_t_factor) d.card.polarity (v.vb ⊖ v.vd) vt gmin)

-- the thermal voltage is that of the evaluation's own temperature
unfoldable pub evaluated_point_of : Mosfet1 → Voltages → Kelvin → Float → Answer → OperatingPoint
evaluated_point_of d v t gmin a = point_at d v (thermal_voltage_of t) gmin a

-- without the transient flag the last transient evaluation's values stay
unfoldable pub evaluated_charges_of : Mosfet1 → Voltages → Bool → Answer → device.Charges
evaluated_charges_of d v transient a =
    cond transient (charges_of d.geometry (gate_shares_of a.vgs a.vds a.vth d.geometry.cox_wl) (grading_of d.card d.scaled) v) d.charges

-- the method is stored with the transient flag or without
unfoldable pub evaluated_from_of : Mosfet1 → Voltages → Bool → Conditions → Answer → Evaluated
evaluated_from_of d v transient k a = record {
  device = record {
    card = d.card;
    geometry = d.geometry;
    scaled = d.scaled;
    terminals = d.terminals;
    point = evaluated_point_of d v k.temperature k.gmin a;
    charges = evaluated_charges_of d v transient a;
    histories = d.histories;
    disc = k.method;
    stage = Stage.Evaluated;
  };
  answer = a;
}

unfoldable pub evaluated_of : Mosfet1 → Voltages → Bool → Conditions → Evaluated
evaluated_of d v transient k = evaluated_from_of d v transient k (evaluated_answer_of d v k.gmin k.limiter)

-- A commit's charges: at the gate the last transient evaluation's capacitance times the voltage, at the junctions the charge law with the
-- scaling now in force
unfoldable pub committed_histories_of : Histories → Discretisation → device.Charges → Geometry → Grading → Voltages → Histories
committed_histories_of h disc c geometry grading v = record {
  gs_hist = advance_of disc (c.cgs_eval ⊗ (v.vg ⊖ v.vs)) h.gs_hist;
  gd_hist = advance_of disc (c.cgd_eval ⊗ (v.vg ⊖ v.vd)) h.gd_hist;
  gb_hist = advance_of disc (c.cgb_eval ⊗ (v.vg ⊖ v.vb)) h.gb_hist;
  bs_hist = advance_of disc (q_depl_of grading geometry.cbs_bot geometry.cbs_sw (v.vb ⊖ v.vs)) h.bs_hist;
  bd_hist = advance_of disc (q_depl_of grading geometry.cbd_bot geometry.cbd_sw (v.vb ⊖ v.vd)) h.bd_hist;
}

-- the limiter's predecessors become the committed voltages, flipped and not limited
unfoldable pub committed_point_of : OperatingPoint → Float → Voltages → OperatingPoint
committed_point_of p pol v = record {
  ids_eval = p.ids_eval;
  gbs = p.gbs;
  gbd = p.gbd;
  ibs_eq = p.ibs_eq;
  ibd_eq = p.ibd_eq;
  gm = p.gm;
  gds = p.gds;
  gmbs = p.gmbs;
  jeq = p.jeq;
  vgs_eff_prev = pol ⊗ (v.vg ⊖ v.vs);
  vds_eff_prev = pol ⊗ (v.vd ⊖ v.vs);
}

unfoldable pub committed_of : Mosfet1 → Voltages → Mosfet1
committed_of d v = record {
  card = d.card;
  geometry = d.geometry;
  scaled = d.scaled;
  terminals = d.terminals;
  point = committed_point_of d.point d.card.polarity v;
  charges = d.charges;
  histories = committed_histories_of d.histories d.disc d.charges d.geometry (grading_of d.card d.scaled) v;
  disc = d.disc;
  stage = d.stage;
}
