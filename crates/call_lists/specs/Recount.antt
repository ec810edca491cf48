-- The recount: each charge branch's past, counted from the calls of a list. It reads the method, the capacitances, the geometry and the
-- parameters that the calls put in force, and never the histories that the device itself holds.
use Rattle.std.specs.Prelude.{cond, List, [], ◌∷◌, Float, Some, None}
use Rattle.exact.specs.Float64.{◌⊖◌, ◌⊗◌, +0}
use Rattle.device.specs.declared.Card.{Card}
use Rattle.device.specs.declared.ChargeHistory.{ChargeHistory}
use Rattle.device.specs.declared.Charges.{Charges}
use Rattle.device.specs.declared.Discretisation.{Discretisation}
use Rattle.device.specs.declared.Discretisation.TheVariants as Discretisation
use Rattle.device.specs.declared.Discretisation.TheVariants.{Euler, Trapezoid, Gear}
use Rattle.device.specs.declared.Geometry.{Geometry}
use Rattle.device.specs.declared.Histories.{Histories}
use Rattle.device.specs.declared.Mosfet1.{Mosfet1}
use Rattle.device.specs.declared.Scaled.{Scaled}
use Rattle.reactive.specs.Charge.{charge_current_of}
use Rattle.capacitance.specs.Depletion.{q_depl_of}
use Rattle.charges.specs.Charges.{grading_of}
use Rattle.bias.specs.declared.Voltages.{Voltages}
use Rattle.rows.specs.Rows.{voltages_of}
use Rattle.call_lists.specs.Calls.{Call, geometry, scaling, binding, evaluation, loading, commit, noise, reactances, accepted, after}

-- "at first 0, none, 0": the last charge, the one before, the last current
unfoldable pub nothing_held : ChargeHistory
nothing_held = record { q_prev = +0; q_prev2 = None; i_prev = +0 }

unfoldable pub at_first : Histories
at_first = record { gs_hist = nothing_held; gd_hist = nothing_held; gb_hist = nothing_held; bs_hist = nothing_held; bd_hist = nothing_held }

-- "the rounded `charge_current` of it and the three held"; without a step the last current stays, as `ChargeHistory` says
unfoldable pub current_of : Discretisation → Float → ChargeHistory → Float
current_of Discretisation.None q held = held.i_prev
current_of (Euler h) q held = (charge_current_of (Euler h) +0 q held).i
current_of (Trapezoid h) q held = (charge_current_of (Trapezoid h) +0 q held).i
current_of (Gear h h1) q held = (charge_current_of (Gear h h1) +0 q held).i

-- a charge and its current put in; the last charge becomes the one before
unfoldable pub put_in : Discretisation → Float → ChargeHistory → ChargeHistory
put_in disc q held = record { q_prev = q; q_prev2 = Some held.q_prev; i_prev = current_of disc q held }

pub record BranchCharges : Type 0 where
  pub gs : Float
  pub gd : Float
  pub gb : Float
  pub bs : Float
  pub bd : Float

-- The charges that the Level-1 definition commits: at the gate the last transient evaluation's capacitance times the voltage, at the
-- junctions the charge law with the scaling now in force
unfoldable pub committed_charges : Card → Geometry → Scaled → Charges → Voltages → BranchCharges
committed_charges card sizes scaled evaluated v = record {
  gs = evaluated.cgs_eval ⊗ (v.vg ⊖ v.vs);
  gd = evaluated.cgd_eval ⊗ (v.vg ⊖ v.vd);
  gb = evaluated.cgb_eval ⊗ (v.vg ⊖ v.vb);
  bs = q_depl_of (grading_of card scaled) sizes.cbs_bot sizes.cbs_sw (v.vb ⊖ v.vs);
  bd = q_depl_of (grading_of card scaled) sizes.cbd_bot sizes.cbd_sw (v.vb ⊖ v.vd);
}

unfoldable pub put_all_in : Discretisation → BranchCharges → Histories → Histories
put_all_in disc q held = record {
  gs_hist = put_in disc q.gs held.gs_hist;
  gd_hist = put_in disc q.gd held.gd_hist;
  gb_hist = put_in disc q.gb held.gb_hist;
  bs_hist = put_in disc q.bs held.bs_hist;
  bd_hist = put_in disc q.bd held.bd_hist;
}

-- what is held after a call on d: "Refused and other calls change nothing"
unfoldable pub counted : Histories → Call → Mosfet1 → Histories
counted held (commit x) d =
    cond (accepted (commit x) d)
    (put_all_in d.disc (committed_charges d.card d.geometry d.scaled d.charges (voltages_of x d.terminals)) held) held
counted held (geometry bytes offsets lengths values list) d = held
counted held (scaling t) d = held
counted held (binding drain gate source bulk first) d = held
counted held (evaluation x transient k) d = held
counted held (loading kind P rhs values) d = held
counted held (noise t freq) d = held
counted held reactances d = held

unfoldable pub recount_from : Histories → List Call → Mosfet1 → Histories
recount_from held [] d = held
recount_from held (c ∷ calls) d = recount_from (counted held c d) calls (after c d)

-- the recount of a list on a fresh device d
unfoldable pub recount : List Call → Mosfet1 → Histories
recount calls d = recount_from at_first calls d

-- a device with other histories; the recount is the same on it
unfoldable pub with_histories : Mosfet1 → Histories → Mosfet1
with_histories d h = record {
  card = d.card;
  geometry = d.geometry;
  scaled = d.scaled;
  terminals = d.terminals;
  point = d.point;
  charges = d.charges;
  histories = h;
  disc = d.disc;
  stage = d.stage;
}
