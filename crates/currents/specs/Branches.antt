-- The five charge branches by name: what an evaluation, a device, a load and the recount hold of each.
use Rattle.std.specs.Prelude.{Bool, true, Float}
use Rattle.exact.specs.Float64.{◌⊖◌}
use Rattle.device.specs.declared.ChargeHistory.{ChargeHistory}
use Rattle.device.specs.declared.Charges as device
use Rattle.device.specs.declared.Geometry.{Geometry}
use Rattle.device.specs.declared.Histories.{Histories}
use Rattle.device.specs.declared.NodeId.{NodeId}
use Rattle.device.specs.declared.Terminals.{Terminals}
use Rattle.bias.specs.declared.Voltages.{Voltages}
use Rattle.stamps.specs.Stamps.{has_junction_of}
use Rattle.stamps.specs.declared.ChargeBranch.{ChargeBranch}
use Rattle.stamps.specs.declared.ChargeBranches.{ChargeBranches}

-- gate-source, gate-drain, gate-bulk, bulk-source, bulk-drain
pub data Branch : Type 0 where
  gs : Branch
  gd : Branch
  gb : Branch
  bs : Branch
  bd : Branch

-- the nodes that a branch lies between
unfoldable pub pos_of : Branch → Terminals → NodeId
pos_of gs t = t.gate
pos_of gd t = t.gate
pos_of gb t = t.gate
pos_of bs t = t.bulk
pos_of bd t = t.bulk

unfoldable pub neg_of : Branch → Terminals → NodeId
neg_of gs t = t.source
neg_of gd t = t.drain
neg_of gb t = t.bulk
neg_of bs t = t.source
neg_of bd t = t.drain

-- "v the unflipped rounded node difference", from the first node to the second
unfoldable pub voltage_of : Branch → Voltages → Float
voltage_of gs v = v.vg ⊖ v.vs
voltage_of gd v = v.vg ⊖ v.vd
voltage_of gb v = v.vg ⊖ v.vb
voltage_of bs v = v.vb ⊖ v.vs
voltage_of bd v = v.vb ⊖ v.vd

-- what a transient evaluation leaves of it: the capacitance, and the charge
unfoldable pub capacitance_of : Branch → device.Charges → Float
capacitance_of gs c = c.cgs_eval
capacitance_of gd c = c.cgd_eval
capacitance_of gb c = c.cgb_eval
capacitance_of bs c = c.cbs_eval
capacitance_of bd c = c.cbd_eval

unfoldable pub charge_of : Branch → device.Charges → Float
charge_of gs c = c.q_gs_eval
charge_of gd c = c.q_gd_eval
charge_of gb c = c.q_gb_eval
charge_of bs c = c.q_bs_eval
charge_of bd c = c.q_bd_eval

-- its past in a device's histories or in the recount's
unfoldable pub past_of : Branch → Histories → ChargeHistory
past_of gs h = h.gs_hist
past_of gd h = h.gd_hist
past_of gb h = h.gb_hist
past_of bs h = h.bs_hist
past_of bd h = h.bd_hist

-- "History currents are loaded for the three gate branches always, and for a junction where its bottom or sidewall capacitance isn't zero"
unfoldable pub history_loaded : Branch → Geometry → Bool
history_loaded gs g = true
history_loaded gd g = true
history_loaded gb g = true
history_loaded bs g = has_junction_of g.cbs_bot g.cbs_sw
history_loaded bd g = has_junction_of g.cbd_bot g.cbd_sw

-- the branch as a load has it: the conductance and the history current, and whether each is loaded
unfoldable pub loaded_branch : Branch → ChargeBranches → ChargeBranch
loaded_branch gs b = b.gs
loaded_branch gd b = b.gd
loaded_branch gb b = b.gb
loaded_branch bs b = b.bs
loaded_branch bd b = b.bd
