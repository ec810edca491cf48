-- What a load adds to the matrix and the right-hand side.
use Rattle.std.specs.Prelude.{Bool, true, ◌||◌, cond, List, [], ◌∷◌, Float}
use Rattle.std.specs.Float.Ieee.{neg}
use Rattle.exact.specs.Float64.{◌⊕◌, ◌⊗◌, ◌⊘◌, ◌>f◌, ◌≠f◌, +0, +1}
use Rattle.device.specs.declared.NodeId.{NodeId}
use Rattle.device.specs.declared.Terminals.{Terminals}
use Rattle.device.specs.declared.Discretisation.{Discretisation}
use Rattle.device.specs.declared.ChargeHistory.{ChargeHistory}
use Rattle.device.specs.declared.OperatingPoint.{OperatingPoint}
use Rattle.device.specs.declared.Mosfet1.{Mosfet1}
use Rattle.reactive.specs.Charge.{scale_of, companion_of}
use Rattle.stamps.specs.declared.Position.{Position}
use Rattle.stamps.specs.declared.Residual.{Residual}
use Rattle.stamps.specs.declared.ChargeBranch.{ChargeBranch}
use Rattle.stamps.specs.declared.ChargeBranches.{ChargeBranches}

abbrev pub position : NodeId → NodeId → Position
position r c = record { row = r; col = c }

-- a conductance between the nodes a and b: (a, a) (a, b) (b, a) (b, b), at the values g -g -g g
abbrev pub pair_between : NodeId → NodeId → List Position → List Position
pair_between a b rest = position a a ∷ position a b ∷ position b a ∷ position b b ∷ rest

abbrev pub values_between : Float → List Float → List Float
values_between g rest = g ∷ neg g ∷ neg g ∷ g ∷ rest

-- `jac_pairs`: the channel's eight, then RD, RS, the bulk-source and the bulk-drain junction
unfoldable pub jac_pairs_of : Terminals → List Position
jac_pairs_of t =
    position t.drain t.gate ∷ position t.drain t.drain ∷ position t.drain t.source ∷ position t.drain t.bulk
    ∷ position t.source t.gate ∷ position t.source t.drain ∷ position t.source t.source ∷ position t.source t.bulk
    ∷ pair_between t.drain_ext t.drain (pair_between t.source_ext t.source
    (pair_between t.bulk t.source (pair_between t.bulk t.drain [])))

-- the conductance of a series resistance, 0 where there is none
unfoldable pub series_of : Float → Float
series_of r = cond (r >f +0) (+1 ⊘ r) +0

-- gms = gm + gds + gmbs, what the source's own column gets
abbrev pub gms_of : OperatingPoint → Float
gms_of p = p.gm ⊕ p.gds ⊕ p.gmbs

abbrev pub channel_values : OperatingPoint → List Float → List Float
channel_values p rest =
    p.gm ∷ p.gds ∷ neg (gms_of p) ∷ p.gmbs ∷ neg p.gm ∷ neg p.gds ∷ gms_of p ∷ neg p.gmbs ∷ rest

-- the 24 values in the order of the pairs
unfoldable pub jac_values_of : Mosfet1 → List Float
jac_values_of d =
    channel_values d.point (values_between (series_of d.geometry.rd) (values_between (series_of d.geometry.rs)
    (values_between d.point.gbs (values_between d.point.gbd []))))

unfoldable pub residual_of : Mosfet1 → Residual
residual_of d = record { jeq = d.point.jeq; ibs_eq = d.point.ibs_eq; ibd_eq = d.point.ibd_eq }

-- A charge branch of capacitance c between two nodes: the Jacobian has factor · c, loaded where c is not zero; the right-hand side
-- the history current at the charge q, with cv the Jacobian's term at the branch's voltage
unfoldable pub branch_of : NodeId → NodeId → Float → Float → Float → Bool → Discretisation → Float → ChargeHistory → ChargeBranch
branch_of a b c cv q remembers disc alpha past = record {
  pos = a;
  neg = b;
  conducts = c ≠f +0;
  conductance = scale_of disc alpha ⊗ c;
  remembers = remembers;
  history = companion_of disc alpha q cv past;
}

unfoldable pub has_junction_of : Float → Float → Bool
has_junction_of bot sw = (bot ≠f +0) || (sw ≠f +0)

-- a junction's Jacobian term is c v, its charge is not; its history current is loaded where it has a bottom or a sidewall capacitance
unfoldable pub junction_branch_of : NodeId → NodeId → Float → Float → Float → Float → Float → Discretisation → Float → ChargeHistory → ChargeBranch
junction_branch_of a b c v q bot sw disc alpha past = branch_of a b c (c ⊗ v) q (has_junction_of bot sw) disc alpha past

-- The branches gs gd gb bs bd. A gate branch is linear, so the Jacobian's term at its voltage is its charge, and its history current is
-- always loaded
unfoldable pub charge_branches_of : Mosfet1 → Float → ChargeBranches
charge_branches_of d alpha =
    let t = d.terminals in
    let g = d.geometry in
    let q = d.charges in
    let h = d.histories in
    record {
      gs = branch_of t.gate t.source q.cgs_eval q.q_gs_eval q.q_gs_eval true d.disc alpha h.gs_hist;
      gd = branch_of t.gate t.drain q.cgd_eval q.q_gd_eval q.q_gd_eval true d.disc alpha h.gd_hist;
      gb = branch_of t.gate t.bulk q.cgb_eval q.q_gb_eval q.q_gb_eval true d.disc alpha h.gb_hist;
      bs = junction_branch_of t.bulk t.source q.cbs_eval q.vbs_eval q.q_bs_eval g.cbs_bot g.cbs_sw d.disc alpha h.bs_hist;
      bd = junction_branch_of t.bulk t.drain q.cbd_eval q.vbd_eval q.q_bd_eval g.cbd_bot g.cbd_sw d.disc alpha h.bd_hist;
    }
