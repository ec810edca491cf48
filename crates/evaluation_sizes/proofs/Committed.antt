-- What a commit leaves is in its bounds, if the parameters are in theirs, the node voltages are those that row 9 lets pass, and what the device held was in
-- its bounds.
use mathlib.Core.Path.{◌≡◌, sym, subst}
use mathlib.Core.List.{List}
use lib.IntN.{pos}
use lib.Ieee.{Float}
use Rattle.exact.specs.Float64.{◌⊗◌}
use Rattle.exact.proofs.Sizes.{at_most_weaken}
use Rattle.device.specs.declared.ChargeHistory.{ChargeHistory}
use Rattle.device.specs.declared.Discretisation.{Discretisation}
use Rattle.device.specs.declared.Mosfet1.{Mosfet1}
use Rattle.reactive.specs.Charge.{advance_of}
use Rattle.charges.specs.Charges.{grading_of}
use Rattle.mosfet1.specs.Steps.{committed_histories_of, committed_point_of, committed_of}
use Rattle.bias.specs.declared.Voltages.{Voltages}
use Rattle.model.specs.Calls.{commit_of}
use Rattle.device.specs.Refusals.{done}
use Rattle.depletion_sizes.specs.DepletionSizes.{NodeDifference}
use Rattle.depletion_sizes.proofs.Depletion.{q_depl_at_most}
use Rattle.evaluation_sizes.specs.Arguments.{VoltagesSizes}
use Rattle.evaluation_sizes.specs.EvaluationSizes.{ParameterBounds, PointSizes, ChargeSize, EvaluatedGate, value, HistorySizes, HistoriesSizes, StateSizes}
use Rattle.evaluation_sizes.proofs.Accepted.{commit_accepted}
use Rattle.evaluation_sizes.proofs.Limiter.{difference_at_most}
use Rattle.evaluation_sizes.proofs.Gate.{gate_charge_at_most}
use Rattle.evaluation_sizes.proofs.Evaluated.{difference_range, flipped_vgs, flipped_vds}

-- the last charge becomes the one before
pub advance_sizes : (disc : Discretisation) {q : Float} {h : ChargeHistory} → ChargeSize q → HistorySizes h → HistorySizes (advance_of disc q h)
unfolding advance_of
advance_sizes disc Q H = record { last = Q; earlier = value H.last }

module _ {d : Mosfet1} (B : ParameterBounds d.card d.geometry d.scaled) (D : StateSizes d) {v : Voltages} (W : VoltagesSizes v) where
  gate : {c x : Float} → EvaluatedGate c → NodeDifference x → ChargeSize (c ⊗ x)
  gate C X = at_most_weaken (gate_charge_at_most C X) (pos 170) tt

  committed_point_lem : PointSizes (committed_point_of d.point d.card.polarity v)
  unfolding committed_point_of
  committed_point_lem = record { vgs = difference_at_most (flipped_vgs B.polarity W); vds = difference_at_most (flipped_vds B.polarity W) }

  committed_histories : HistoriesSizes (committed_histories_of d.histories d.disc d.charges d.geometry (grading_of d.card d.scaled) v)
  unfolding committed_histories_of
  committed_histories =
      let H = D.histories in
      let C = D.charges in
      record {
        gs = advance_sizes d.disc (gate C.cgs (difference_range W.vg W.vs)) H.gs;
        gd = advance_sizes d.disc (gate C.cgd (difference_range W.vg W.vd)) H.gd;
        gb = advance_sizes d.disc (gate C.cgb (difference_range W.vg W.vb)) H.gb;
        bs = advance_sizes d.disc (q_depl_at_most B.grading B.cbs_bot B.cbs_sw (difference_range W.vb W.vs)) H.bs;
        bd = advance_sizes d.disc (q_depl_at_most B.grading B.cbd_bot B.cbd_sw (difference_range W.vb W.vd)) H.bd;
      }

  pub committed_sizes : StateSizes (committed_of d v)
  unfolding committed_of
  committed_sizes = record { point = committed_point_lem; charges = D.charges; histories = committed_histories; method = D.method }

-- an accepted commit
pub commit_sizes : {d : Mosfet1} → ParameterBounds d.card d.geometry d.scaled → StateSizes d → (x : List Float) {e : Mosfet1} → commit_of d x ≡ done e → StateSizes e
commit_sizes {d} B D x {e} h =
    let both = commit_accepted d x e h in
    subst StateSizes (sym both.0) (committed_sizes B D both.1.voltages)
