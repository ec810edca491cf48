-- The device's histories are the recount.
use mathlib.Core.Path.{◌≡◌, refl, sym, ap, ◌∙◌}
use mathlib.Core.Bool.{cond}
use mathlib.Core.List.{List, [], ◌∷◌}
use lib.Ieee.{Float}
use lib.ListN.{length}
use Rattle.device.specs.Refusals.{Outcome, refused}
use Rattle.device.specs.declared.ChargeHistory.{ChargeHistory}
use Rattle.device.specs.declared.Discretisation.{Discretisation}
use Rattle.device.specs.declared.Discretisation.TheVariants.{None, Euler, Trapezoid, Gear}
use Rattle.device.specs.declared.Histories.{Histories}
use Rattle.device.specs.declared.Mosfet1.{Mosfet1}
use Rattle.reactive.specs.Charge.{recorded_of, has_step_of, advance_of}
use Rattle.entries.specs.declared.Keyed.{Keyed}
use Rattle.device.proofs.Rows.{unless_either}
use Rattle.geometry.specs.Geometry.{geometry_of, geometry_rows, geometry_list_of}
use Rattle.setup.specs.Scaling.{scaling_of, scaling_rows}
use Rattle.setup.specs.Binding.{binding_of, binding_rows, bound_terminals}
use Rattle.mosfet1.specs.Steps.{evaluated_of, evaluated_from_of, committed_of, committed_histories_of}
use Rattle.bias.specs.declared.Voltages.{Voltages}
use Rattle.mosfet1.specs.declared.steps.Evaluated.{Evaluated}
use Rattle.model.specs.Calls.{eval_of, commit_of}
use Rattle.rows.specs.Rows.{voltages_of, eval_rows, commit_rows}
use Rattle.accepted.proofs.Accepted.{card_accepted}
use Rattle.call_lists.specs.Calls.{Call, geometry, scaling, binding, evaluation, loading, commit, noise, reactances, geometry_answer, setup_answer, evaluation_answer, commit_answer, answer, is_done, device_left, accepted, after, run}
use Rattle.call_lists.specs.F64.{Fresh}
use Rattle.call_lists.specs.Recount.{nothing_held, at_first, current_of, put_in, committed_charges, put_all_in, counted, recount_from, recount}

-- ---- one commit

same_current : (disc : Discretisation) (q : Float) (held : ChargeHistory) → current_of disc q held ≡ recorded_of disc q held
unfolding current_of recorded_of has_step_of
same_current None q held = refl
same_current (Euler h) q held = refl
same_current (Trapezoid h) q held = refl
same_current (Gear h h1) q held = refl

same_branch : (disc : Discretisation) (q : Float) (held : ChargeHistory) → put_in disc q held ≡ advance_of disc q held
unfolding put_in advance_of
same_branch disc q held = λ i. record {
  q_prev = q;
  q_prev2 = (advance_of disc q held).q_prev2;
  i_prev = same_current disc q held i;
}

-- the charges put in are those that the definition commits
pub same_commit : (d : Mosfet1) (v : Voltages) → put_all_in d.disc (committed_charges d.card d.geometry d.scaled d.charges v) d.histories ≡ (committed_of d v).histories
unfolding put_all_in committed_charges committed_of committed_histories_of
same_commit d v =
    let q = committed_charges d.card d.geometry d.scaled d.charges v in
    λ i. record {
      gs_hist = same_branch d.disc q.gs d.histories.gs_hist i;
      gd_hist = same_branch d.disc q.gd d.histories.gd_hist i;
      gb_hist = same_branch d.disc q.gb d.histories.gb_hist i;
      bs_hist = same_branch d.disc q.bs d.histories.bs_hist i;
      bd_hist = same_branch d.disc q.bd d.histories.bd_hist i;
    }

-- ---- one call

-- what is held is the device's histories before a call, so it is after it
counted_after : (c : Call) (d : Mosfet1) → counted d.histories c d ≡ (after c d).histories
unfolding counted after answer accepted is_done device_left geometry_of scaling_of binding_of eval_of evaluated_of evaluated_from_of commit_of
counted_after (geometry bytes offsets lengths values list) d =
    unless_either (λ (a : Outcome Keyed). d.histories ≡ (device_left d (geometry_answer a (geometry_list_of d bytes offsets lengths values list))).histories)
    (geometry_rows d bytes offsets lengths values (length list)) refused _ (λ n. refl) refl
counted_after (scaling t) d =
    unless_either (λ (a : Outcome Mosfet1). d.histories ≡ (device_left d (setup_answer a)).histories) (scaling_rows d t) refused _ (λ n. refl) refl
counted_after (binding drain gate source bulk first) d =
    unless_either (λ (a : Outcome Mosfet1). d.histories ≡ (device_left d (setup_answer a)).histories)
    (binding_rows d (bound_terminals d drain gate source bulk first)) refused _ (λ n. refl) refl
counted_after (evaluation x transient k) d =
    unless_either (λ (a : Outcome Evaluated). d.histories ≡ (device_left d (evaluation_answer a)).histories)
    (eval_rows d.stage d.terminals x k.temperature k.gmin k.method) refused _ (λ n. refl) refl
counted_after (loading kind P rhs values) d = refl
counted_after (commit x) d =
    let held = put_all_in d.disc (committed_charges d.card d.geometry d.scaled d.charges (voltages_of x d.terminals)) d.histories in
    unless_either (λ (a : Outcome Mosfet1). cond (is_done (commit_answer a)) held d.histories ≡ (device_left d (commit_answer a)).histories)
    (commit_rows d.stage d.terminals x) refused _ (λ n. refl) (same_commit d (voltages_of x d.terminals))
counted_after (noise t freq) d = refl
counted_after reactances d = refl

-- ---- a list

recounted_from : (calls : List Call) (d : Mosfet1) (held : Histories) → held ≡ d.histories → recount_from held calls d ≡ (run calls d).histories
unfolding recount_from run
recounted_from [] d held h = h
recounted_from (c ∷ calls) d held h =
    recounted_from calls (after c d) (counted held c d) (ap (λ (z : Histories). counted z c d) h ∙ counted_after c d)

fresh_histories_lem : {d : Mosfet1} → Fresh d → d.histories ≡ at_first
unfolding at_first nothing_held
fresh_histories_lem {d} f =
    ap (λ (e : Mosfet1). e.histories) (card_accepted f.is_pmos f.bytes f.offsets f.lengths f.values f.space _ f.returned).0

-- After every list of calls on a fresh device the device's histories are those of the recount.
pub histories_are_recounted : (calls : List Call) (d : Mosfet1) → Fresh d → (run calls d).histories ≡ recount calls d
unfolding recount
histories_are_recounted calls d f = sym (recounted_from calls d at_first (sym (fresh_histories_lem f)))
