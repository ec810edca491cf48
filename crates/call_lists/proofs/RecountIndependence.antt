-- The recount reads no history of the device: on devices that differ in their histories alone it is the same.
use mathlib.Core.Path.{◌≡◌, refl, sym, ap, ◌∙◌}
use mathlib.Core.Bool.{cond}
use mathlib.Core.List.{List, [], ◌∷◌}
use lib.ListN.{length}
use Rattle.device.specs.Refusals.{Outcome, refused}
use Rattle.device.specs.declared.Histories.{Histories}
use Rattle.device.specs.declared.Mosfet1.{Mosfet1}
use Rattle.entries.specs.declared.Keyed.{Keyed}
use Rattle.device.proofs.Rows.{unless_both}
use Rattle.geometry.specs.Geometry.{geometry_of, geometry_rows, geometry_list_of}
use Rattle.setup.specs.Scaling.{scaling_of, scaling_rows}
use Rattle.setup.specs.Binding.{binding_of, binding_rows, bound_terminals}
use Rattle.mosfet1.specs.Steps.{evaluated_answer_of, evaluated_point_of, evaluated_charges_of, evaluated_from_of, evaluated_of, committed_of}
use Rattle.mosfet1.specs.declared.steps.Evaluated.{Evaluated}
use Rattle.model.specs.Calls.{eval_of, commit_of}
use Rattle.rows.specs.Rows.{voltages_of, eval_rows, commit_rows}
use Rattle.call_lists.specs.Calls.{Call, geometry, scaling, binding, evaluation, loading, commit, noise, reactances, geometry_answer, setup_answer, evaluation_answer, commit_answer, answer, is_done, device_left, accepted, after}
use Rattle.call_lists.specs.Recount.{at_first, committed_charges, put_all_in, counted, recount_from, recount, with_histories}

-- a device with its histories cleared
cleared : Mosfet1 → Mosfet1
cleared d = with_histories d at_first

-- ---- one call

-- but for the histories, a call leaves the same of a device with its histories cleared
after_cleared : (c : Call) (d : Mosfet1) → cleared (after c (cleared d)) ≡ cleared (after c d)
unfolding cleared with_histories after answer device_left geometry_of scaling_of binding_of eval_of evaluated_of evaluated_from_of evaluated_answer_of evaluated_point_of evaluated_charges_of commit_of committed_of
after_cleared (geometry bytes offsets lengths values list) d =
    unless_both (λ (a b : Outcome Keyed). cleared (device_left (cleared d) (geometry_answer a (geometry_list_of (cleared d) bytes offsets lengths values list))) ≡ cleared (device_left d (geometry_answer b (geometry_list_of d bytes offsets lengths values list))))
    (geometry_rows d bytes offsets lengths values (length list)) refused _ _ (λ n. refl) refl
after_cleared (scaling t) d =
    unless_both (λ (a b : Outcome Mosfet1). cleared (device_left (cleared d) (setup_answer a)) ≡ cleared (device_left d (setup_answer b)))
    (scaling_rows d t) refused _ _ (λ n. refl) refl
after_cleared (binding drain gate source bulk first) d =
    unless_both (λ (a b : Outcome Mosfet1). cleared (device_left (cleared d) (setup_answer a)) ≡ cleared (device_left d (setup_answer b)))
    (binding_rows d (bound_terminals d drain gate source bulk first)) refused _ _ (λ n. refl) refl
after_cleared (evaluation x transient k) d =
    unless_both (λ (a b : Outcome Evaluated). cleared (device_left (cleared d) (evaluation_answer a)) ≡ cleared (device_left d (evaluation_answer b)))
    (eval_rows d.stage d.terminals x k.temperature k.gmin k.method) refused _ _ (λ n. refl) refl
after_cleared (loading kind P rhs values) d = refl
after_cleared (commit x) d =
    unless_both (λ (a b : Outcome Mosfet1). cleared (device_left (cleared d) (commit_answer a)) ≡ cleared (device_left d (commit_answer b)))
    (commit_rows d.stage d.terminals x) refused _ _ (λ n. refl) refl
after_cleared (noise t freq) d = refl
after_cleared reactances d = refl

counted_cleared : (c : Call) (d : Mosfet1) (held : Histories) → counted held c (cleared d) ≡ counted held c d
unfolding cleared with_histories counted accepted answer is_done commit_of
counted_cleared (geometry bytes offsets lengths values list) d held = refl
counted_cleared (scaling t) d held = refl
counted_cleared (binding drain gate source bulk first) d held = refl
counted_cleared (evaluation x transient k) d held = refl
counted_cleared (loading kind P rhs values) d held = refl
counted_cleared (commit x) d held =
    let put = put_all_in d.disc (committed_charges d.card d.geometry d.scaled d.charges (voltages_of x d.terminals)) held in
    unless_both (λ (a b : Outcome Mosfet1). cond (is_done (commit_answer a)) put held ≡ cond (is_done (commit_answer b)) put held)
    (commit_rows d.stage d.terminals x) refused _ _ (λ n. refl) refl
counted_cleared (noise t freq) d held = refl
counted_cleared reactances d held = refl

-- ---- a list

same_from : (calls : List Call) (d e : Mosfet1) (held : Histories) → cleared d ≡ cleared e → recount_from held calls d ≡ recount_from held calls e
unfolding recount_from
same_from [] d e held h = refl
same_from (c ∷ calls) d e held h =
    let now : counted held c d ≡ counted held c e =
    sym (counted_cleared c d held) ∙ ap (λ (z : Mosfet1). counted held c z) h ∙ counted_cleared c e held
    in
    let later : cleared (after c d) ≡ cleared (after c e) =
    sym (after_cleared c d) ∙ ap (λ (z : Mosfet1). cleared (after c z)) h ∙ after_cleared c e
    in
    ap (λ (z : Histories). recount_from z calls (after c d)) now ∙ same_from calls (after c d) (after c e) (counted held c e) later

-- Whatever histories a device holds, the recount of a list on it is the same.
pub recount_reads_no_history : (calls : List Call) (d : Mosfet1) (h : Histories) → recount calls (with_histories d h) ≡ recount calls d
unfolding recount cleared with_histories
recount_reads_no_history calls d h = same_from calls (with_histories d h) d at_first refl
