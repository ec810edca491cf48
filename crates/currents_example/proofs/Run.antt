-- The whole list: the device that it leaves, and its last accepted evaluation.
use mathlib.Core.Path.{◌≡◌, refl, ap, ◌∙◌}
use mathlib.Core.Bool.{true}
use mathlib.Core.List.{List, [], ◌∷◌, ◌++◌}
use Rattle.device.specs.declared.Mosfet1.{Mosfet1}
use Rattle.call_lists.specs.Calls.{Call, evaluation, answer, is_done, accepted, after, run}
use Rattle.call_lists.specs.LastEvaluation.{evaluation_on, LastEvaluation, none, made, voltages_at, answer_at, evaluated_kept, evaluated_last, noted, last_from, last_evaluation}
use Rattle.currents_example.specs.Example.{x3, conditions3, rest, before, calls}
use Rattle.currents_example.specs.Trace.{fresh, committed2, evaluated3, evaluation_loaded, kept_loaded}
use Rattle.currents_example.proofs.Computing.{floats, model, rows}
use Rattle.currents_example.proofs.Steps.{Leaves, geometry_leaves, scaling_leaves, binding_leaves, early_commit_leaves, first_evaluation_leaves, first_commit_leaves, second_evaluation_leaves, second_commit_leaves, third_evaluation_leaves, refused_evaluation_leaves, load_leaves, noise_leaves, reactances_leaves}

-- ---- the device
-- a list of calls on d that leaves e, call by call
infixr 5 ◌then◌
data InTurn : List Call → Mosfet1 → Mosfet1 → Type 0 where
  end : {d : Mosfet1} → InTurn [] d d
  ◌then◌ : {c : Call} {calls : List Call} {d e f : Mosfet1} → Leaves c d e → InTurn calls e f → InTurn (c ∷ calls) d f

run_of : (calls : List Call) {d e : Mosfet1} → InTurn calls d e → run calls d ≡ e
unfolding run
run_of [] end = refl
run_of (c ∷ calls) (h then hs) = ap (run calls) h.is ∙ run_of calls hs

before_in_turn : InTurn before fresh committed2
before_in_turn =
    geometry_leaves then scaling_leaves then binding_leaves then early_commit_leaves then first_evaluation_leaves then first_commit_leaves
    then second_evaluation_leaves then load_leaves then second_commit_leaves then end

rest_in_turn : InTurn rest evaluated3 evaluated3
rest_in_turn = refused_evaluation_leaves then noise_leaves then reactances_leaves then end

both : {some : List Call} (others : List Call) {d e f : Mosfet1} → InTurn some d e → InTurn others e f → InTurn (some ++ others) d f
both others end q = q
both others (h then p) q = h then both others p q

pub example_leaves : run calls fresh ≡ evaluated3
example_leaves = run_of calls (both (evaluation x3 true conditions3 ∷ rest) before_in_turn (third_evaluation_leaves then rest_in_turn))

-- ---- the last accepted evaluation
-- after the calls of a list, whatever it was before
noted_before : (prefix others : List Call) (last : LastEvaluation) (d : Mosfet1) → last_from last (prefix ++ others) d ≡ last_from (last_from last prefix d) others (run prefix d)
unfolding last_from run
noted_before [] others last d = refl
noted_before (c ∷ prefix) others last d = noted_before prefix others (noted last c d) (after c d)

accepted_third : (last : LastEvaluation) → noted last (evaluation x3 true conditions3) committed2 ≡ made evaluation_loaded kept_loaded
unfolding noted accepted is_done answer evaluated_last evaluation_on evaluated_kept answer_at voltages_at model rows floats
accepted_third last = refl

refused_rest : (last : LastEvaluation) → last_from last rest evaluated3 ≡ last
unfolding last_from noted accepted is_done answer rows floats
refused_rest last = refl

pub example_evaluated : last_evaluation calls fresh ≡ made evaluation_loaded kept_loaded
unfolding last_evaluation last_from
example_evaluated =
    noted_before before (evaluation x3 true conditions3 ∷ rest) none fresh
    ∙ ap (λ (d : Mosfet1). last_from (last_from none before fresh) (evaluation x3 true conditions3 ∷ rest) d) (run_of before before_in_turn)
    ∙ ap (λ (last : LastEvaluation). last_from last rest (after (evaluation x3 true conditions3) committed2)) (accepted_third _)
    ∙ ap (λ (d : Mosfet1). last_from (made evaluation_loaded kept_loaded) rest d) third_evaluation_leaves.is
    ∙ refused_rest _
