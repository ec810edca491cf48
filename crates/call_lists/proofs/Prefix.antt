-- Where the last accepted evaluation stands in a list: it was accepted on the device that the calls before it left.
use Prim.Native.Nat.{ℕ}
use mathlib.Core.Path.{◌≡◌, refl, ap, subst}
use mathlib.Core.Bool.{Bool, true, false, cond}
use mathlib.Core.List.{List, [], ◌∷◌}
use borrow.Author.Tests.{eqb-true}
use lib.Dec.{eqb}
use lib.Ieee.{Float}
use Rattle.device.specs.Refusals.{done, refused}
use Rattle.device.specs.declared.Mosfet1.{Mosfet1}
use Rattle.mosfet1.specs.Steps.{evaluated_of}
use Rattle.bias.specs.declared.Kept.{Kept}
use Rattle.bias.specs.declared.Voltages.{Voltages}
use Rattle.mosfet1.specs.declared.steps.Conditions.{Conditions}
use Rattle.mosfet1.specs.declared.steps.Evaluated.{Evaluated}
use Rattle.model.specs.Calls.{eval_of}
use Rattle.model.proofs.ByRow.{eval_by_row}
use Rattle.rows.specs.Rows.{voltages_of}
use Rattle.call_lists.specs.Calls.{Call, geometry, scaling, binding, evaluation, loading, commit, noise, reactances, evaluation_answer, answer, is_done, accepted, after, run}
use Rattle.call_lists.specs.LastEvaluation.{EvaluationMade, evaluation_on, voltages_at, LastEvaluation, none, made, evaluated_last, committed_last, noted, last_from, last_evaluation, StandsIn}
use Rattle.call_lists.proofs.Outcomes.{row_at, evaluation_by_row}

-- Q holds of the evaluation, if there is one
abbrev Of : (EvaluationMade → Type 0) → LastEvaluation → Type 0
Of Q none = Unit {0}
Of Q (made e kept) = Q e

of_cond : (Q : EvaluationMade → Type 0) (b : Bool) (new last : LastEvaluation) → Of Q new → Of Q last → Of Q (cond b new last)
of_cond Q true new last n l = n
of_cond Q false new last n l = l

-- an evaluation counts only where its row is 0
of_evaluation : (Q : EvaluationMade → Type 0) (e : EvaluationMade) (last : LastEvaluation) (result : Evaluated) (row : ℕ) (b : Bool) → eqb row 0 ≡ b → (row ≡ 0 → Q e) → Of Q last → Of Q (cond (is_done (evaluation_answer (cond b (done result) (refused row)))) (evaluated_last last e) last)
unfolding is_done evaluated_last
of_evaluation Q e last result row true t q l = q (eqb-true row 0 t)
of_evaluation Q e last result row false t q l = l

of_commit : (Q : EvaluationMade → Type 0) (last : LastEvaluation) (d : Mosfet1) (v : Voltages) → Of Q last → Of Q (committed_last last d v)
unfolding committed_last
of_commit Q none d v l = l
of_commit Q (made e kept) d v l = l

of_noted : (Q : EvaluationMade → Type 0) (c : Call) (last : LastEvaluation) (d : Mosfet1) → ((x : List Float) (transient : Bool) (k : Conditions) → c ≡ evaluation x transient k → row_at d x k ≡ 0 → Q (evaluation_on d x transient k)) → Of Q last → Of Q (noted last c d)
unfolding noted accepted answer
of_noted Q (geometry bytes offsets lengths values list) last d q l = l
of_noted Q (scaling t) last d q l = l
of_noted Q (binding drain gate source bulk first) last d q l = l
of_noted Q (evaluation x transient k) last d q l =
    rw (eval_by_row d x transient k) (of_evaluation Q (evaluation_on d x transient k) last _ (row_at d x k) (eqb (row_at d x k) 0) refl (q x transient k refl) l)
of_noted Q (loading kind P rhs values) last d q l = l
of_noted Q (commit x) last d q l = of_cond Q (accepted (commit x) d) _ last (of_commit Q last d (voltages_of x d.terminals) l) l
of_noted Q (noise t freq) last d q l = l
of_noted Q reactances last d q l = l

-- an evaluation at the head of a list, and one in its tail
stands_first : (c : Call) (calls : List Call) (d : Mosfet1) (x : List Float) (transient : Bool) (k : Conditions) → c ≡ evaluation x transient k → row_at d x k ≡ 0 → StandsIn (c ∷ calls) d (evaluation_on d x transient k)
unfolding evaluation_on run
stands_first c calls d x transient k h r =
    record { prefix = []; rest = calls; stands = ap (λ (z : Call). z ∷ calls) h; device = refl; row = r }

stands_later : (c : Call) (calls : List Call) (d : Mosfet1) (e : EvaluationMade) → StandsIn calls (after c d) e → StandsIn (c ∷ calls) d e
unfolding run
stands_later c calls d e s =
    record { prefix = c ∷ s.prefix; rest = s.rest; stands = ap (λ (z : List Call). c ∷ z) s.stands; device = s.device; row = s.row }

of_list : (Q : EvaluationMade → Type 0) (calls : List Call) (last : LastEvaluation) (d : Mosfet1) → ((e : EvaluationMade) → StandsIn calls d e → Q e) → Of Q last → Of Q (last_from last calls d)
unfolding last_from
of_list Q [] last d q l = l
of_list Q (c ∷ calls) last d q l =
    of_list Q calls (noted last c d) (after c d) (λ e s. q e (stands_later c calls d e s))
    (of_noted Q c last d (λ x transient k h r. q (evaluation_on d x transient k) (stands_first c calls d x transient k h r)) l)

-- The last accepted evaluation stands in the list, behind the calls that left the device that it was made on.
pub last_evaluation_stands : (calls : List Call) (d : Mosfet1) (e : EvaluationMade) (kept : Kept) → last_evaluation calls d ≡ made e kept → StandsIn calls d e
unfolding last_evaluation
last_evaluation_stands calls d e kept h = subst (Of (StandsIn calls d)) h (of_list (StandsIn calls d) calls none d (λ m s. s) tt)

-- and it answered what the Level-1 definition makes of its arguments on that device.
pub evaluation_answered : (calls : List Call) (d : Mosfet1) (e : EvaluationMade) → StandsIn calls d e → eval_of e.device e.x e.transient e.conditions ≡ done (evaluated_of e.device (voltages_at e) e.transient e.conditions)
unfolding voltages_at
evaluation_answered calls d e s = evaluation_by_row e.device e.x e.transient e.conditions s.row
