-- What a device keeps of the last accepted evaluation of a list, and where that evaluation stands in the list.
use Prim.Native.Nat.{ℕ}
use mathlib.Core.Path.{◌≡◌, refl, sym, ap, ◌∙◌, subst}
use mathlib.Core.Bool.{Bool, true, false, cond, false≢true}
use mathlib.Core.List.{List, [], ◌∷◌}
use lib.Ieee.{Float}
use lib.ListN.{length}
use Rattle.temperature.specs.declared.Kelvin.{Kelvin}
use Rattle.device.specs.Refusals.{Outcome, done, refused}
use Rattle.device.specs.Stages.{before}
use Rattle.device.specs.declared.Mosfet1.{Mosfet1}
use Rattle.device.specs.declared.NodeId.{NodeId}
use Rattle.device.specs.declared.OperatingPoint.{OperatingPoint}
use Rattle.device.specs.declared.Stage.{Stage}
use Rattle.device.specs.declared.Stage.TheVariants as Stages
use Rattle.entries.specs.declared.Keyed.{Keyed}
use Rattle.geometry.specs.Geometry.{geometry_of, geometry_list_of, geometry_stage}
use Rattle.setup.specs.Scaling.{scaling_of, scaled_stage}
use Rattle.setup.specs.Binding.{binding_of, outside_binding}
use Rattle.bias.specs.Bias.{operating_point_of}
use Rattle.mosfet1.specs.Steps.{evaluated_point_of, evaluated_from_of, evaluated_of, committed_point_of, committed_of}
use Rattle.bias.specs.declared.Kept.{Kept}
use Rattle.bias.specs.declared.Voltages.{Voltages}
use Rattle.mosfet1.specs.declared.steps.Conditions.{Conditions}
use Rattle.mosfet1.specs.declared.steps.Evaluated.{Evaluated}
use Rattle.model.specs.Calls.{eval_of, commit_of}
use Rattle.rows.specs.Rows.{voltages_of}
use Rattle.accepted.proofs.Accepted.{card_accepted}
use Rattle.call_lists.specs.Calls.{Call, geometry, scaling, binding, evaluation, loading, commit, noise, reactances, geometry_answer, setup_answer, evaluation_answer, commit_answer, answer, is_done, device_left, accepted, after, run}
use Rattle.call_lists.specs.F64.{Fresh}
use Rattle.call_lists.specs.LastEvaluation.{EvaluationMade, evaluation_on, voltages_at, answer_at, point_at, charges_at, evaluated_kept, committed_kept, LastEvaluation, none, made, evaluated_last, committed_last, noted, last_from, last_evaluation, keeping, HoldsEvaluation, HoldsLast}
use Rattle.call_lists.proofs.Outcomes.{geometry_done, scaling_done, binding_done, evaluation_done, commit_done}

-- ---- stages

-- a geometry call is accepted before binding only
geometry_earlier : (s : Stage) → before Stages.Scaled s ≡ false → before (geometry_stage s) Stages.Evaluated ≡ true
geometry_earlier Stages.Card h = refl
geometry_earlier Stages.Geometry h = refl
geometry_earlier Stages.Scaled h = refl
geometry_earlier Stages.Bound h = absurd (false≢true (sym h))
geometry_earlier Stages.Evaluated h = absurd (false≢true (sym h))

scaling_earlier : (s : Stage) → before s Stages.Evaluated ≡ true → before (scaled_stage s) Stages.Evaluated ≡ true
scaling_earlier Stages.Card h = refl
scaling_earlier Stages.Geometry h = refl
scaling_earlier Stages.Scaled h = refl
scaling_earlier Stages.Bound h = refl
scaling_earlier Stages.Evaluated h = h

no_geometry : (s : Stage) → s ≡ Stages.Evaluated → before Stages.Scaled s ≡ false → ⊥
no_geometry s e h = false≢true (sym h ∙ ap (before Stages.Scaled) e)

no_binding : (s : Stage) → s ≡ Stages.Evaluated → outside_binding s ≡ false → ⊥
no_binding s e h = false≢true (sym h ∙ ap outside_binding e)

-- ---- one call

geometry_holds : (last : LastEvaluation) (d : Mosfet1) (bytes offsets lengths : List ℕ) (values : List Float) (space : ℕ) (list : List ℕ) (a : Outcome Keyed) → geometry_of d bytes offsets lengths values space ≡ a → HoldsLast last d → HoldsLast last (device_left d (geometry_answer a list))
unfolding device_left
geometry_holds none d bytes offsets lengths values space list (done k) h l =
    let r = geometry_done d bytes offsets lengths values space k h in
    ap (λ (z : Mosfet1). before z.stage Stages.Evaluated) r.1 ∙ geometry_earlier d.stage r.0.1.1.1.1.1.0
geometry_holds (made m kept) d bytes offsets lengths values space list (done k) h l =
    let r = geometry_done d bytes offsets lengths values space k h in
    absurd (no_geometry d.stage l.stage r.0.1.1.1.1.1.0)
geometry_holds none d bytes offsets lengths values space list (refused n) h l = l
geometry_holds (made m kept) d bytes offsets lengths values space list (refused n) h l = l

scaling_holds : (last : LastEvaluation) (d : Mosfet1) (t : Kelvin) (a : Outcome Mosfet1) → scaling_of d t ≡ a → HoldsLast last d → HoldsLast last (device_left d (setup_answer a))
unfolding device_left
scaling_holds none d t (done e) h l =
    ap (λ (z : Mosfet1). before z.stage Stages.Evaluated) (scaling_done d t e h).1 ∙ scaling_earlier d.stage l
scaling_holds (made m kept) d t (done e) h l =
    subst (HoldsEvaluation m kept) (sym (scaling_done d t e h).1) (record {
      card = l.card;
      geometry = l.geometry;
      terminals = l.terminals;
      point = l.point;
      charges = l.charges;
      disc = l.disc;
      stage = ap scaled_stage l.stage;
    })
scaling_holds none d t (refused n) h l = l
scaling_holds (made m kept) d t (refused n) h l = l

binding_holds : (last : LastEvaluation) (d : Mosfet1) (drain gate source bulk : NodeId) (first : ℕ) (a : Outcome Mosfet1) → binding_of d drain gate source bulk first ≡ a → HoldsLast last d → HoldsLast last (device_left d (setup_answer a))
unfolding device_left
binding_holds none d drain gate source bulk first (done e) h l =
    ap (λ (z : Mosfet1). before z.stage Stages.Evaluated) (binding_done d drain gate source bulk first e h).1
binding_holds (made m kept) d drain gate source bulk first (done e) h l =
    absurd (no_binding d.stage l.stage (binding_done d drain gate source bulk first e h).0.1.0)
binding_holds none d drain gate source bulk first (refused n) h l = l
binding_holds (made m kept) d drain gate source bulk first (refused n) h l = l

evaluated : (d : Mosfet1) (x : List Float) (transient : Bool) (k : Conditions) → HoldsEvaluation (evaluation_on d x transient k) (evaluated_kept (evaluation_on d x transient k)) (evaluated_of d (voltages_of x d.terminals) transient k).device
unfolding evaluation_on voltages_at answer_at point_at charges_at evaluated_kept keeping evaluated_of evaluated_from_of evaluated_point_of operating_point_of
evaluated d x transient k =
    record { card = refl; geometry = refl; terminals = refl; point = refl; charges = refl; disc = refl; stage = refl }

evaluated_holds : (last : LastEvaluation) (d : Mosfet1) (x : List Float) (transient : Bool) (k : Conditions) → HoldsLast (evaluated_last last (evaluation_on d x transient k)) (evaluated_of d (voltages_of x d.terminals) transient k).device
unfolding evaluated_last
evaluated_holds last d x transient k = evaluated d x transient k

-- a call whose accepted answer leaves a device, and a refused one
evaluation_holds : (last new : LastEvaluation) (d : Mosfet1) (a : Outcome Evaluated) → ((e : Evaluated) → a ≡ done e → HoldsLast new e.device) → HoldsLast last d → HoldsLast (cond (is_done (evaluation_answer a)) new last) (device_left d (evaluation_answer a))
unfolding is_done device_left
evaluation_holds last new d (done e) m l = m e refl
evaluation_holds last new d (refused n) m l = l

committed_holds : (last : LastEvaluation) (d : Mosfet1) (v : Voltages) → HoldsLast last d → HoldsLast (committed_last last d v) (committed_of d v)
unfolding committed_last committed_kept keeping committed_of committed_point_of
committed_holds none d v l = l
committed_holds (made m kept) d v l =
    record {
      card = l.card;
      geometry = l.geometry;
      terminals = l.terminals;
      point = ap (λ (p : OperatingPoint). committed_point_of p d.card.polarity v) l.point;
      charges = l.charges;
      disc = l.disc;
      stage = l.stage;
    }

commit_holds : (last new : LastEvaluation) (d : Mosfet1) (a : Outcome Mosfet1) → ((e : Mosfet1) → a ≡ done e → HoldsLast new e) → HoldsLast last d → HoldsLast (cond (is_done (commit_answer a)) new last) (device_left d (commit_answer a))
unfolding is_done device_left
commit_holds last new d (done e) m l = m e refl
commit_holds last new d (refused n) m l = l

noted_holds : (c : Call) (last : LastEvaluation) (d : Mosfet1) → HoldsLast last d → HoldsLast (noted last c d) (after c d)
unfolding noted accepted after answer device_left
noted_holds (geometry bytes offsets lengths values list) last d l =
    geometry_holds last d bytes offsets lengths values (length list) (geometry_list_of d bytes offsets lengths values list) _ refl l
noted_holds (scaling t) last d l = scaling_holds last d t _ refl l
noted_holds (binding drain gate source bulk first) last d l = binding_holds last d drain gate source bulk first _ refl l
noted_holds (evaluation x transient k) last d l =
    let new = evaluated_last last (evaluation_on d x transient k) in
    evaluation_holds last new d (eval_of d x transient k)
    (λ e h. subst (λ (z : Evaluated). HoldsLast new z.device) (sym (evaluation_done d x transient k e h)) (evaluated_holds last d x transient k)) l
noted_holds (loading kind P rhs values) last d l = l
noted_holds (commit x) last d l =
    let new = committed_last last d (voltages_of x d.terminals) in
    commit_holds last new d (commit_of d x) (λ e h. subst (HoldsLast new) (sym (commit_done d x e h)) (committed_holds last d (voltages_of x d.terminals) l)) l
noted_holds (noise t freq) last d l = l
noted_holds reactances last d l = l

-- ---- a list

holds_from : (calls : List Call) (last : LastEvaluation) (d : Mosfet1) → HoldsLast last d → HoldsLast (last_from last calls d) (run calls d)
unfolding last_from run
holds_from [] last d l = l
holds_from (c ∷ calls) last d l = holds_from calls (noted last c d) (after c d) (noted_holds c last d l)

fresh_holds : {d : Mosfet1} → Fresh d → HoldsLast none d
fresh_holds {d} f =
    ap (λ (e : Mosfet1). before e.stage Stages.Evaluated)
    (card_accepted f.is_pmos f.bytes f.offsets f.lengths f.values f.space _ f.returned).0

-- After every list of calls on a fresh device: what its last accepted evaluation left, or a stage before Evaluated where there is none.
pub device_holds_the_last_evaluation : (calls : List Call) (d : Mosfet1) → Fresh d → HoldsLast (last_evaluation calls d) (run calls d)
unfolding last_evaluation
device_holds_the_last_evaluation calls d f = holds_from calls none d (fresh_holds f)

pub device_holds_the_evaluation : (calls : List Call) (d : Mosfet1) (e : EvaluationMade) (kept : Kept) → Fresh d → last_evaluation calls d ≡ made e kept → HoldsEvaluation e kept (run calls d)
device_holds_the_evaluation calls d e kept f h =
    subst (λ (last : LastEvaluation). HoldsLast last (run calls d)) h (device_holds_the_last_evaluation calls d f)
