-- Induction over lists of calls: what every accepted call keeps holds of the device that a list leaves, and of the device on which its
-- last accepted evaluation was made.
use Prim.Native.Nat.{ℕ}
use mathlib.Core.Path.{◌≡◌, refl, sym, subst}
use mathlib.Core.Bool.{Bool}
use mathlib.Core.List.{List, [], ◌∷◌, ◌++◌}
use lib.Ieee.{Float}
use lib.ListN.{length}
use Rattle.temperature.specs.declared.Kelvin.{Kelvin}
use Rattle.device.specs.Refusals.{Outcome, done, refused}
use Rattle.device.specs.declared.Mosfet1.{Mosfet1}
use Rattle.device.specs.declared.NodeId.{NodeId}
use Rattle.entries.specs.declared.Keyed.{Keyed}
use Rattle.geometry.specs.Geometry.{geometry_of, geometry_list_of}
use Rattle.setup.specs.Scaling.{scaling_of}
use Rattle.setup.specs.Binding.{binding_of}
use Rattle.bias.specs.declared.Kept.{Kept}
use Rattle.mosfet1.specs.declared.steps.Conditions.{Conditions}
use Rattle.mosfet1.specs.declared.steps.Evaluated.{Evaluated}
use Rattle.model.specs.Calls.{eval_of, commit_of}
use Rattle.call_lists.specs.Calls.{Call, geometry, scaling, binding, evaluation, loading, commit, noise, reactances, geometry_answer, setup_answer, evaluation_answer, commit_answer, answer, device_left, after, run}
use Rattle.call_lists.specs.F64.{Every, none, next, F64, IsF64}
use Rattle.call_lists.specs.LastEvaluation.{EvaluationMade, made, last_evaluation}
use Rattle.call_lists.proofs.Prefix.{last_evaluation_stands}

-- ---- a property of devices that each accepted call keeps

pub record Keeps (P : Mosfet1 → Type 0) : Type 0 where
  pub sized : (d : Mosfet1) (bytes offsets lengths : List ℕ) (values : List Float) (space : ℕ) (k : Keyed) → Every F64 values → geometry_of d bytes offsets lengths values space ≡ done k → P d → P k.device
  pub scaled : (d : Mosfet1) (t : Kelvin) (e : Mosfet1) → F64 t.0 → scaling_of d t ≡ done e → P d → P e
  pub bound : (d : Mosfet1) (drain gate source bulk : NodeId) (first : ℕ) (e : Mosfet1) → binding_of d drain gate source bulk first ≡ done e → P d → P e
  pub evaluated : (d : Mosfet1) (x : List Float) (transient : Bool) (k : Conditions) (e : Evaluated) → IsF64 (evaluation x transient k) → eval_of d x transient k ≡ done e → P d → P e.device
  pub committed : (d : Mosfet1) (x : List Float) (e : Mosfet1) → Every F64 x → commit_of d x ≡ done e → P d → P e

pub geometry_keeps : (P : Mosfet1 → Type 0) (d : Mosfet1) (list : List ℕ) (a : Outcome Keyed) → ((k : Keyed) → a ≡ done k → P k.device) → P d → P (device_left d (geometry_answer a list))
unfolding device_left
geometry_keeps P d list (done k) kept p = kept k refl
geometry_keeps P d list (refused n) kept p = p

pub setup_keeps : (P : Mosfet1 → Type 0) (d : Mosfet1) (a : Outcome Mosfet1) → ((e : Mosfet1) → a ≡ done e → P e) → P d → P (device_left d (setup_answer a))
unfolding device_left
setup_keeps P d (done e) kept p = kept e refl
setup_keeps P d (refused n) kept p = p

pub evaluation_keeps : (P : Mosfet1 → Type 0) (d : Mosfet1) (a : Outcome Evaluated) → ((e : Evaluated) → a ≡ done e → P e.device) → P d → P (device_left d (evaluation_answer a))
unfolding device_left
evaluation_keeps P d (done e) kept p = kept e refl
evaluation_keeps P d (refused n) kept p = p

pub commit_keeps : (P : Mosfet1 → Type 0) (d : Mosfet1) (a : Outcome Mosfet1) → ((e : Mosfet1) → a ≡ done e → P e) → P d → P (device_left d (commit_answer a))
unfolding device_left
commit_keeps P d (done e) kept p = kept e refl
commit_keeps P d (refused n) kept p = p

-- every call keeps it, accepted or refused
pub call_keeps : {P : Mosfet1 → Type 0} → Keeps P → (c : Call) (d : Mosfet1) → IsF64 c → P d → P (after c d)
unfolding after answer device_left
call_keeps {P} keeps (geometry bytes offsets lengths values list) d f p =
    geometry_keeps P d (geometry_list_of d bytes offsets lengths values list) (geometry_of d bytes offsets lengths values (length list))
    (λ k h. keeps.sized d bytes offsets lengths values (length list) k f h p) p
call_keeps {P} keeps (scaling t) d f p = setup_keeps P d (scaling_of d t) (λ e h. keeps.scaled d t e f h p) p
call_keeps {P} keeps (binding drain gate source bulk first) d f p =
    setup_keeps P d (binding_of d drain gate source bulk first) (λ e h. keeps.bound d drain gate source bulk first e h p) p
call_keeps {P} keeps (evaluation x transient k) d f p =
    evaluation_keeps P d (eval_of d x transient k) (λ e h. keeps.evaluated d x transient k e f h p) p
call_keeps keeps (loading kind pattern rhs values) d f p = p
call_keeps {P} keeps (commit x) d f p = commit_keeps P d (commit_of d x) (λ e h. keeps.committed d x e f h p) p
call_keeps keeps (noise t freq) d f p = p
call_keeps keeps reactances d f p = p

-- ---- a list

-- what every call keeps, a list keeps
pub run_keeps : (P : Mosfet1 → Type 0) → ((c : Call) (d : Mosfet1) → IsF64 c → P d → P (after c d)) → (calls : List Call) (d : Mosfet1) → Every IsF64 calls → P d → P (run calls d)
unfolding run
run_keeps P step [] d none p = p
run_keeps P step (c ∷ calls) d (next f fs) p = run_keeps P step calls (after c d) fs (step c d f p)

-- What every accepted call keeps holds of the device that a list leaves.
pub list_keeps : {P : Mosfet1 → Type 0} → Keeps P → (calls : List Call) (d : Mosfet1) → Every IsF64 calls → P d → P (run calls d)
list_keeps {P} keeps calls d fs p = run_keeps P (λ c e f q. call_keeps keeps c e f q) calls d fs p

every_before : {A : Type 0} (P : A → Type 0) (xs : List A) (y : A) (ys : List A) → Every P (xs ++ (y ∷ ys)) → Every P xs × P y
every_before P [] y ys (next p ps) = (none, p)
every_before P (x ∷ xs) y ys (next p ps) =
    let r = every_before P xs y ys ps in
    (next p r.0, r.1)

-- It holds of the device on which the last accepted evaluation was made, and that evaluation's arguments are f64s.
pub last_evaluation_keeps : {P : Mosfet1 → Type 0} → Keeps P → (calls : List Call) (d : Mosfet1) (e : EvaluationMade) (kept : Kept) → Every IsF64 calls → P d → last_evaluation calls d ≡ made e kept → P e.device × IsF64 (evaluation e.x e.transient e.conditions)
last_evaluation_keeps {P} keeps calls d e kept fs p h =
    let s = last_evaluation_stands calls d e kept h in
    let r = every_before IsF64 s.prefix _ s.rest (subst (Every IsF64) s.stands fs) in
    (subst P (sym s.device) (list_keeps keeps s.prefix d r.0 p), r.1)
