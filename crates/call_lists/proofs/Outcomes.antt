-- What an accepted call leaves, and that a refused one leaves the device as it was.
use Prim.Native.Nat.{ℕ}
use mathlib.Core.Path.{◌≡◌, refl, sym, ap}
use mathlib.Core.Bool.{Bool, false, false≢true}
use mathlib.Core.List.{List}
use lib.Ieee.{Float}
use Rattle.temperature.specs.declared.Kelvin.{Kelvin}
use Rattle.device.specs.Refusals.{done, refused}
use Rattle.device.specs.declared.Mosfet1.{Mosfet1}
use Rattle.device.specs.declared.NodeId.{NodeId}
use Rattle.device.proofs.Rows.{NoneOf, passed, none_applies, number_0}
use Rattle.entries.specs.declared.Keyed.{Keyed}
use Rattle.geometry.specs.Geometry.{geometry_of, geometry_rows, sized_to, sizes_given}
use Rattle.setup.specs.Scaling.{scaling_of, scaling_rows, scaled_at, scaled_to}
use Rattle.setup.specs.Binding.{binding_of, binding_rows, bound_to, bound_terminals}
use Rattle.mosfet1.specs.Steps.{evaluated_of, committed_of}
use Rattle.mosfet1.specs.declared.steps.Conditions.{Conditions}
use Rattle.mosfet1.specs.declared.steps.Evaluated.{Evaluated}
use Rattle.model.specs.Calls.{eval_of, commit_of}
use Rattle.rows.specs.Rows.{voltages_of, eval_rows, commit_rows, eval_row_of}
use Rattle.loading.specs.declared.LoadKind.{LoadKind}
use Rattle.assembly.specs.Assembly.{Pattern}
use Rattle.call_lists.specs.Calls.{Call, loading, noise, reactances, Answer, geometry_answer, setup_answer, evaluation_answer, loading_answer, commit_answer, noise_answer, reactances_answer, answer, is_done, device_left, accepted, after}

-- ---- refused calls

left_unchanged : (d : Mosfet1) (a : Answer) → is_done a ≡ false → device_left d a ≡ d
unfolding is_done device_left
left_unchanged d (geometry_answer (done k) list) h = absurd (false≢true (sym h))
left_unchanged d (geometry_answer (refused n) list) h = refl
left_unchanged d (setup_answer (done e)) h = absurd (false≢true (sym h))
left_unchanged d (setup_answer (refused n)) h = refl
left_unchanged d (evaluation_answer (done e)) h = absurd (false≢true (sym h))
left_unchanged d (evaluation_answer (refused n)) h = refl
left_unchanged d (loading_answer r rhs values) h = refl
left_unchanged d (commit_answer (done e)) h = absurd (false≢true (sym h))
left_unchanged d (commit_answer (refused n)) h = refl
left_unchanged d (noise_answer r) h = refl
left_unchanged d (reactances_answer r) h = refl

pub refused_call_leaves_the_device : (c : Call) (d : Mosfet1) → accepted c d ≡ false → after c d ≡ d
unfolding accepted after
refused_call_leaves_the_device c d h = left_unchanged d (answer c d) h

pub loading_leaves_the_device : (kind : LoadKind) (P : Pattern) (rhs values : List Float) (d : Mosfet1) → after (loading kind P rhs values) d ≡ d
unfolding after answer device_left
loading_leaves_the_device kind P rhs values d = refl

pub noise_leaves_the_device : (t : Kelvin) (freq : Float) (d : Mosfet1) → after (noise t freq) d ≡ d
unfolding after answer device_left
noise_leaves_the_device t freq d = refl

pub reactances_leave_the_device : (d : Mosfet1) → after reactances d ≡ d
unfolding after answer device_left
reactances_leave_the_device d = refl

-- ---- a call with a list of rows

-- what an accepted call answers: no row applies, and the device is the definition's
pub geometry_done : (d : Mosfet1) (bytes offsets lengths : List ℕ) (values : List Float) (space : ℕ) (k : Keyed) → geometry_of d bytes offsets lengths values space ≡ done k → NoneOf (geometry_rows d bytes offsets lengths values space) × (k.device ≡ sized_to d (sizes_given d bytes offsets lengths values))
unfolding geometry_of
geometry_done d bytes offsets lengths values space k h =
    let r = passed (geometry_rows d bytes offsets lengths values space) h in (r.0, ap (λ (z : Keyed). z.device) r.1)

pub scaling_done : (d : Mosfet1) (t : Kelvin) (e : Mosfet1) → scaling_of d t ≡ done e → NoneOf (scaling_rows d t) × (e ≡ scaled_to d (scaled_at d.card t))
unfolding scaling_of
scaling_done d t e h = passed (scaling_rows d t) h

pub binding_done : (d : Mosfet1) (drain gate source bulk : NodeId) (first : ℕ) (e : Mosfet1) → binding_of d drain gate source bulk first ≡ done e → NoneOf (binding_rows d (bound_terminals d drain gate source bulk first)) × (e ≡ bound_to d (bound_terminals d drain gate source bulk first))
unfolding binding_of
binding_done d drain gate source bulk first e h = passed (binding_rows d (bound_terminals d drain gate source bulk first)) h

pub evaluation_done : (d : Mosfet1) (x : List Float) (transient : Bool) (k : Conditions) (e : Evaluated) → eval_of d x transient k ≡ done e → e ≡ evaluated_of d (voltages_of x d.terminals) transient k
unfolding eval_of
evaluation_done d x transient k e h = (passed (eval_rows d.stage d.terminals x k.temperature k.gmin k.method) h).1

pub commit_done : (d : Mosfet1) (x : List Float) (e : Mosfet1) → commit_of d x ≡ done e → e ≡ committed_of d (voltages_of x d.terminals)
unfolding commit_of
commit_done d x e h = (passed (commit_rows d.stage d.terminals x) h).1

-- ---- an evaluation, by its row

-- the row of an evaluation on d
abbrev pub row_at : Mosfet1 → List Float → Conditions → ℕ
row_at d x k = eval_row_of d.stage d.terminals x k.temperature k.gmin k.method

-- an evaluation to which no row applies answers as the Level-1 definition
pub evaluation_by_row : (d : Mosfet1) (x : List Float) (transient : Bool) (k : Conditions) → row_at d x k ≡ 0 → eval_of d x transient k ≡ done (evaluated_of d (voltages_of x d.terminals) transient k)
unfolding eval_of eval_row_of
evaluation_by_row d x transient k h =
    let rows = eval_rows d.stage d.terminals x k.temperature k.gmin k.method in
    none_applies rows refused (done (evaluated_of d (voltages_of x d.terminals) transient k)) (number_0 rows tt h)
