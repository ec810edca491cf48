-- Calls on a device as values, what each answers, and the device that a list of them leaves.
use Rattle.std.specs.Prelude.{ℕ, Bool, List, [], ◌∷◌, Float, Option, length}
use Rattle.temperature.specs.declared.Kelvin.{Kelvin}
use Rattle.device.specs.Refusals.{Outcome, is_accepted, if_accepted, values_or}
use Rattle.device.specs.declared.Mosfet1.{Mosfet1}
use Rattle.device.specs.declared.NodeId.{NodeId}
use Rattle.entries.specs.declared.Keyed.{Keyed}
use Rattle.geometry.specs.Geometry.{geometry_of, geometry_list_of}
use Rattle.setup.specs.Scaling.{scaling_of}
use Rattle.setup.specs.Binding.{binding_of}
use Rattle.mosfet1.specs.declared.steps.Conditions.{Conditions}
use Rattle.mosfet1.specs.declared.steps.Evaluated.{Evaluated}
use Rattle.model.specs.Calls.{eval_of, commit_of}
use Rattle.model.specs.SmallSignal.{noise_of, reactances_of}
use Rattle.model.specs.declared.small_signal.NoiseSource.{NoiseSource}
use Rattle.model.specs.declared.small_signal.Reactances.{Reactances}
use Rattle.assembly.specs.Assembly.{Pattern, add_cells, add_sources}
use Rattle.loading.specs.Loading.{load_of, if_done, jacobian_contributions, rhs_contributions}
use Rattle.loading.specs.declared.LoadKind.{LoadKind}

-- A call with its arguments; a lent slice is the list that it holds at entry. `list` is the lent list of unknown keys' places.
pub data Call : Type 0 where
  geometry : (bytes offsets lengths : List ℕ) (values : List Float) (list : List ℕ) → Call
  scaling : (t : Kelvin) → Call
  binding : (drain gate source bulk : NodeId) (first : ℕ) → Call
  evaluation : (x : List Float) (transient : Bool) (k : Conditions) → Call
  loading : (kind : LoadKind) (P : Pattern) (rhs values : List Float) → Call
  commit : (x : List Float) → Call
  noise : (t : Kelvin) (freq : Float) → Call
  reactances : Call

-- What a call answers, with what the slices that it may write hold at exit.
pub data Answer : Type 0 where
  geometry_answer : Outcome Keyed → (list : List ℕ) → Answer
  setup_answer : Outcome Mosfet1 → Answer
  evaluation_answer : Outcome Evaluated → Answer
  loading_answer : Outcome Unit → (rhs values : List Float) → Answer
  commit_answer : Outcome Mosfet1 → Answer
  noise_answer : Outcome (Option NoiseSource) → Answer
  reactances_answer : Outcome Reactances → Answer

-- the definitions that the calls' contracts cite
unfoldable pub answer : Call → Mosfet1 → Answer
answer (geometry bytes offsets lengths values list) d =
    geometry_answer (geometry_of d bytes offsets lengths values (length list)) (geometry_list_of d bytes offsets lengths values list)
answer (scaling t) d = setup_answer (scaling_of d t)
answer (binding drain gate source bulk first) d = setup_answer (binding_of d drain gate source bulk first)
answer (evaluation x transient k) d = evaluation_answer (eval_of d x transient k)
answer (loading kind P rhs values) d =
    let r = load_of d kind P rhs values in
    loading_answer r (if_done r (add_sources (rhs_contributions d kind) rhs) rhs) (if_done r (add_cells P (jacobian_contributions d kind) values) values)
answer (commit x) d = commit_answer (commit_of d x)
answer (noise t freq) d = noise_answer (noise_of d t freq)
answer reactances d = reactances_answer (reactances_of d)

-- whether an answer is no refusal
unfoldable pub is_done : Answer → Bool
is_done (geometry_answer r list) = is_accepted r
is_done (setup_answer r) = is_accepted r
is_done (evaluation_answer r) = is_accepted r
is_done (loading_answer r rhs values) = is_accepted r
is_done (commit_answer r) = is_accepted r
is_done (noise_answer r) = is_accepted r
is_done (reactances_answer r) = is_accepted r

-- the device that an answer leaves: a refusal leaves it, and so do loading, noise and reactances always
unfoldable pub device_left : Mosfet1 → Answer → Mosfet1
device_left d (geometry_answer r list) = if_accepted (λ (k : Keyed). k.device) d r
device_left d (setup_answer r) = values_or d r
device_left d (evaluation_answer r) = if_accepted (λ (e : Evaluated). e.device) d r
device_left d (loading_answer r rhs values) = d
device_left d (commit_answer r) = values_or d r
device_left d (noise_answer r) = d
device_left d (reactances_answer r) = d

unfoldable pub accepted : Call → Mosfet1 → Bool
accepted c d = is_done (answer c d)

unfoldable pub after : Call → Mosfet1 → Mosfet1
after c d = device_left d (answer c d)

-- each call is given the device that the last one left
unfoldable pub run : List Call → Mosfet1 → Mosfet1
run [] d = d
run (c ∷ calls) d = run calls (after c d)
