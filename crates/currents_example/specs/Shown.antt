-- What an example of demand 3 has to show: that the claim's premises can all be met at once.
use Rattle.std.specs.Prelude.{◌≡◌, List, Float}
use Rattle.device.specs.declared.Mosfet1.{Mosfet1}
use Rattle.bias.specs.declared.Kept.{Kept}
use Rattle.assembly.specs.Assembly.{Pattern}
use Rattle.loading.specs.Loading.{Loaded}
use Rattle.loading.specs.declared.LoadKind.{LoadKind}
use Rattle.device.specs.Refusals.{done}
use Rattle.call_lists.specs.Calls.{Call, run}
use Rattle.call_lists.specs.F64.{Every, IsF64, Fresh}
use Rattle.call_lists.specs.LastEvaluation.{EvaluationMade, made, last_evaluation}
use Rattle.currents.specs.Currents.{Premises}

-- a list on a fresh device whose load is accepted, with the last accepted evaluation and what both slices hold afterwards
pub record MeetsAll (calls : List Call) (d : Mosfet1) (e : EvaluationMade) (kept : Kept) (kind : LoadKind) (P : Pattern) (rhs values rhs' values' : List Float) : Type 0 where
  pub fresh : Fresh d
  pub f64 : Every IsF64 calls
  pub evaluated : last_evaluation calls d ≡ made e kept
  pub premises : Premises calls d e kind
  pub loaded : Loaded (run calls d) kind P rhs values (done tt) rhs' values'
