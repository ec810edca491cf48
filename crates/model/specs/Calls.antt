-- Evaluation and commit, from their arguments to the answer.
use Rattle.std.specs.Prelude.{Bool, List, Float}
use Rattle.device.specs.Refusals.{unless, Outcome, done, refused}
use Rattle.device.specs.declared.Mosfet1.{Mosfet1}
use Rattle.mosfet1.specs.Steps.{evaluated_of, committed_of}
use Rattle.mosfet1.specs.declared.steps.Conditions.{Conditions}
use Rattle.mosfet1.specs.declared.steps.Evaluated.{Evaluated}
use Rattle.rows.specs.Rows.{voltages_of, eval_rows, commit_rows}

-- x is the lent list of node voltages
unfoldable pub eval_of : Mosfet1 → List Float → Bool → Conditions → Outcome Evaluated
eval_of d x transient k =
    unless (eval_rows d.stage d.terminals x k.temperature k.gmin k.method) refused
    (done (evaluated_of d (voltages_of x d.terminals) transient k))

unfoldable pub commit_of : Mosfet1 → List Float → Outcome Mosfet1
commit_of d x = unless (commit_rows d.stage d.terminals x) refused (done (committed_of d (voltages_of x d.terminals)))
