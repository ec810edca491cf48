-- The outcome of a call by the number of the row that refuses it, 0 where none does.
use mathlib.Core.Path.{◌≡◌}
use mathlib.Core.Bool.{Bool, cond}
use mathlib.Core.List.{List}
use lib.Dec.{eqb}
use lib.Ieee.{Float}
use Rattle.temperature.specs.declared.Kelvin.{Kelvin}
use Rattle.device.specs.Refusals.{done, refused}
use Rattle.device.specs.declared.Mosfet1.{Mosfet1}
use Rattle.device.proofs.Rows.{by_number}
use Rattle.mosfet1.specs.Steps.{evaluated_of, committed_of}
use Rattle.mosfet1.specs.declared.steps.Conditions.{Conditions}
use Rattle.rows.specs.Rows.{voltages_of, eval_rows, commit_rows, noise_rows, eval_row_of, commit_row_of, noise_row_of}
use Rattle.model.specs.Calls.{eval_of, commit_of}
use Rattle.model.specs.SmallSignal.{density_of, source_of, noise_of}

pub eval_by_row : (d : Mosfet1) (x : List Float) (transient : Bool) (k : Conditions) → eval_of d x transient k ≡ cond (eqb (eval_row_of d.stage d.terminals x k.temperature k.gmin k.method) 0) (done (evaluated_of d (voltages_of x d.terminals) transient k)) (refused (eval_row_of d.stage d.terminals x k.temperature k.gmin k.method))
unfolding eval_of eval_row_of
eval_by_row d x transient k = by_number (eval_rows d.stage d.terminals x k.temperature k.gmin k.method) refused _ tt

pub commit_by_row : (d : Mosfet1) (x : List Float) → commit_of d x ≡ cond (eqb (commit_row_of d.stage d.terminals x) 0) (done (committed_of d (voltages_of x d.terminals))) (refused (commit_row_of d.stage d.terminals x))
unfolding commit_of commit_row_of
commit_by_row d x = by_number (commit_rows d.stage d.terminals x) refused _ tt

pub noise_by_row : (d : Mosfet1) (t : Kelvin) (freq : Float) → noise_of d t freq ≡ cond (eqb (noise_row_of d.stage t) 0) (done (source_of d.terminals (density_of d t freq))) (refused (noise_row_of d.stage t))
unfolding noise_of noise_row_of
noise_by_row d t freq = by_number (noise_rows d.stage t) refused _ tt
