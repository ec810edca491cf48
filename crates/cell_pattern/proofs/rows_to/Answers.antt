use native.Mathlib.Omega.{arith}
use Rattle.cell_pattern.proofs.Outcomes.{below_width}
use Rattle.cell_pattern.specs.CellPattern.{rows_to}
use Rattle.cell_pattern.proofs.rows_to.Goals as goal

pub overflow_add-result : goal.overflow_add-result
overflow_add-result c = omega (arith, below_width _ _ c.in-At.is c.requires)

pub returns-in-Ground : goal.returns-in-Ground
unfolding rows_to
returns-in-Ground c = rw c.in-Ground.is

pub returns-in-At : goal.returns-in-At
unfolding rows_to
returns-in-At c = rw c.in-At.is
