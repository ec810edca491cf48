use mathlib.Core.Path.{subst}
use mathlib.Core.List.{List}
use Prim.Native.Nat.{ℕ}
use Rattle.cells.specs.Cells.{cells_of, Listed}
use Rattle.cells.proofs.Indices.{by_terminals}
use Rattle.cells.proofs.cells.Goals as goal

pub returns : goal.returns
unfolding cells_of
returns c =
    subst (λ (xs : List ℕ). Listed xs c.insert_cells.result.numbers c.insert_cells.result.count)
    (rw (c.columns.ensures, c.rows.ensures) (by_terminals c.args.t.terminals c.args.t.below))
    c.insert_cells.ensures
