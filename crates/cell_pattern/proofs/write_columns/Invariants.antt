use mathlib.Core.Path.{◌≡◌}
use mathlib.Core.List.{◌++◌}
use Prim.Native.Nat.{◌≤◌}
use lib.ListN.{length, take, drop}
use Rattle.cell_pattern.specs.CellPattern.{columns_in}
use Rattle.cell_pattern.proofs.write_columns.Given as goal

abbrev pub invariant-loop-i : goal.invariant-loop-i
invariant-loop-i l =
    (l.i ≤ length l.cells) × ((length l.cells ≤ length l.initial.columns) × ((length l.columns ≡ length l.initial.columns) × (l.columns ≡ take l.i (columns_in l.cells) ++ drop l.i l.initial.columns)))
