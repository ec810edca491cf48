use mathlib.Core.Path.{◌≡◌}
use Prim.Native.Nat.{◌≤◌}
use Rattle.cell_pattern.specs.CellPattern.{lengths_in, running_offsets}
use Rattle.cell_pattern.specs.Steps.{count_before}
use Rattle.cell_pattern.proofs.Counts.{Written}
use Rattle.cell_pattern.proofs.write_rows.Given as goal

abbrev pub invariant-loop-row : goal.invariant-loop-row
invariant-loop-row l =
    (l.row ≤ l.rows) × ((l.at ≡ count_before l.row l.cells) × (Written (running_offsets 0 (lengths_in l.cells 0 l.rows)) l.initial.offsets l.row l.offsets × Written (lengths_in l.cells 0 l.rows) l.initial.lengths l.row l.lengths))
