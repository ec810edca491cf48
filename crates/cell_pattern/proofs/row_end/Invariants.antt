use Prim.Native.Nat.{suc, ◌≤◌}
use Rattle.cell_pattern.specs.Steps.{count_before}
use Rattle.cell_pattern.proofs.row_end.Given as goal

abbrev pub invariant-loop-i : goal.invariant-loop-i
invariant-loop-i l = l.i ≤ count_before (suc l.row) l.cells
