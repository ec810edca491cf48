use mathlib.Core.Path.{◌≡◌}
use mathlib.Core.List.{[]}
use Prim.Native.Nat.{◌≤◌}
use lib.ListN.{length, take, drop, replicate}
use Rattle.cells.specs.Steps.{carry_cells_of}
use Rattle.cells.proofs.insert_cells.Given as goal

abbrev pub invariant-loop-i : goal.invariant-loop-i
invariant-loop-i l =
    (l.i ≤ 44) × ((length l.list.numbers ≡ 44) × ((l.list.count ≤ l.i) × ((drop l.list.count l.list.numbers ≡ drop l.list.count (replicate 44 1)) × (carry_cells_of (drop l.i l.rows) (drop l.i l.columns) (take l.list.count l.list.numbers) ≡ carry_cells_of l.rows l.columns []))))
