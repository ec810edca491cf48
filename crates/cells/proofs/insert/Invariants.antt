use mathlib.Core.Path.{◌≡◌}
use Prim.Native.Nat.{◌≤◌, ◌<◌}
use lib.ListN.{length, take, drop}
use Rattle.cells.specs.Steps.{carry_of}
use Rattle.cells.proofs.Insertion.{state}
use Rattle.cells.proofs.insert.Given as goal

abbrev pub invariant-loop-i : goal.invariant-loop-i
invariant-loop-i l =
    (l.i ≤ l.count) × ((l.count < 44) × ((length l.numbers ≡ 44) × ((drop l.count l.numbers ≡ drop l.count l.initial.numbers) × (state l.numbers l.count l.carried l.i ≡ carry_of l.number (take l.count l.initial.numbers)))))
