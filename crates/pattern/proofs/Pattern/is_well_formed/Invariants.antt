use Rattle.std.proofs.Common.{◌≡◌, ◌≤◌, length, drop}
use Rattle.pattern.specs.Pattern.{well_formed, pairs_fit}
use Rattle.pattern.proofs.Pattern.is_well_formed.Given as goal

abbrev pub invariant-loop-i : goal.invariant-loop-i
invariant-loop-i l =
    (l.i ≤ length l.offsets)
    × ((length l.offsets ≡ length l.lengths)
    × (well_formed l.columns l.offsets l.lengths l.values ≡ pairs_fit l.columns l.end (drop l.i l.offsets) (drop l.i l.lengths)))
