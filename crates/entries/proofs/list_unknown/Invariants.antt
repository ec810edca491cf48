use mathlib.Core.Path.{◌≡◌}
use Prim.Native.Nat.{◌+◌, ◌≤◌}
use lib.ListN.{length}
use lib.Seq.{sets}
use Rattle.entries.specs.Entries.{unknown_from, unknown_count}
use Rattle.entries.proofs.Entries.{rest}
use Rattle.entries.proofs.list_unknown.Given as goal

abbrev pub invariant-loop-i : goal.invariant-loop-i
invariant-loop-i l =
    let rest_at = rest l.keys.lent.bytes.now l.keys.lent.offsets.now l.keys.lent.lengths.now l.keys.lent.values.now in
    (l.k + unknown_count l.table (rest_at l.i) ≤ length l.list)
    × (sets l.list l.k (unknown_from l.table l.i (rest_at l.i)) ≡ sets l.initial.list 0 (unknown_from l.table 0 (rest_at 0)))
