use mathlib.Core.Path.{◌≡◌}
use Rattle.entries.specs.Entries.{scan_of}
use Rattle.entries.proofs.Entries.{rest}
use Rattle.entries.proofs.scan_keys.Given as goal

abbrev pub invariant-loop-i : goal.invariant-loop-i
invariant-loop-i l = l.scan ≡ scan_of l.table (rest l.keys.lent.bytes.now l.keys.lent.offsets.now l.keys.lent.lengths.now l.keys.lent.values.now l.i)
