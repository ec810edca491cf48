use mathlib.Core.Path.{◌≡◌}
use Rattle.entries.specs.Entries.{settings_of}
use Rattle.entries.proofs.Entries.{rest}
use Rattle.entries.proofs.read.Given as goal

-- the keys that are left set what all of them do
abbrev pub invariant-loop-i : goal.invariant-loop-i
invariant-loop-i g l =
    let rest_at = rest l.keys.lent.bytes.now l.keys.lent.offsets.now l.keys.lent.lengths.now l.keys.lent.values.now in
    settings_of g.S.Settings.with_key l.table l.settings (rest_at l.i) ≡ settings_of g.S.Settings.with_key l.table l.initial.settings (rest_at 0)
