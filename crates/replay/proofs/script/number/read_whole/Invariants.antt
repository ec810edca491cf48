use Rattle.std.proofs.Common.{◌≡◌, drop}
use Rattle.replay.specs.Number.{whole_after, whole_of}
use Rattle.replay.proofs.script.number.read_whole.Given as goal

abbrev pub invariant-loop-b : goal.invariant-loop-b
invariant-loop-b l = whole_of l.w ≡ whole_after l.n (drop l.b-index l.w)
