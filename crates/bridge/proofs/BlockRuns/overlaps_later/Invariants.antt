use Rattle.std.proofs.Common.{◌≡◌, ◌+◌, drop}
use Rattle.bridge.specs.Runs.{any_of, overlap, runs_of}
use Rattle.bridge.proofs.BlockRuns.overlaps_later.Given as goal

abbrev pub invariant-loop-j : goal.invariant-loop-j
invariant-loop-j l = any_of (overlap l.run) (drop (l.k + 1) (runs_of l.self.starts.now l.self.counts.now)) ≡ any_of (overlap l.run) (drop l.j (runs_of l.self.starts.now l.self.counts.now))
