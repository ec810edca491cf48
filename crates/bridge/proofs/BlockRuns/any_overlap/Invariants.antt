use Rattle.std.proofs.Common.{◌≡◌, drop}
use Rattle.bridge.specs.Runs.{any_overlap, runs_of}
use Rattle.bridge.proofs.BlockRuns.any_overlap.Given as goal

abbrev pub invariant-loop-k : goal.invariant-loop-k
invariant-loop-k l = any_overlap (runs_of l.self.starts.now l.self.counts.now) ≡ any_overlap (drop l.k (runs_of l.self.starts.now l.self.counts.now))
