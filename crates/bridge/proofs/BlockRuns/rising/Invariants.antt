use Rattle.std.proofs.Common.{◌≡◌, drop}
use Rattle.bridge.specs.Runs.{runs_of}
use Rattle.bridge.specs.Steps.{rising}
use Rattle.bridge.proofs.BlockRuns.rising.Given as goal

abbrev pub invariant-loop-i : goal.invariant-loop-i
invariant-loop-i l = rising l.rows (runs_of l.self.starts.now l.self.counts.now) ≡ rising l.rows (drop l.i (runs_of l.self.starts.now l.self.counts.now))
