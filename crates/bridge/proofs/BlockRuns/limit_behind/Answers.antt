use native.Mathlib.Omega.{arith}
use Prim.Native.Nat.{◌+◌}
use Rattle.bridge.proofs.RisingRuns.{limit_next, limit_last}
use Rattle.bridge.proofs.BlockRuns.limit_behind.Goals as goal

pub returns-then-i-self : goal.returns-then-i-self
returns-then-i-self c = limit_next c.args.self.starts.now c.args.self.counts.now c.args.rows c.requires.same (c.args.i + 1) (omega arith)

pub returns-else-i-self : goal.returns-else-i-self
returns-else-i-self c = limit_last c.args.self.starts.now c.args.self.counts.now c.args.rows c.requires.same (c.args.i + 1) (omega arith)
