use native.Mathlib.Omega.{arith}
use Rattle.bridge.proofs.RisingRuns.{one_fails, one_rises, all_rose}
use Rattle.bridge.proofs.BlockRuns.rising.Goals as goal

pub returns-then-leaves : goal.returns-then-leaves
returns-then-leaves c =
    one_fails c.args.self.starts.now c.args.self.counts.now c.args.rows c.requires.same c.loop-i.i _ (omega arith) c.limit_behind.ensures c.loop-i.invariant _ c.leaves.ensures c.if-leaves.true

pub loop-i-preserved : goal.loop-i-preserved
loop-i-preserved c =
    one_rises c.args.self.starts.now c.args.self.counts.now c.args.rows c.requires.same c.loop-i.i _ (omega arith) c.limit_behind.ensures c.loop-i.invariant _ c.leaves.ensures c.if-leaves.false

pub returns : goal.returns
returns c = all_rose c.args.self.starts.now c.args.self.counts.now c.args.rows c.requires.same c.loop-i.i (omega arith) c.loop-i.invariant
