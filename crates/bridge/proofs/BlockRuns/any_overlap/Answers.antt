use native.Mathlib.Omega.{arith}
use Rattle.std.proofs.Common.{sym, ◌∙◌}
use Rattle.bridge.proofs.Runs.{pair_here, pair_later, pair_end}
use Rattle.bridge.proofs.BlockRuns.any_overlap.Goals as goal

pub returns-then-overlaps_later : goal.returns-then-overlaps_later
returns-then-overlaps_later c =
    pair_here c.args.self.starts.now c.args.self.counts.now c.requires.same c.loop-k.k (omega arith) _ c.overlaps_later.ensures c.if-overlaps_later.true ∙ sym c.loop-k.invariant

pub loop-k-preserved : goal.loop-k-preserved
loop-k-preserved c =
    c.loop-k.invariant ∙ pair_later c.args.self.starts.now c.args.self.counts.now c.requires.same c.loop-k.k (omega arith) _ c.overlaps_later.ensures c.if-overlaps_later.false

pub returns : goal.returns
returns c = pair_end c.args.self.starts.now c.args.self.counts.now c.requires.same c.loop-k.k (omega arith) ∙ sym c.loop-k.invariant
