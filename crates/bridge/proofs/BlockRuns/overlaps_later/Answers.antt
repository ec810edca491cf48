use native.Mathlib.Omega.{arith}
use Rattle.std.proofs.Common.{refl, sym, ◌+◌, ◌∙◌, drop}
use Rattle.bridge.specs.Runs.{overlap, runs_of}
use Rattle.bridge.specs.Steps.{run_of}
use Rattle.bridge.proofs.Runs.{empty_shares_none, run_here, run_later, run_end}
use Rattle.bridge.proofs.BlockRuns.overlaps_later.Goals.{else-not-apart-via-then-not-apart+else-pair_overlaps, else-not-apart-via-else-not-apart}
use Rattle.bridge.proofs.BlockRuns.overlaps_later.Goals as goal

pub returns-then-run-eq0 : goal.returns-then-run-eq0
returns-then-run-eq0 c =
    sym (empty_shares_none (run_of c.args.self.starts.now c.args.self.counts.now c.args.k) c.if-run-eq0.true (drop (c.args.k + 1) (runs_of c.args.self.starts.now c.args.self.counts.now)))

pub returns-then-pair_overlaps : goal.returns-then-pair_overlaps
returns-then-pair_overlaps c =
    run_here (overlap (run_of c.args.self.starts.now c.args.self.counts.now c.args.k)) c.args.self.starts.now c.args.self.counts.now c.requires.same c.loop-j.j (omega arith) _ c.pair_overlaps.ensures c.if-pair_overlaps.true
    ∙ sym c.loop-j.invariant

pub loop-j-init : goal.loop-j-init
loop-j-init c = refl

pub loop-j-preserved : goal.loop-j-preserved
loop-j-preserved c = c.loop-j.invariant ∙ elim c.else-not-apart.branch [
  | else-not-apart-via-then-not-apart+else-pair_overlaps w ↦
      run_later (overlap (run_of c.args.self.starts.now c.args.self.counts.now c.args.k)) c.args.self.starts.now c.args.self.counts.now c.requires.same c.loop-j.j (omega arith) _ w.pair_overlaps.ensures w.if-pair_overlaps.false
  | else-not-apart-via-else-not-apart w ↦
      run_later (overlap (run_of c.args.self.starts.now c.args.self.counts.now c.args.k)) c.args.self.starts.now c.args.self.counts.now c.requires.same c.loop-j.j (omega arith) _ refl (c.apart.ensures w.if-not-apart.false)
]

pub returns : goal.returns
returns c =
    run_end (overlap (run_of c.args.self.starts.now c.args.self.counts.now c.args.k)) c.args.self.starts.now c.args.self.counts.now c.requires.same c.loop-j.j (omega arith)
    ∙ sym c.loop-j.invariant
