use mathlib.Core.List.{List}
use Prim.Native.Nat.{ℕ}
use native.Mathlib.Omega.{arith}
use borrow.Author.Tests.{lt-ltb, le-ltb}
use lib.ListN.{drop, drop_of_length-le}
use Rattle.device.proofs.Branches.{or_yes, or_no}
use Rattle.key_pairs.specs.Pairs.{pairs_astray}
use Rattle.key_pairs.proofs.Pairs.{pairs_step, past_start, past_end, not_past}
use Rattle.key_pairs.proofs.pairs_astray.Goals as goal
use Rattle.key_pairs.proofs.pairs_astray.Goals.{then-at-last-via-then-at-last, then-at-last-via-else-at-last+then-size-at, then-at-last-via-else-at-last+else-size-at+then-size-at-2}
-- `key_pairs::pairs_astray` meets its contract.
-- Assumes nothing.
use mathlib.Core.Path.{◌∙◌, sym, ap}

pub returns-then-at-last : goal.returns-then-at-last
returns-then-at-last c =
    let here = sym (pairs_step c.args.size c.loop-i.last c.args.offsets.now c.args.lengths.now c.loop-i.i c.loop-i-test.true (omega arith)) ∙ c.loop-i.invariant in
    elim c.then-at-last.branch [
      | then-at-last-via-then-at-last w ↦ or_yes _ (lt-ltb _ _ w.if-at-last.true) ∙ here
      | then-at-last-via-else-at-last+then-size-at w ↦ or_yes _ (past_start _ _ _ w.if-size-at.true) ∙ or_no _ (le-ltb _ _ w.if-at-last.false) ∙ here
      | then-at-last-via-else-at-last+else-size-at+then-size-at-2 w ↦ or_yes _ (past_end _ _ _ w.if-size-at.false w.if-size-at-2.true) ∙ or_no _ (le-ltb _ _ w.if-at-last.false) ∙ here
    ]

pub loop-i-preserved : goal.loop-i-preserved
loop-i-preserved c = or_no _ (not_past _ _ _ c.if-size-at.false c.if-size-at-2.false) ∙ or_no _ (le-ltb _ _ c.if-at-last.false) ∙ sym (pairs_step c.args.size c.loop-i.last c.args.offsets.now c.args.lengths.now c.loop-i.i c.loop-i-test.true (omega arith)) ∙ c.loop-i.invariant

pub returns : goal.returns
unfolding pairs_astray
returns c = sym (ap (λ (os : List ℕ). pairs_astray c.args.size c.loop-i.last os (drop c.loop-i.i c.args.lengths.now)) (drop_of_length-le _ c.loop-i-test.false)) ∙ c.loop-i.invariant
