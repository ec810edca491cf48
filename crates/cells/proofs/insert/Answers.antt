use mathlib.Core.Path.{refl, ◌∙◌}
use Prim.Native.Nat.{◌+◌}
use native.Mathlib.Omega.{arith}
use borrow.Author.Rules.{rules}
use lib.ListN.{length-set}
use lib.Seq.{drop-set-lt}
use Rattle.cells.proofs.Insertion.{met, carry_on, at_end, further, lower_is, higher_is}
use Rattle.cells.proofs.insert.Goals as goal

pub loop-i-init : goal.loop-i-init
loop-i-init c = (omega arith, (omega arith, (search rules, (refl, refl))))

pub returns-then-here-carried : goal.returns-then-here-carried
returns-then-here-carried c =
    record {
      kept = c.loop-i.invariant.1.1.1.0;
      less = omega arith;
      first = met c.loop-i.numbers c.args.list.count c.loop-i.carried c.loop-i.i (omega arith) (omega arith) c.if-here-carried.true ∙ c.loop-i.invariant.1.1.1.1;
      more = omega arith;
    }

pub loop-i-preserved : goal.loop-i-preserved
loop-i-preserved c = (
  omega arith,
  (
    c.loop-i.invariant.1.0,
    (
      length-set c.loop-i.numbers c.loop-i.i c.min.result ∙ c.loop-i.invariant.1.1.0,
      (
        drop-set-lt c.args.list.count c.loop-i.numbers c.loop-i.i c.min.result (omega arith) ∙ c.loop-i.invariant.1.1.1.0,
        carry_on c.loop-i.numbers c.args.list.count c.loop-i.carried c.loop-i.i (omega arith) (omega arith)
            c.min.result c.max-carried.result c.if-here-carried.false (lower_is _ _ _ c.min.ensures) (higher_is _ _ _ c.max-carried.ensures)
            ∙ c.loop-i.invariant.1.1.1.1,
      ),
    ),
  ),
)

pub returns : goal.returns
returns c =
    record {
      kept =
          drop-set-lt (c.args.list.count + 1) c.loop-i.numbers c.args.list.count c.loop-i.carried (omega arith)
          ∙ further c.args.list.count (c.args.list.count + 1) c.loop-i.numbers _ (omega arith) c.loop-i.invariant.1.1.1.0;
      less = omega arith;
      first = at_end c.loop-i.numbers c.args.list.count c.loop-i.carried c.loop-i.i (omega arith) (omega arith) ∙ c.loop-i.invariant.1.1.1.1;
      more = omega arith;
    }
