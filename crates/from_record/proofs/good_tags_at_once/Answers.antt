use native.Mathlib.Omega.{arith}
use Rattle.from_record.proofs.TagsAtOnce.{or_of, tags_at_once}
use Rattle.from_record.proofs.good_tags_at_once.Goals as goal
use Rattle.from_record.proofs.good_tags_at_once.Goals.{then-all-le1, else-all-le1}
-- `from_record::good_tags_at_once`: by the law of the OR.
use borrow.Author.Tests.{le-leb, lt-leb}

pub returns-then-d-le3 : goal.returns-then-d-le3
returns-then-d-le3 c =
    rw (tags_at_once c.args.d _ _ c.terminal_tags-terminals.ensures c.history_tags-histories.ensures, le-leb (or_of c.args.d c.terminal_tags-terminals.result c.history_tags-histories.result) 1 (omega (arith, c.if-d-le3.true)), le-leb c.args.d.method.tag 3 (omega (arith, c.if-d-le3.true)), c.good_stage.ensures)

pub returns-else-d-le3 : goal.returns-else-d-le3
returns-else-d-le3 c = elim c.if-all-le1.branch [
  | then-all-le1 w ↦ rw (w.t-10-is, tags_at_once c.args.d _ _ c.terminal_tags-terminals.ensures c.history_tags-histories.ensures, le-leb (or_of c.args.d c.terminal_tags-terminals.result c.history_tags-histories.result) 1 w.if-all-le1.true, lt-leb c.args.d.method.tag 3 (omega (arith, c.if-d-le3.either, w.if-all-le1.true)))
  | else-all-le1 w ↦ rw (w.t-10-is, tags_at_once c.args.d _ _ c.terminal_tags-terminals.ensures c.history_tags-histories.ensures, lt-leb (or_of c.args.d c.terminal_tags-terminals.result c.history_tags-histories.result) 1 w.if-all-le1.false)
]
