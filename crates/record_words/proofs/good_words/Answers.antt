use native.Mathlib.Omega.{arith}
use borrow.Author.Tests.{le-leb, lt-leb}
use mathlib.Core.Path.{◌≡◌}
use mathlib.Core.Bool.{◌&&◌}
use Prim.Native.Nat.{ℕ}
use lib.Dec.{leb}
use Rattle.from_record.specs.Tags.{good_tags}
use Rattle.record_words.specs.Words.{record_of}
use Rattle.record_words.proofs.KnownTags.{or_of, known_tags}
use Rattle.record_words.proofs.good_words.Goals as goal
use Rattle.record_words.proofs.good_words.Goals.{then-method-le3, else-method-le3, then-all-le1, else-all-le1}

-- `record_words::good_words`: the OR of the tags that may be 0 or 1, then the method, then the stage.

pub returns-then-stage-ge1 : goal.returns-then-stage-ge1
returns-then-stage-ge1 c =
    rw (
      known_tags c.args.w.now c.whole_at.result c.whole_at-2.result c.terminal_tags-terminals.result c.history_tags-histories.result c.whole_at-method.result c.whole_at-stage.result
          c.whole_at.ensures c.whole_at-2.ensures c.terminal_tags-terminals.ensures c.history_tags-histories.ensures c.whole_at-method.ensures c.whole_at-stage.ensures,
      le-leb (or_of c.whole_at.result c.whole_at-2.result c.terminal_tags-terminals.result c.history_tags-histories.result) 1 (omega (arith, c.if-stage-ge1.true)),
      le-leb c.whole_at-method.result 3 (omega (arith, c.if-stage-ge1.true)),
      le-leb 1 c.whole_at-stage.result (omega (arith, c.if-stage-ge1.true)),
    )

pub returns-else-stage-ge1 : goal.returns-else-stage-ge1
returns-else-stage-ge1 c =
    let all : ℕ = or_of c.whole_at.result c.whole_at-2.result c.terminal_tags-terminals.result c.history_tags-histories.result in
    let e : good_tags (record_of c.args.w.now) ≡ (leb all 1 && leb c.whole_at-method.result 3 && leb 1 c.whole_at-stage.result && leb c.whole_at-stage.result 5) =
    known_tags c.args.w.now c.whole_at.result c.whole_at-2.result c.terminal_tags-terminals.result c.history_tags-histories.result c.whole_at-method.result c.whole_at-stage.result
    c.whole_at.ensures c.whole_at-2.ensures c.terminal_tags-terminals.ensures c.history_tags-histories.ensures c.whole_at-method.ensures c.whole_at-stage.ensures in
    elim c.if-method-le3.branch [
      | then-method-le3 w ↦
          rw (w.t-12-is, e, le-leb all 1 (omega (arith, w.if-method-le3.true)), le-leb c.whole_at-method.result 3 (omega (arith, w.if-method-le3.true)), lt-leb 1 c.whole_at-stage.result (omega (arith, c.if-stage-ge1.either, w.if-method-le3.true)))
      | else-method-le3 w ↦ elim c.if-all-le1.branch [
        | then-all-le1 v ↦ rw (w.t-12-is, v.t-13-is, e, le-leb all 1 v.if-all-le1.true, lt-leb c.whole_at-method.result 3 (omega (arith, w.if-method-le3.either, v.if-all-le1.true)))
        | else-all-le1 v ↦ rw (w.t-12-is, v.t-13-is, e, lt-leb all 1 v.if-all-le1.false)
      ]
    ]
