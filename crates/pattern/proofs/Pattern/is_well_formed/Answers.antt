use Rattle.pattern.specs.Pattern.{well_formed, pairs_fit}
use Rattle.pattern.proofs.Rows.{values_differ, by_pairs, pairs_differ, pairs_back, pairs_past, pairs_unrisen, pairs_more, pairs_end}
use Rattle.pattern.proofs.Pattern.is_well_formed.Goals as goal
use Rattle.pattern.proofs.Pattern.is_well_formed.Goals.{then-values-columns-via-then-values-columns, then-values-columns-via-else-values-columns+then-offsets-lengths, then-offset-end-via-then-offset-end, then-offset-end-via-else-offset-end+then-columns-offset, then-offset-end-via-else-offset-end+else-columns-offset+then-columns-offset-2}
-- `pattern::well_formed`: the pairs that are left fit exactly if all pairs do.
use Rattle.std.proofs.Common.{◌≡◌, false, drop, sym, ◌∙◌, arith, rules}

pub returns-then-values-columns : goal.returns-then-values-columns
returns-then-values-columns c =
    let s = c.args in
    elim c.then-values-columns.branch [ then-values-columns-via-then-values-columns w ↦ sym (values_differ _ _ _ _ w.if-values-columns.true) | then-values-columns-via-else-values-columns+then-offsets-lengths w ↦ sym (by_pairs s.self.columns.now s.self.offsets.now s.self.lengths.now s.values w.if-values-columns.false ∙ pairs_differ _ _ _ _ w.if-offsets-lengths.true) ]

pub loop-i-init : goal.loop-i-init
loop-i-init c = (search rules, (omega arith, by_pairs _ _ _ _ c.if-values-columns.false))

pub bounds-lengths-i : goal.bounds-lengths-i
bounds-lengths-i c = omega arith

pub returns-then-offset-end : goal.returns-then-offset-end
returns-then-offset-end c =
    let unfit : pairs_fit c.args.self.columns.now c.loop-i.end (drop c.loop-i.i c.args.self.offsets.now) (drop c.loop-i.i c.args.self.lengths.now) ≡ false → false ≡ well_formed c.args.self.columns.now c.args.self.offsets.now c.args.self.lengths.now c.args.values = λ e. sym (c.loop-i.invariant.1.1 ∙ e) in
    elim c.then-offset-end.branch [ then-offset-end-via-then-offset-end w ↦ unfit (pairs_back c.args.self.columns.now c.args.self.offsets.now c.args.self.lengths.now c.loop-i.invariant.1.0 c.loop-i.end c.loop-i.i (omega arith) w.if-offset-end.true) | then-offset-end-via-else-offset-end+then-columns-offset w ↦ unfit (pairs_past c.args.self.columns.now c.args.self.offsets.now c.args.self.lengths.now c.loop-i.invariant.1.0 c.loop-i.end c.loop-i.i (omega arith) (omega arith)) | then-offset-end-via-else-offset-end+else-columns-offset+then-columns-offset-2 w ↦ unfit (pairs_past c.args.self.columns.now c.args.self.offsets.now c.args.self.lengths.now c.loop-i.invariant.1.0 c.loop-i.end c.loop-i.i (omega arith) (omega arith)) ]

pub overflow_sub-columns : goal.overflow_sub-columns
overflow_sub-columns c = omega arith

pub overflow_add-end : goal.overflow_add-end
overflow_add-end c = omega arith

pub rises-requires : goal.rises-requires
rises-requires c = (omega arith, omega arith)

pub returns-then-not-rises : goal.returns-then-not-rises
returns-then-not-rises c =
    let unfit : pairs_fit c.args.self.columns.now c.loop-i.end (drop c.loop-i.i c.args.self.offsets.now) (drop c.loop-i.i c.args.self.lengths.now) ≡ false → false ≡ well_formed c.args.self.columns.now c.args.self.offsets.now c.args.self.lengths.now c.args.values = λ e. sym (c.loop-i.invariant.1.1 ∙ e) in
    unfit
    (pairs_unrisen c.args.self.columns.now c.args.self.offsets.now c.args.self.lengths.now c.loop-i.invariant.1.0 c.loop-i.end c.loop-i.i (omega arith)
    (sym c.rises.ensures ∙ c.if-not-rises.true))

pub loop-i-preserved : goal.loop-i-preserved
loop-i-preserved c = (
  omega arith,
  (
    c.loop-i.invariant.1.0,
    c.loop-i.invariant.1.1
        ∙ pairs_more c.args.self.columns.now c.args.self.offsets.now c.args.self.lengths.now c.loop-i.invariant.1.0 c.loop-i.end c.loop-i.i (omega arith) (omega arith) (omega arith)
        (sym c.rises.ensures ∙ c.if-not-rises.false),
  ),
)

pub returns : goal.returns
returns c =
    sym (c.loop-i.invariant.1.1 ∙ pairs_end c.args.self.columns.now c.args.self.offsets.now c.args.self.lengths.now c.loop-i.end c.loop-i.i (omega arith) (omega arith))
