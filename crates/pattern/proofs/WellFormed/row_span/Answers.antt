use Rattle.pattern.proofs.Rows.{Row}
use Rattle.pattern.proofs.Spans.{counts, row_known, span_outside, span_some, span_empty}
use Rattle.pattern.proofs.WellFormed.row_span.Goals as goal
-- `pattern::row_span`: the pair at the row's index lies within the columns, since the whole pattern is well formed.
use Rattle.std.proofs.Common.{arith}

pub returns-then-offsets-row : goal.returns-then-offsets-row
returns-then-offsets-row c =
    span_outside c.args.self.pattern.columns.now c.args.self.pattern.offsets.now c.args.self.pattern.lengths.now c.args.self.fits c.args.row c.if-offsets-row.true

pub bounds-lengths-row : goal.bounds-lengths-row
bounds-lengths-row c =
    omega (arith, c.if-offsets-row.false, counts c.args.self.pattern.columns.now c.args.self.pattern.offsets.now c.args.self.pattern.lengths.now c.args.self.fits c.args.row)

pub returns-then-len-eq0 : goal.returns-then-len-eq0
returns-then-len-eq0 c = span_empty _ _ _ _ c.if-len-eq0.true

pub offset_bounds-columns-from : goal.offset_bounds-columns-from
offset_bounds-columns-from c =
    let row : Row c.args.self.pattern.columns.now c.args.self.pattern.offsets.now c.args.self.pattern.lengths.now c.args.row = row_known c.args.self.pattern.columns.now c.args.self.pattern.offsets.now c.args.self.pattern.lengths.now c.args.self.fits c.args.row c.if-offsets-row.false in
    omega (arith, row.within)

pub bounds-columns-from : goal.bounds-columns-from
bounds-columns-from c =
    let row : Row c.args.self.pattern.columns.now c.args.self.pattern.offsets.now c.args.self.pattern.lengths.now c.args.row = row_known c.args.self.pattern.columns.now c.args.self.pattern.offsets.now c.args.self.pattern.lengths.now c.args.self.fits c.args.row c.if-offsets-row.false in
    omega (arith, row.within, c.if-len-eq0.false)

pub returns : goal.returns
returns c = span_some _ _ _ _ _ c.if-len-eq0.false c.wide-first.ensures
