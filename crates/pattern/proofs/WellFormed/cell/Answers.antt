use lib.Seq.{slice}
use Rattle.pattern.specs.Pattern.{place_in, cell_of}
use Rattle.std.specs.Prelude.{Some}
use Rattle.pattern.proofs.Spans.{Part, part_known, cell_in_span, guess_right}
use Rattle.pattern.proofs.WellFormed.cell.Goals as goal
-- `pattern::cell`: a guess that names a place is right, and the search finds the others.
use Rattle.std.proofs.Common.{◌≡◌, ◌+◌, sym, ◌∙◌, arith}

pub guess-requires : goal.guess-requires
guess-requires c =
    let part : Part c.args.self.pattern.columns.now c.row_span-from.result.from c.row_span-from.result.len = part_known _ _ _ c.args.self.fits _ _ c.row_span-from.ensures in
    (part.within, part.rises)

pub overflow_add-from : goal.overflow_add-from
overflow_add-from c =
    let part : Part c.args.self.pattern.columns.now c.row_span-from.result.from c.row_span-from.result.len = part_known _ _ _ c.args.self.fits _ _ c.row_span-from.ensures in
    omega (arith, part.within)

pub search-requires : goal.search-requires
search-requires c =
    let part : Part c.args.self.pattern.columns.now c.row_span-from.result.from c.row_span-from.result.len = part_known _ _ _ c.args.self.fits _ _ c.row_span-from.ensures in
    (omega arith, (part.within, part.rises))

pub returns-in-Some : goal.returns-in-Some
returns-in-Some c =
    let part : Part c.args.self.pattern.columns.now c.row_span-from.result.from c.row_span-from.result.len = part_known _ _ _ c.args.self.fits _ _ c.row_span-from.ensures in
    let in_span : place_in c.row_span-from.result.from (slice c.row_span-from.result.from (c.row_span-from.result.from + c.row_span-from.result.len) c.args.self.pattern.columns.now) c.args.column ≡ cell_of c.args.self.pattern.columns.now c.args.self.pattern.offsets.now c.args.self.pattern.lengths.now c.args.row c.args.column = cell_in_span _ _ _ _ _ _ c.row_span-from.ensures in
    let e : c.guess.result ≡ Some c.in-Some.p = c.in-Some.is in
    sym (guess_right _ _ _ _ _ _ part.within part.rises (sym c.guess.ensures.place ∙ e)).right ∙ in_span

pub returns-in-None : goal.returns-in-None
returns-in-None c =
    let in_span : place_in c.row_span-from.result.from (slice c.row_span-from.result.from (c.row_span-from.result.from + c.row_span-from.result.len) c.args.self.pattern.columns.now) c.args.column ≡ cell_of c.args.self.pattern.columns.now c.args.self.pattern.offsets.now c.args.self.pattern.lengths.now c.args.row c.args.column = cell_in_span _ _ _ _ _ _ c.row_span-from.ensures in
    c.search.ensures ∙ in_span
