use native.Mathlib.Omega.{arith}
use Rattle.std.specs.Prelude.{Some, None}
use Rattle.places.specs.Places.{place_number, found_place}
use Rattle.places.proofs.Spans.{row_skipped, column_skipped, number_found}
use Rattle.places.proofs.Row.searched.Goals as goal
-- `places::searched`: ground's place is skipped, and the search finds the others.
use mathlib.Core.Path.{sym, ◌∙◌}

pub returns-then-self-eq-SKIPPED : goal.returns-then-self-eq-SKIPPED
returns-then-self-eq-SKIPPED c =
    row_skipped c.args.self.columns.now c.args.self.node c.args.self.span.from c.args.self.span.len c.args.column c.if-self-eq-SKIPPED.true

pub returns-then-column-eq-SKIPPED : goal.returns-then-column-eq-SKIPPED
returns-then-column-eq-SKIPPED c =
    column_skipped c.args.self.columns.now c.args.self.node c.args.self.span.from c.args.self.span.len c.args.column c.if-self-eq-SKIPPED.false c.if-column-eq-SKIPPED.true

pub overflow_add-from : goal.overflow_add-from
overflow_add-from c = omega (arith, c.args.self.inside.within)

pub search-requires : goal.search-requires
search-requires c = (omega arith, (c.args.self.inside.within, c.args.self.inside.rises))

pub returns-in-Some : goal.returns-in-Some
unfolding place_number found_place
returns-in-Some c =
    number_found c.args.self.columns.now c.args.self.node c.args.self.span.from c.args.self.span.len c.args.column (Some c.in-Some.p) c.if-self-eq-SKIPPED.false c.if-column-eq-SKIPPED.false (sym c.in-Some.is ∙ c.search.ensures)

pub returns-in-None : goal.returns-in-None
unfolding place_number found_place
returns-in-None c =
    number_found c.args.self.columns.now c.args.self.node c.args.self.span.from c.args.self.span.len c.args.column None c.if-self-eq-SKIPPED.false c.if-column-eq-SKIPPED.false (sym c.in-None.is ∙ c.search.ensures)
