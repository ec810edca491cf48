use Rattle.places.proofs.Spans.{number_guessed}
use Rattle.places.proofs.Row.place.Goals as goal
-- `places::place`: a guess that names a place is right.
use mathlib.Core.Path.{sym, ◌∙◌}

pub guess-requires : goal.guess-requires
guess-requires c = (c.args.self.inside.within, c.args.self.inside.rises)

pub returns-in-Some : goal.returns-in-Some
returns-in-Some c =
    number_guessed c.args.self.columns.now c.args.self.node c.args.self.span.from c.args.self.span.len c.args.column c.args.self.inside (c.in-Some.ensures.column_fits) c.args.self.span.first _ (sym c.guess.ensures.place ∙ c.in-Some.is)
