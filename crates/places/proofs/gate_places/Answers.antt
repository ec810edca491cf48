use Rattle.pattern.specs.Pattern.{lists}
use Rattle.places.specs.Places.{gate_places_of, terminals_at}
use Rattle.places.proofs.Spans.{row_number}
use Rattle.places.proofs.gate_places.Goals as goal
-- `places::gate_places`: five lookups, or none.
use mathlib.Core.Path.{◌≡◌, ◌∙◌}

pub returns-then-not-any : goal.returns-then-not-any
unfolding gate_places_of
returns-then-not-any c = rw c.if-not-any.true

pub returns : goal.returns
unfolding gate_places_of terminals_at
returns c =
    rw c.if-not-any.false (λ i. record {
      gg = (c.place-gg.ensures ∙ row_number c.row_of-g_row.ensures c.args.n.gate) i;
      gs = (c.place-gs.ensures ∙ row_number c.row_of-g_row.ensures c.args.n.source) i;
      gd = (c.place-gd.ensures ∙ row_number c.row_of-g_row.ensures c.args.n.drain) i;
      gb = (c.place-gb.ensures ∙ row_number c.row_of-g_row.ensures c.args.n.bulk) i;
      bg = (c.place-bg.ensures ∙ row_number c.row_of-b_row.ensures c.args.n.gate) i;
    })
