use Rattle.adding.proofs.add_four.Goals as goal
-- `adding::add_four`: four additions in turn, or none.
use Rattle.adding.specs.Adding.{add_four}

pub returns-then-br : goal.returns-then-br
unfolding add_four
returns-then-br c = rw (c.if-br.true, ← c.add_at.ensures, ← c.add_at-then-br.ensures, ← c.add_at-then-br-2.ensures, ← c.add_at-then-br-3.ensures)

pub returns-else-br : goal.returns-else-br
unfolding add_four
returns-else-br c = rw c.if-br.false
