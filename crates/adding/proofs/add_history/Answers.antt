use Rattle.adding.proofs.add_history.Goals as goal
-- `adding::add_history`: two additions in turn, or none.
use Rattle.adding.specs.Adding.{add_sources, current_pair}

pub returns-then-loaded : goal.returns-then-loaded
unfolding add_sources current_pair
returns-then-loaded c = rw (c.if-loaded.true, ← c.add_node.ensures, ← c.add_node-then-loaded.ensures)

pub returns-else-loaded : goal.returns-else-loaded
unfolding add_sources
returns-else-loaded c = rw c.if-loaded.false
