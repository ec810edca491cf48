use Rattle.places.specs.Places.{terminals_at}
use Rattle.adding.proofs.add_offsets.Goals as goal
-- `adding::add_offsets`: six additions in turn.
use Rattle.adding.specs.Adding.{add_sources, offset_sources}

pub returns : goal.returns
unfolding add_sources offset_sources terminals_at
returns c = rw (← c.add_node.ensures, ← c.add_node-2.ensures, ← c.add_node-3.ensures, ← c.add_node-4.ensures, ← c.add_node-5.ensures, ← c.add_node-6.ensures)
