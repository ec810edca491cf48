use Rattle.adding.proofs.Adding.{sources_append}
use Rattle.places.specs.Places.{terminals_at}
use Rattle.adding.proofs.add_sources.Goals as goal
-- `adding::add_sources`: the offsets, then five history currents in turn.
use Rattle.adding.specs.Adding.{source_contributions, branch_history}

pub returns : goal.returns
unfolding source_contributions branch_history terminals_at
returns c = rw (sources_append, sources_append, sources_append, sources_append, sources_append, ← c.add_offsets.ensures, ← c.add_history.ensures, ← c.add_history-2.ensures, ← c.add_history-3.ensures, ← c.add_history-4.ensures, ← c.add_history-5.ensures)
