use Rattle.adding.proofs.Adding.{sources_append}
use Rattle.load_resolved.specs.ByNumbers.{history_sources}
use Rattle.charges_resolved.proofs.add_histories.Goals as goal
-- `charges_resolved::add_histories`: five history currents in turn.
use Rattle.adding.specs.Adding.{branch_history}

pub returns : goal.returns
unfolding history_sources branch_history
returns c = rw (sources_append, sources_append, sources_append, sources_append, ← c.add_history.ensures, ← c.add_history-2.ensures, ← c.add_history-3.ensures, ← c.add_history-4.ensures, ← c.add_history-5.ensures)
