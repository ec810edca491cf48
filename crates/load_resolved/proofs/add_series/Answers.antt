use Rattle.std.proofs.Common.{true, false}
use Rattle.load_resolved.proofs.add_series.Goals as goal
-- `load_resolved::add_series`: the conductance, or none.
use Rattle.stamps.specs.Stamps.{series_of}

pub add_pair-requires : goal.add_pair-requires
add_pair-requires c = c.requires

pub returns-then-r : goal.returns-then-r
unfolding series_of
returns-then-r c = rw c.if-r.true c.add_pair.ensures

pub returns-else-r : goal.returns-else-r
unfolding series_of
returns-else-r c = rw c.if-r.false c.add_no_conductance.ensures
