use Rattle.adding.specs.Adding.{add_at}
use Rattle.load_resolved.proofs.add_known.Goals as goal
-- `load_resolved::add_known`: the store is the definition's.
use mathlib.Core.Path.{refl}

pub bounds-xs-place : goal.bounds-xs-place
bounds-xs-place c = c.requires

pub bounds-xs-place-2 : goal.bounds-xs-place-2
bounds-xs-place-2 c = c.requires

pub returns : goal.returns
unfolding add_at
returns c = refl
