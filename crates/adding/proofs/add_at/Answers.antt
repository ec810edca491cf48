use Rattle.adding.specs.Adding.{add_at}
use Rattle.adding.proofs.Adding.{add_outside}
use Rattle.adding.proofs.add_at.Goals as goal
-- `adding::add_at`: the store is the definition's, and a place behind the end stores nothing.
use mathlib.Core.Path.{refl, sym}

pub returns-then-place-xs : goal.returns-then-place-xs
unfolding add_at
returns-then-place-xs c = refl

pub returns-else-place-xs : goal.returns-else-place-xs
returns-else-place-xs c = sym (add_outside _ _ _ c.if-place-xs.false)
