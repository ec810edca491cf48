use Rattle.std.proofs.Common.{false}
use Rattle.adding.proofs.Adding.{add_outside}
use Rattle.load_resolved.proofs.NoConductance.{unchanged}
use Rattle.load_resolved.proofs.keep.Goals as goal
-- `load_resolved::keep`: the entry that is read fits its format.
use mathlib.Core.Path.{refl}

pub returns-then-place-xs : goal.returns-then-place-xs
returns-then-place-xs c = (refl, unchanged _ _ _ c.kept.ensures)

pub returns-else-place-xs : goal.returns-else-place-xs
returns-else-place-xs c = (refl, add_outside _ _ _ c.if-place-xs.false)
