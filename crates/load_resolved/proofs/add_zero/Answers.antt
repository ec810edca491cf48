use Rattle.std.proofs.Common.{true, false}
use Rattle.adding.proofs.Adding.{add_outside}
use Rattle.load_resolved.proofs.NoConductance.{zero_stored}
use Rattle.load_resolved.proofs.add_zero.Goals as goal
-- `load_resolved::add_zero`: the entry that is read fits its format.
use mathlib.Core.Path.{sym}

pub returns-then-place-xs : goal.returns-then-place-xs
returns-then-place-xs c = zero_stored _ _ _ c.if-place-xs.true c.zero_added.ensures.0 c.zero_added.ensures.1

pub returns-else-place-xs : goal.returns-else-place-xs
returns-else-place-xs c = (sym (add_outside _ _ _ c.if-place-xs.false), add_outside _ _ _ c.if-place-xs.false)
