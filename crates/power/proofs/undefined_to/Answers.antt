use lib.Ieee.{of_bits}
use Rattle.exponential.proofs.Ranges.{cond_yes, cond_else}
use Rattle.power.proofs.undefined_to.Goals as goal
-- `power::undefined_to` meets its contract. Assumes nothing.
use mathlib.Core.Path.{refl}

pub returns-then-p : goal.returns-then-p
returns-then-p c = cond_yes _ _ _ c.if-p.true

pub returns-else-p : goal.returns-else-p
unfolding of_bits
returns-else-p c = cond_else _ _ _ _ c.if-p.false refl
