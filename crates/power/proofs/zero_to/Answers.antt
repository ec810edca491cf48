use lib.Ieee.{of_bits}
use Rattle.exponential.proofs.Ranges.{cond_yes, cond_else}
use Rattle.power.proofs.zero_to.Goals as goal
-- `power::zero_to` meets its contract. Assumes nothing.
use mathlib.Core.Path.{refl}

pub returns-then-p : goal.returns-then-p
returns-then-p c = cond_yes _ _ _ c.if-p.true

pub returns-then-p-2 : goal.returns-then-p-2
returns-then-p-2 c = cond_else _ _ _ _ c.if-p.false (cond_yes _ _ _ c.if-p-2.true)

pub returns-else-p-2 : goal.returns-else-p-2
unfolding of_bits
returns-else-p-2 c = cond_else _ _ _ _ c.if-p.false (cond_else _ _ _ _ c.if-p-2.false refl)
