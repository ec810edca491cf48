use lib.Dec.{T}
use Rattle.exact.proofs.Tests.{holds}
use Rattle.power.proofs.BothFractional.{both_fractional}
use Rattle.power.proofs.fractions.Goals as goal
-- `power::fractions` meets its contract. Assumes nothing.
use mathlib.Core.Path.{sym, subst}

pub returns-then-m : goal.returns-then-m
returns-then-m c = λ e. both_fractional c.args.m (subst T (sym c.well_formed.0.1) tt) (holds c.if-m.true) (holds e)
