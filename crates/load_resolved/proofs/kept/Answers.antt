use Rattle.std.proofs.Common.{rules}
use lib.Dec.{T}
use Rattle.load_resolved.proofs.Zero.{minus_zero}
use Rattle.load_resolved.proofs.kept.Goals as goal
-- `load_resolved::kept`.
use mathlib.Core.Path.{sym, subst}

pub returns : goal.returns
returns c = minus_zero _ (search rules)
