use Rattle.std.proofs.Common.{rules}
use lib.Dec.{T}
use Rattle.load_resolved.proofs.Zero.{zero_again}
use Rattle.load_resolved.proofs.zero_added.Goals as goal
-- `load_resolved::zero_added`.
use mathlib.Core.Path.{refl, sym, subst}

pub returns : goal.returns
returns c = (refl, zero_again _ (search rules))
