use Rattle.logarithm.proofs.twos.Goals as goal
-- `logarithm::twos` meets its contract. Assumes nothing.
use Rattle.std.proofs.Common.{refl}

pub returns : goal.returns
returns c = refl
