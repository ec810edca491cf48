use lib.Ieee.{Float}
use Rattle.exact.specs.Float64.{◌⊗◌}
use Rattle.logarithm.specs.Logarithm.{ulp}
use Rattle.logarithm.proofs.rounded.Goals as goal
-- `logarithm::rounded` meets its contract. Assumes nothing.
use Rattle.std.proofs.Common.{ap}

pub returns : goal.returns
returns c = ap (λ (x : Float). x ⊗ ulp) c.nearest_u64_to_f64.ensures
