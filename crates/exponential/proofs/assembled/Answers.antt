use Rattle.exact.proofs.PositivePatterns.{no_nan}
use Rattle.exponential.specs.Exponential.{pattern_of}
use Rattle.exponential.proofs.assembled.Goals as goal
-- `exponential::assembled` meets its contract. Assumes nothing.
use Rattle.std.proofs.Common.{refl, arith}

pub float_from_bits-result : goal.float_from_bits-result
float_from_bits-result c = no_nan _ (omega arith)

pub returns : goal.returns
unfolding pattern_of
returns c = refl
