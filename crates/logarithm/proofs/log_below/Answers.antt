use Rattle.logarithm.specs.FixedPoint.{limit, twos_of}
use Rattle.logarithm.proofs.log_below.Goals as goal
-- `logarithm::log_below` meets its contract. Assumes nothing.
use Rattle.std.proofs.Common.{◌≡◌, ℕ, ◌-◌, ◌/◌, ◌<◌, ◌≤◌, arith}

pub overflow_sub-result : goal.overflow_sub-result
overflow_sub-result c = less _ _ _ c.requires.0 c.requires.1 c.twos.ensures c.ln_mant.ensures.1
  where
    less : (n t r : ℕ) → 0 < n → n ≤ 1100 → t ≡ twos_of n → r < limit → r / 2048 ≤ t
    less n t r g h e k = omega arith

pub returns : goal.returns
returns c = λ i. c.twos.ensures i - c.ln_mant.ensures.0 i / 2048
