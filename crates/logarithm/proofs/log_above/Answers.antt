use mir.Facts.{Fits-bits}
use Rattle.logarithm.specs.FixedPoint.{limit, twos_of}
use Rattle.logarithm.proofs.log_above.Goals as goal
-- `logarithm::log_above` meets its contract. Assumes nothing.
use Rattle.std.proofs.Common.{◌≡◌, ℕ, ◌+◌, ◌/◌, ◌^◌, ◌<◌, ◌≤◌, arith}

pub overflow_add-result : goal.overflow_add-result
overflow_add-result c = Fits-bits 64 tt (sum _ _ _ c.requires c.twos.ensures c.ln_mant.ensures.1)
  where
    sum : (n t r : ℕ) → n ≤ 1100 → t ≡ twos_of n → r < limit → t + r / 2048 < 2 ^ 64
    sum n t r h e k = omega arith

pub returns : goal.returns
returns c = λ i. c.twos.ensures i + c.ln_mant.ensures.0 i / 2048
