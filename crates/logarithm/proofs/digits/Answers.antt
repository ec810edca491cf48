use lib.Bits.{and_mask, mask_lt}
use mir.Facts.{Fits-bits}
use Rattle.logarithm.proofs.digits.Goals as goal
-- `logarithm::digits` meets its contract. Assumes nothing.
use Rattle.std.proofs.Common.{ℕ, ◌+◌, ◌*◌, ◌^◌, ◌<◌, ◌≤◌, ap, arith}

pub overflow_add-units : goal.overflow_add-units
overflow_add-units c = Fits-bits 64 tt (sum _ (mask_lt c.args.bits 52))
  where
    sum : (x : ℕ) → x < 2 ^ 52 → x + 2 ^ 52 < 2 ^ 64
    sum x h = omega arith

pub overflow_mul-units : goal.overflow_mul-units
overflow_mul-units c = Fits-bits 64 tt (product _ (mask_lt c.args.bits 52))
  where
    product : (x : ℕ) → x < 2 ^ 52 → (x + 2 ^ 52) * 1024 < 2 ^ 64
    product x h = omega arith

pub invariant_of-result : goal.invariant_of-result
invariant_of-result c = record { from_one = from _; below_two = below _ (mask_lt c.args.bits 52) }
  where
    from : (x : ℕ) → 2 ^ 62 ≤ (x + 2 ^ 52) * 1024
    from x = omega arith

    below : (x : ℕ) → x < 2 ^ 52 → (x + 2 ^ 52) * 1024 < 2 ^ 63
    below x h = omega arith

pub returns : goal.returns
returns c = ap (λ (x : ℕ). (x + 2 ^ 52) * 1024) (and_mask c.args.bits 52)
