use lib.Bits.{bit_and, and_mask, mask_lt}
use mir.Facts.{Fits-bits}
use Rattle.exponential.specs.Mantissa.{exp_table, mant_of, minus_one, cubic, quartic}
use Rattle.exponential.proofs.Steps.{sum_lt, halves_lt}
use Rattle.exponential.proofs.mant.Goals as goal
-- `exponential::mant` meets its contract. Assumes nothing.
use Rattle.std.proofs.Common.{◌≡◌, ℕ, ◌+◌, ◌*◌, ◌/◌, ◌%◌, ◌^◌, get_or, lt_of_lt_of_le, lit≤}

as_defined : (r t b q3 q2 s d m : ℕ) → t ≡ r % 2 ^ 56 → q3 ≡ cubic + t * quartic / 2 ^ 64 → q2 ≡ 0x4000000000000000 + t * q3 / 2 ^ 64
    → s ≡ t * t / 2 ^ 64 → d ≡ s * q2 / 2 ^ 64 → b ≡ get_or exp_table (r / 2 ^ 56) 0 → m ≡ b * (t / 2 + d) / 2 ^ 64 → b / 2 + m ≡ mant_of r
unfolding mant_of minus_one
as_defined r t b q3 q2 s d m e0 e3 e2 es ed eb em = cc

pub step-q3-requires : goal.step-q3-requires
step-q3-requires c = (mask_lt c.args.r 56, lit≤ tt)

pub step-q2-requires : goal.step-q2-requires
step-q2-requires c = (mask_lt c.args.r 56, lit≤ tt)

pub overflow_add-p : goal.overflow_add-p
overflow_add-p c = Fits-bits 64 tt (lt_of_lt_of_le (sum_lt (bit_and c.args.r 0xff_ffff_ffff_ffff) c.mulhi.result c.step-q2.result c.mulhi-2.result (mask_lt c.args.r 56) c.step-q2.type_inv c.mulhi.ensures c.mulhi-2.ensures) (lit≤ tt))

pub overflow_add-result : goal.overflow_add-result
overflow_add-result c = Fits-bits 64 tt (halves_lt c.exp_tab-b.result _ c.mulhi-3.result c.exp_tab-b.type_inv (sum_lt (bit_and c.args.r 0xff_ffff_ffff_ffff) c.mulhi.result c.step-q2.result c.mulhi-2.result (mask_lt c.args.r 56) c.step-q2.type_inv c.mulhi.ensures c.mulhi-2.ensures) c.mulhi-3.ensures)

pub returns : goal.returns
returns c =
    as_defined c.args.r _ _ _ _ _ _ _ (and_mask c.args.r 56)
    c.step-q3.ensures c.step-q2.ensures c.mulhi.ensures c.mulhi-2.ensures c.exp_tab-b.ensures c.mulhi-3.ensures
