use lib.Bits.{bit_and, and_mask, mask_lt}
use mir.Facts.{Fits-bits}
use Rattle.exponential.specs.Mantissa.{hi}
use Rattle.tables.specs.LnTable.{ln_table, inverse_of}
use Rattle.logarithm.specs.FixedPoint.{near_one, ln_mant_of, limit}
use Rattle.logarithm.proofs.LnMant.{z_lt, ln_mant_lt}
use Rattle.logarithm.proofs.ln_mant.Goals as goal
-- `logarithm::ln_mant` meets its contract. Assumes nothing.
use Rattle.std.proofs.Common.{◌≡◌, ℕ, ◌+◌, ◌*◌, ◌/◌, ◌%◌, ◌^◌, ◌<◌, ◌≤◌, get_or, sym, ap, ◌∙◌, subst, lt_of_lt_of_le, mul_comm, lit≤}

-- what near_one is called with
z_is : (m j v c : ℕ) → j ≡ m / 2 ^ 55 % 128 → v ≡ inverse_of j → c ≡ m * v / 2 ^ 64 → c * 8 % 2 ^ 64 ≡ 8 * hi m (inverse_of (m / 2 ^ 55 % 128)) % 2 ^ 64
z_is m j v c ej ev ec = ap (λ (x : ℕ). x % 2 ^ 64) (mul_comm c 8) ∙ (λ i. 8 * (ec ∙ (λ k. m * (ev ∙ ap inverse_of ej) k / 2 ^ 64)) i % 2 ^ 64)

sum_is : (m j t z r : ℕ) → j ≡ m / 2 ^ 55 % 128 → t ≡ get_or ln_table j 0 → z ≡ 8 * hi m (inverse_of (m / 2 ^ 55 % 128)) % 2 ^ 64 → r ≡ near_one z → t + r ≡ ln_mant_of m
unfolding ln_mant_of
sum_is m j t z r ej et ez er = (λ i. (et ∙ ap (λ (k : ℕ). get_or ln_table k 0) ej) i + (er ∙ ap near_one ez) i)

z_of : (m v c : ℕ) → v ≡ inverse_of (bit_and (m / 2 ^ 55) 127) → c ≡ m * v / 2 ^ 64 → c * 8 % 2 ^ 64 ≡ 8 * hi m (inverse_of (m / 2 ^ 55 % 128)) % 2 ^ 64
z_of m v c ev ec = z_is m _ v c (and_mask (m / 2 ^ 55) 7) ev ec

sum : (m v t c r : ℕ) → v ≡ inverse_of (bit_and (m / 2 ^ 55) 127) → t ≡ get_or ln_table (bit_and (m / 2 ^ 55) 127) 0 → c ≡ m * v / 2 ^ 64 → r ≡ near_one (c * 8 % 2 ^ 64) → t + r ≡ ln_mant_of m
sum m v t c r ev et ec er = sum_is m _ t _ r (and_mask (m / 2 ^ 55) 7) et (z_of m v c ev ec) er

sum_lt : (m s : ℕ) → 2 ^ 62 ≤ m → m < 2 ^ 63 → s ≡ ln_mant_of m → s < limit
sum_lt m s l h e = subst (λ (g : ℕ). g < limit) (sym e) (ln_mant_lt m l h)

pub ln_row-row-requires : goal.ln_row-row-requires
ln_row-row-requires c = mask_lt (c.args.m.units / 2 ^ 55) 7

pub near_one-requires : goal.near_one-requires
near_one-requires c =
    subst (λ (z : ℕ). z < 2 ^ 57) (sym (z_of c.args.m.units _ _ c.ln_row-row.ensures.0 c.mulhi.ensures)) (z_lt c.args.m.units c.args.m.from_one c.args.m.below_two)

pub overflow_add-result : goal.overflow_add-result
overflow_add-result c =
    let e = sum c.args.m.units _ _ _ _ c.ln_row-row.ensures.0 c.ln_row-row.ensures.1 c.mulhi.ensures c.near_one.ensures in
    Fits-bits 64 tt (lt_of_lt_of_le (sum_lt c.args.m.units _ c.args.m.from_one c.args.m.below_two e) (lit≤ tt))

pub returns : goal.returns
returns c =
    let e = sum c.args.m.units _ _ _ _ c.ln_row-row.ensures.0 c.ln_row-row.ensures.1 c.mulhi.ensures c.near_one.ensures in
    (e, sum_lt c.args.m.units _ c.args.m.from_one c.args.m.below_two e)
