use mir.Facts.{Fits-bits}
use Rattle.logarithm.specs.FixedPoint.{near_one, third, fourth, fifth}
use Rattle.logarithm.proofs.Words.{hi_le, under, sum_lt}
use Rattle.logarithm.proofs.near_one.Goals as goal
-- `logarithm::near_one` meets its contract. Assumes nothing.
use Rattle.std.proofs.Common.{◌≡◌, ℕ, ◌+◌, ◌-◌, ◌*◌, ◌/◌, ◌^◌, ◌<◌, ◌≤◌, ◌∙◌, le_trans, arith, lit<}

small : (z r : ℕ) → z < 2 ^ 57 → r ≤ z → r ≤ fourth
small z r h k = omega arith

half : (z r : ℕ) → z < 2 ^ 57 → r ≤ z → r ≤ 2 ^ 63
half z r h k = omega arith

as_defined : (z w k3 k5 s t : ℕ) → w ≡ z * z / 2 ^ 64 → k3 ≡ z * third / 2 ^ 64 → k5 ≡ z * fifth / 2 ^ 64
    → s ≡ w * (fourth - k5) / 2 ^ 64 → t ≡ w * (2 ^ 63 - k3 + s) / 2 ^ 64 → z - t ≡ near_one z
unfolding near_one
as_defined z w k3 k5 s t e e3 e5 es et =
    (λ i. z - et i) ∙ (λ i. z - w * (2 ^ 63 - e3 i + es i) / 2 ^ 64)
    ∙ (λ i. z - e i * (2 ^ 63 - z * third / 2 ^ 64 + e i * (fourth - e5 i) / 2 ^ 64) / 2 ^ 64)

pub overflow_sub-low : goal.overflow_sub-low
overflow_sub-low c = half _ _ c.requires (hi_le (lit< tt) c.mulhi-low.ensures)

pub overflow_sub-high : goal.overflow_sub-high
overflow_sub-high c = small _ _ c.requires (hi_le (lit< tt) c.mulhi-high.ensures)

pub overflow_add-low : goal.overflow_add-low
overflow_add-low c =
    Fits-bits 64 tt (sum_lt _ _ _ _ (hi_le (under _) c.mulhi.ensures) (hi_le c.ranges.z.fits c.mulhi-w.ensures) c.requires)

pub overflow_sub-result : goal.overflow_sub-result
overflow_sub-result c =
    let w = hi_le c.ranges.z.fits c.mulhi-w.ensures in
    le_trans (hi_le (sum_lt _ _ _ _ (hi_le (under _) c.mulhi.ensures) w c.requires) c.mulhi-2.ensures) w

pub returns : goal.returns
returns c =
    as_defined _ _ _ _ _ _ c.mulhi-w.ensures c.mulhi-low.ensures c.mulhi-high.ensures c.mulhi.ensures c.mulhi-2.ensures
