-- The table of logarithms: each entry is ln(1 + j / 128) rounded down, the last less 2^15. Assumes nothing.
use Rattle.std.proofs.Common.{ℕ, ◌+◌, ◌*◌, ◌/◌, ◌^◌, ◌<◌, ◌≤◌, Bool, T, leb, get_or, arith, lit<, leb→le}
use Rattle.series.specs.Series.{top, bot}
use Rattle.series.proofs.Product.{bot_pos}
use Rattle.series.proofs.Bounds.{Up, Lo, doubled, up_doubled, up_weaken}
use Rattle.exponential.proofs.Table.{both, both_left, both_right, every, at}
use Rattle.tables.specs.LnTable.{ln_table}
use Rattle.logarithm.specs.FixedPoint.{limit}

-- 1 in the last row
abbrev pub final : ℕ → ℕ
final j = j / 127

abbrev up_right : ℕ → ℕ → Bool
up_right j x = leb (doubled 22 (x + final j * 2 ^ 15) (2 ^ 64) * 128) ((128 + j) * bot 23 (2 ^ 64))

abbrev lo_right : ℕ → ℕ → Bool
lo_right j x = leb ((128 + j) * bot 22 (2 ^ 64)) (top 22 (x + final j * 2 ^ 15 + 1) (2 ^ 64) * 128)

-- but in the last row there is room below the limit for any z
abbrev small : ℕ → ℕ → Bool
small j x = leb (x + 2 ^ 57) (limit + final j * 2 ^ 57)

abbrev right : ℕ → ℕ → Bool
right j x = both (small j x) (both (up_right j x) (lo_right j x))

all_right : T (every right 0 ln_table)
unfolding doubled top bot
all_right = tt

module _ (j : ℕ) (h : j < 128) where
  abbrev x : ℕ
  x = get_or ln_table j 0

  passed : T (right j x)
  passed = at right ln_table all_right j h

  rest : T (both (up_right j x) (lo_right j x))
  rest = both_right (small j x) (both (up_right j x) (lo_right j x)) passed

  pub entry_le : get_or ln_table j 0 + 2 ^ 57 ≤ limit + final j * 2 ^ 57
  entry_le = leb→le (x + 2 ^ 57) (limit + final j * 2 ^ 57) (both_left (small j x) (both (up_right j x) (lo_right j x)) passed)

  -- e^x ≤ 1 + j / 128
  pub entry_up : Up (get_or ln_table j 0 + final j * 2 ^ 15) (2 ^ 64) (128 + j) 128
  entry_up =
      up_weaken (bot_pos 23 (2 ^ 64) (lit< tt))
      (leb→le (doubled 22 (x + final j * 2 ^ 15) (2 ^ 64) * 128) ((128 + j) * bot 23 (2 ^ 64)) (both_left (up_right j x) (lo_right j x) rest))
      (up_doubled 22 (x + final j * 2 ^ 15) (2 ^ 64) (lit< tt) (few x (final j) entry_le (most j h)))
    where
      most : (j : ℕ) → j < 128 → j / 127 ≤ 1
      most j h = omega arith

      few : (x f : ℕ) → x + 2 ^ 57 ≤ limit + f * 2 ^ 57 → f ≤ 1 → 2 * (x + f * 2 ^ 15) ≤ 24 * 2 ^ 64
      few x f h k = omega arith

  -- 1 + j / 128 ≤ e^(x + 1 unit)
  pub entry_lo : Lo (get_or ln_table j 0 + final j * 2 ^ 15 + 1) (2 ^ 64) (128 + j) 128
  entry_lo = record { terms = 22; bound = leb→le ((128 + j) * bot 22 (2 ^ 64)) (top 22 (x + final j * 2 ^ 15 + 1) (2 ^ 64) * 128) (both_right (up_right j x) (lo_right j x) rest) }
