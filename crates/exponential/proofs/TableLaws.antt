-- What the table and the coefficients of `mant` are: e^(j / 256), 1/6 - a²/120 and 1/24 + 2a/120 for a = 7/8 of 1/256, in units of 2^-63 and rounded down. Assumes nothing.
use Rattle.std.proofs.Common.{◌≡◌, ℕ, ◌+◌, ◌*◌, ◌^◌, ◌<◌, ◌≤◌, get_or, zero-lt-suc, arith, pow_pos}
use Rattle.exact.specs.Fraction.{ℚ, ◌//◌, nat, ◌+q◌, ◌-q◌, ◌*q◌, ◌≤q◌, ◌≈q◌}
use Rattle.exact.proofs.Computing.{computing}
use Rattle.exact.proofs.FractionLaws.{≈_sym, ≤_of_≈, ≤_trans, lit_≤}
use Rattle.series.specs.Series.{E}
use Rattle.series.proofs.Quotients.{frac_≈}
use Rattle.series.proofs.Order.{E_cong}
use Rattle.series.proofs.Enclosures.{E_of_up, E_of_lo}
use Rattle.exponential.specs.Mantissa.{exp_table, cubic, quartic}
use Rattle.exponential.proofs.Mantissa.{entry_bound, entry_up}

-- 1 / 256 is 2^56 / 2^64
place : (j : ℕ) → (j * 2 ^ 56) // 2 ^ 64 ≈q j // 256
place j = frac_≈ (j * 2 ^ 56) j (pow_pos 64) (zero-lt-suc 255) (sort j)
  where
    sort : (j : ℕ) → j * 2 ^ 56 * 256 ≡ j * 2 ^ 64
    sort j = omega arith

module _ (j : ℕ) (h : j < 178) (N : ℕ) where
  pub entry_not_above : 22 ≤ N → get_or exp_table j 0 // 2 ^ 63 ≤q E N (j // 256)
  entry_not_above n = ≤_trans (E_of_lo (pow_pos 64) (pow_pos 63) (record { terms = 22; bound = entry_bound j h }) n) (≤_of_≈ (E_cong N (place j)))

  pub entry_not_below : E N (j // 256) ≤q (get_or exp_table j 0 + 1) // 2 ^ 63
  entry_not_below = ≤_trans (≤_of_≈ (E_cong N (≈_sym (place j)))) (E_of_up (pow_pos 64) (pow_pos 63) (entry_up j h) N)

abbrev pub a : ℚ
a = 7 // 8 *q (1 // 256)

abbrev pub third : ℚ
third = 1 // 6 -q a *q a *q (1 // 120)

abbrev pub fourth : ℚ
fourth = 1 // 24 +q nat 2 *q a *q (1 // 120)

pub cubic_not_above : cubic // 2 ^ 63 ≤q third
unfolding computing
cubic_not_above = lit_≤ tt

pub cubic_not_below : third ≤q (cubic + 1) // 2 ^ 63
unfolding computing
cubic_not_below = lit_≤ tt

pub quartic_not_above : quartic // 2 ^ 63 ≤q fourth
unfolding computing
quartic_not_above = lit_≤ tt

pub quartic_not_below : fourth ≤q (quartic + 1) // 2 ^ 63
unfolding computing
quartic_not_below = lit_≤ tt
