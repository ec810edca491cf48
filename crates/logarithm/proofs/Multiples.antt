-- Multiples of ln 2: e^(n Λ / 2^64) ≤ 2^n ≤ e^(n (Λ + 3) / 2^64). Assumes nothing.
use Rattle.std.proofs.Common.{◌≡◌, ℕ, zero, suc, ◌+◌, ◌*◌, ◌^◌, ◌∙◌, subst, one-mul, lit<, lit≤}
use native.Mathlib.Nat.{pow-zero, pow-succ'}
use Rattle.series.proofs.Bounds.{Up, Lo, lo_weaken, lo_add, up_pow, lo_pow}
use Rattle.series.proofs.Differences.{one_plus}
use Rattle.exponential.proofs.LnTwo.{Λ, up_two, lo_two}

one_pow : (k : ℕ) → 1 ^ k ≡ 1
one_pow zero = pow-zero 1
one_pow (suc k) = pow-succ' 1 k ∙ one-mul (1 ^ k) ∙ one_pow k

pub two_lo : Lo (Λ + 3) (2 ^ 64) 2 1
two_lo = lo_weaken (lit< tt) (lit≤ tt) (lo_add (lit< tt) lo_two (one_plus 3 (2 ^ 64)))

pub twos_up : (n : ℕ) → Up (n * Λ) (2 ^ 64) (2 ^ n) 1
twos_up n = subst (λ (z : ℕ). Up (n * Λ) (2 ^ 64) (2 ^ n) z) (one_pow n) (up_pow (lit< tt) up_two n)

pub twos_lo : (n : ℕ) → Lo (n * (Λ + 3)) (2 ^ 64) (2 ^ n) 1
twos_lo n = subst (λ (z : ℕ). Lo (n * (Λ + 3)) (2 ^ 64) (2 ^ n) z) (one_pow n) (lo_pow (lit< tt) two_lo n)
