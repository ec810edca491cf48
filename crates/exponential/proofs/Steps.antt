-- The fixed-point steps of `mant` fit a word. Assumes nothing.
use Rattle.std.proofs.Common.{◌≡◌, ℕ, ◌+◌, ◌*◌, ◌/◌, ◌^◌, ◌<◌, ◌≤◌, ap, ◌∙◌, le_trans, le_of_eq, lt_of_lt_of_le, le_of_lt, mul_comm, mul-le-mul_left, arith, lit≤}
use native.Mathlib.Nat.{div-le_of_le-mul}

pub result_le : (t q r : ℕ) → q < 2 ^ 64 → r ≡ t * q / 2 ^ 64 → r ≤ t
result_le t q r h e = le_trans (le_of_eq e) (div-le_of_le-mul (2 ^ 64) {m = t * q} {n = t} (le_trans (mul-le-mul_left t (le_of_lt h)) (le_of_eq (mul_comm t (2 ^ 64)))))

pub step_lt : (c t q r : ℕ) → c ≤ 2 ^ 63 → t < 2 ^ 56 → q < 2 ^ 64 → r ≡ t * q / 2 ^ 64 → c + r < 2 ^ 64
step_lt c t q r h k l e = sum_lt (result_le t q r l e)
  where
    sum_lt : r ≤ t → c + r < 2 ^ 64
    sum_lt m = omega arith

-- t/2 + t^2 q
pub sum_lt : (t s q d : ℕ) → t < 2 ^ 56 → q < 2 ^ 64 → s ≡ t * t / 2 ^ 64 → d ≡ s * q / 2 ^ 64 → t / 2 + d < 2 ^ 57
sum_lt t s q d h k e f = add (result_le t t s (lt_of_lt_of_le h (lit≤ tt)) e) (result_le s q d k f)
  where
    add : s ≤ t → d ≤ s → t / 2 + d < 2 ^ 57
    add l m = omega arith

pub halves_lt : (b p r : ℕ) → b < 2 ^ 64 → p < 2 ^ 57 → r ≡ b * p / 2 ^ 64 → b / 2 + r < 2 ^ 64
halves_lt b p r h k e = add (result_le p b r h (e ∙ ap (λ (z : ℕ). z / 2 ^ 64) (mul_comm b p)))
  where
    add : r ≤ p → b / 2 + r < 2 ^ 64
    add l = omega arith
