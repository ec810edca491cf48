-- Sizes of upper words of products. Assumes nothing.
use Rattle.std.proofs.Common.{◌≡◌, ℕ, ◌+◌, ◌-◌, ◌*◌, ◌/◌, ◌^◌, ◌<◌, ◌≤◌, sym, subst, le_trans, le_of_eq, le_of_lt, mul_comm, mul-le-mul_left, arith}
use native.Mathlib.Nat.{div-le_of_le-mul}
use Rattle.logarithm.specs.FixedPoint.{fourth}

-- the upper word of a product is at most the factor
pub hi_le : {z q r : ℕ} → q < 2 ^ 64 → r ≡ z * q / 2 ^ 64 → r ≤ z
hi_le {z} {q} {r} k e = subst (λ (x : ℕ). x ≤ z) (sym e) (div-le_of_le-mul (2 ^ 64) {m = z * q} {n = z} (le_trans (mul-le-mul_left z (le_of_lt k)) (le_of_eq (mul_comm z (2 ^ 64)))))

-- the factors of the polynomial's last two products
pub under : (k : ℕ) → fourth - k < 2 ^ 64
under k = omega arith

pub sum_lt : (k s w z : ℕ) → s ≤ w → w ≤ z → z < 2 ^ 57 → 2 ^ 63 - k + s < 2 ^ 64
sum_lt k s w z h l m = omega arith
