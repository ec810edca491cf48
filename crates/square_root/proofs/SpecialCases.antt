-- The root where there is none to round: a zero of either sign and the positive infinity are their own roots, a NaN and what lies below zero have a NaN.
use Rattle.std.proofs.Common.{◌≡◌, ℕ, zero, suc, ◌+◌, ◌*◌, ◌<◌, Bool, true, false, T, pos, refl, arith, ltb→lt}
use lib.Ieee.{Float, nan, inf, fin, lt, of_bits, up, down}
use Rattle.exact.specs.Float64.{◌<f◌, +0}
use Rattle.square_root.specs.SquareRoot.{sqrt_of}

pub sqrt_of_zero : (s : Bool) → sqrt_of (fin s 0 (pos 0)) ≡ fin s 0 (pos 0)
unfolding sqrt_of
sqrt_of_zero s = refl

pub sqrt_of_infinity : sqrt_of (inf false) ≡ inf false
unfolding sqrt_of
sqrt_of_infinity = refl

pub sqrt_of_nan : sqrt_of nan ≡ nan
unfolding sqrt_of
sqrt_of_nan = refl

-- the negative infinity too
pub sqrt_below_zero : (x : Float) → T (x <f +0) → sqrt_of x ≡ nan
unfolding sqrt_of lt of_bits
sqrt_below_zero nan h = refl
sqrt_below_zero (inf true) h = refl
sqrt_below_zero (inf false) h = absurd h
sqrt_below_zero (fin true (suc m) e) h = refl
sqrt_below_zero (fin true zero e) h = absurd (none (up e) (down e) (ltb→lt 0 (0 * up e * 1 + 0 * 1 * down e) h))
  where
    none : (u d : ℕ) → 0 < 0 * u * 1 + 0 * 1 * d → ⊥
    none u d h = omega arith
sqrt_below_zero (fin false m e) h = absurd (none m (up e) (down e) (ltb→lt (m * up e * 1) (0 * 1 * down e) h))
  where
    none : (m u d : ℕ) → m * u * 1 < 0 * 1 * d → ⊥
    none m u d h = omega arith
