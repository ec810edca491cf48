-- A float's exact value, and how far a rounded result may be from the exact one.
use Rattle.std.specs.Prelude.{ℕ, suc, ◌-◌, ◌*◌, ◌^◌, ◌<◌, Bool, cond, Float}
use Rattle.std.specs.Float.{nan, inf, fin, Format}
use Rattle.std.specs.Float.Ieee.{prec, emax, low, up, down}
use Rattle.std.specs.Float.Ieee.Fits.{down_pos}
use Rattle.exact.specs.Fraction.{ℚ, ◌//◌, nat, ◌+q◌, ◌*q◌, absq}

-- ±a / c
abbrev pub signed : Bool → ℕ → (c : ℕ) → 0 < c → ℚ
signed s a c C = record { p = cond s 0 a; q = cond s a 0; d = c; d_pos = C }

-- (0 for a NaN and for an infinity)
unfoldable pub value : Float → ℚ
unfolding nat
value nan = nat 0
value (inf s) = nat 0
value (fin s m e) = signed s (m * up e) (down e) (down_pos e)

-- 2 ^ -53 and 2 ^ -1075 for binary64
abbrev pub eps : Format → ℚ
eps f = 1 // 2 ^ prec f

abbrev pub tiny : Format → ℚ
tiny f = 1 // 2 ^ suc (low f)

-- the least normal value, 2 ^ -1022: from it on a rounded result has no absolute part in its error
abbrev pub least_normal_lem : Format → ℚ
least_normal_lem f = 1 // 2 ^ (emax f - 1)

-- the error of a rounded result, by the exact one
abbrev pub err : Format → ℚ → ℚ
err f z = eps f *q absq z +q tiny f
