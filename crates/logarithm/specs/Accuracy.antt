-- What a logarithm is to be.
use Rattle.std.specs.Prelude.{ℕ, ◌^◌, T, Float}
use Rattle.std.specs.Float.Ieee.Scale.{finite}
use Rattle.exact.specs.Fraction.{ℚ, ◌//◌, ◌+q◌, ◌-q◌, ◌≤q◌}
use Rattle.exact.specs.FloatValue.{value}
use Rattle.series.specs.Series.{E, Enough}

-- a logarithm is within one part in so many of 1
abbrev pub parts : ℕ
parts = 2 ^ 42

-- y is a logarithm of x: x lies between E at y less 2^-42 and E at y plus 2^-42, each E any sum with enough terms
pub record IsLogarithm (x : ℚ) (y : Float) : Type 0 where
  pub is_finite : T (finite y)
  pub not_below : {N : ℕ} → Enough N → E N (value y -q 1 // parts) ≤q x
  pub not_above : {N : ℕ} → Enough N → x ≤q E N (value y +q 1 // parts)
