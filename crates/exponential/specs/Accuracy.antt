-- What document 01 says of exp.
use Rattle.std.specs.Prelude.{◌≡◌, ℕ, ◌^◌, Bool, false, T, ℤ, Float}
use Rattle.std.specs.Float.{nan, inf, fin}
use Rattle.std.specs.Float.Ieee.{neg}
use Rattle.std.specs.Float.Ieee.Scale.{finite}
use Rattle.exact.specs.Fraction.{◌//◌, ◌*q◌, Within}
use Rattle.exact.specs.FloatValue.{value}
use Rattle.exact.specs.Float64.{◌<f◌, +0, +1}
use Rattle.series.specs.Series.{E, Enough}
use Rattle.exponential.specs.Exponential.{exp_of, greatest}

-- exp is within one part in so many of E
abbrev pub parts : ℕ
parts = 2 ^ 45

-- from -700 to 700: finite, and within 2^-45 relative of E, whichever partial sum of 4,000 terms or more is taken
pub record Close (x : Float) : Type 0 where
  pub is_finite : T (finite (exp_of x))
  pub within : (N : ℕ) → Enough N → Within (value (exp_of x)) (E N (value x)) (1 // parts *q E N (value x))

-- infinity above 700, zero below -700, exp 0 = 1 for both zeros, NaN at NaN
pub record SpecialCases : Type 0 where
  pub above : (x : Float) → T (greatest <f x) → exp_of x ≡ inf false
  pub below : (x : Float) → T (x <f neg greatest) → exp_of x ≡ +0
  pub zero : (s : Bool) (e : ℤ) → exp_of (fin s 0 e) ≡ +1
  pub not_a_number : exp_of nan ≡ nan
