-- What a power is to be.
use Rattle.std.specs.Prelude.{ℕ, ◌^◌, false, cond, T, Float}
use Rattle.std.specs.Float.{inf}
use Rattle.std.specs.Float.Ieee.Scale.{finite}
use Rattle.exact.specs.Fraction.{ℚ, ◌//◌, nat, ◌+q◌, ◌-q◌, ◌*q◌, ◌≤q◌}
use Rattle.exact.specs.FloatValue.{value}
use Rattle.exact.specs.Float64.{◌<f◌, +0}
use Rattle.series.specs.Series.{E, Enough}

-- a power is within one part in so many of E
abbrev pub parts : ℕ
parts = 2 ^ 40

-- y is at least e, within 2^-40 relative or 2^-1000 absolute
pub data AtLeast (e y : ℚ) : Type 0 where
  least_relative : e -q 1 // parts *q e ≤q y → AtLeast e y
  least_absolute : e -q 1 // 2 ^ 1000 ≤q y → AtLeast e y

-- y is at most e, within 2^-40 relative or 2^-1000 absolute
pub data AtMost (e y : ℚ) : Type 0 where
  most_relative : y ≤q e +q 1 // parts *q e → AtMost e y
  most_absolute : y ≤q e +q 1 // 2 ^ 1000 → AtMost e y

-- a number that is not negative and lies between E at lo and E at hi, each E any sum with enough terms
pub record IsPower (lo hi : ℚ) (r : Float) : Type 0 where
  pub is_finite : T (finite r)
  pub not_negative : nat 0 ≤q value r
  pub not_below : (K : ℕ) → Enough K → AtLeast (E K lo) (value r)
  pub not_above : (K : ℕ) → Enough K → AtMost (E K hi) (value r)

-- a power whose logarithm lies between lo and hi: such a number, or infinite beyond 2^1000
pub data Between (lo hi : ℚ) : Float → Type 0 where
  a_number : (r : Float) → IsPower lo hi r → Between lo hi r
  infinite : ((K : ℕ) → Enough K → nat (2 ^ 1000) ≤q E K hi) → Between lo hi (inf false)

-- u p and v p in their order, for u up to v: a negative exponent turns them round
abbrev pub lower : Float → ℚ → ℚ → ℚ
lower p u v = cond (p <f +0) (v *q value p) (u *q value p)

abbrev pub upper : Float → ℚ → ℚ → ℚ
upper p u v = cond (p <f +0) (u *q value p) (v *q value p)
