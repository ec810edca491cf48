-- What it means that r is the correctly rounded root of x: of all binary64 values none is nearer to the root, and no other is as near.
-- The root is no fraction in general, so distances from it are compared by squares. (A negative value is farther from it than zero.)
use Rattle.std.specs.Prelude.{T, Float}
use Rattle.std.specs.Float.{binary64}
use Rattle.std.specs.Float.Ieee.{fits}
use Rattle.exact.specs.Fraction.{ℚ, nat, ◌+q◌, ◌*q◌, ◌≤q◌, ◌<q◌, ◌≈q◌}
use Rattle.exact.specs.FloatValue.{value}
use Rattle.exact.specs.Size.{NonNegative}

-- (r + y)², four times the square of the middle of r and y
abbrev pub square_of_sum : ℚ → ℚ → ℚ
square_of_sum r y = (r +q y) *q (r +q y)

-- |√x − r| ≤ |√x − y|, for x, r and y that are not negative: the root is not on y's side of the middle of r and y
pub record NotFarther (x r y : ℚ) : Type 0 where
  pub above : r <q y → nat 4 *q x ≤q square_of_sum r y
  pub below : y <q r → square_of_sum r y ≤q nat 4 *q x

-- |√x − r| = |√x − y| for a y other than r: the root is the middle of r and y
pub record Tie (x r y : ℚ) : Type 0 where
  pub differ : ¬ (r ≈q y)
  pub middle : square_of_sum r y ≈q nat 4 *q x

-- `NonNegative` says finite, too; `fits` that binary64 holds the value
pub record CorrectlyRounded (x r : Float) : Type 0 where
  pub held : T (fits binary64 r)
  pub sign : NonNegative r
  pub nearest : (y : Float) → T (fits binary64 y) → NonNegative y → NotFarther (value x) (value r) (value y)
  pub no_tie : (y : Float) → T (fits binary64 y) → NonNegative y → ¬ Tie (value x) (value r) (value y)
