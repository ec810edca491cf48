-- The exact case of the logarithm, and where it is no number. Document 01: "Exact: .. ln 1 = 0 .. Every other argument gives NaN", of
-- "the logarithm y of a positive normal number" and of "ln(1 + a), with a finite and not negative".
use Rattle.std.specs.Prelude.{◌≡◌, false, Float}
use Rattle.std.specs.Float.{nan, inf}
use Rattle.exact.specs.Float64.{◌≤f◌, +0, +1}
use Rattle.logarithm.specs.Logarithm.{least_normal, ln_of, ln1p_of}

pub record SpecialCases : Type 0 where
  pub ln_of_one : ln_of +1 ≡ +0
  pub ln_not_normal : (x : Float) → (least_normal ≤f x) ≡ false → ln_of x ≡ nan
  pub ln_of_infinity : ln_of (inf false) ≡ nan
  pub ln_1p_negative : (a : Float) → (+0 ≤f a) ≡ false → ln1p_of a ≡ nan
  pub ln_1p_of_infinity : ln1p_of (inf false) ≡ nan
