-- The exact cases of the power, and where it is no number. Document 01: "Exact: .. 1 to any power = 1, exponent 0 gives 1, 0 to a
-- positive power = 0. Every other argument gives NaN", of "a positive finite base and an exponent of size at most 4".
use Rattle.std.specs.Prelude.{◌≡◌, true, false, Float}
use Rattle.std.specs.Float.{nan, inf}
use Rattle.exact.specs.Float64.{◌<f◌, ◌=f◌, +0, +1}
use Rattle.power.specs.Power.{four, minus_four, pow_of}

pub record SpecialCases : Type 0 where
  pub exponent_zero : (b p : Float) → (p =f +0) ≡ true → pow_of b p ≡ +1
  pub base_one : (b p : Float) → (+0 <f b) ≡ true → (b <f inf false) ≡ true → (b =f +1) ≡ true → pow_of b p ≡ +1
  pub base_zero : (b p : Float) → (+0 <f b) ≡ false → (b =f +0) ≡ true → (p =f +0) ≡ false → (+0 <f p) ≡ true → pow_of b p ≡ +0
  pub base_zero_nan : (b p : Float) → (+0 <f b) ≡ false → (b =f +0) ≡ true → (p =f +0) ≡ false → (+0 <f p) ≡ false → pow_of b p ≡ nan
  pub base_not_positive : (b p : Float) → (+0 <f b) ≡ false → (b =f +0) ≡ false → (p =f +0) ≡ false → pow_of b p ≡ nan
  pub base_infinite : (b p : Float) → (+0 <f b) ≡ true → (b <f inf false) ≡ false → (p =f +0) ≡ false → pow_of b p ≡ nan
  pub exponent_above_four : (b p : Float) → (b =f +1) ≡ false → (b =f +0) ≡ false → (p =f +0) ≡ false → (four <f p) ≡ true → pow_of b p ≡ nan
  pub exponent_below_minus_four : (b p : Float) → (b =f +1) ≡ false → (b =f +0) ≡ false → (p =f +0) ≡ false → (p <f minus_four) ≡ true → pow_of b p ≡ nan
  pub exponent_nan : (b : Float) → (b =f +1) ≡ false → (b =f +0) ≡ false → pow_of b nan ≡ nan
