-- pow on f64, as the code computes it: by the base's logarithm, which can be kept for several exponents.
use Rattle.std.specs.Prelude.{◌≡◌, ℕ, ◌*◌, ◌^◌, ◌≤◌, Bool, true, false, not, cond, T, ltb, Float}
use Rattle.std.specs.Float.{nan, inf, binary64}
use Rattle.std.specs.Float.Ieee.{of_bits, neg}
use Rattle.exact.specs.Float64.{◌⊘◌, ◌<f◌, ◌≤f◌, ◌=f◌, +0, +1}
use Rattle.exponential.specs.Mantissa.{hi}
use Rattle.exponential.specs.Exponential.{least, exp_fixed, fixed_of}
use Rattle.logarithm.specs.declared.Log.{Log}
use Rattle.logarithm.specs.declared.Log.TheVariants.{Undefined, BaseZero, BaseOne, Above, Below}
use Rattle.logarithm.specs.Logarithm.{log_of}

-- 4 and -4
abbrev pub four : Float
four = of_bits binary64 0x4010_0000_0000_0000

abbrev pub minus_four : Float
minus_four = neg four

-- e^(t / 2^50), or its reciprocal; beyond 700 infinity, or zero
unfoldable pub power_of : ℕ → Bool → Float
unfolding exp_fixed
power_of t down =
    cond (ltb (700 * 2 ^ 50) t) (cond down +0 (inf false))
    (cond down (+1 ⊘ exp_fixed (8 * t)) (exp_fixed (8 * t)))

-- p * v in units of 2^-50, for p up to 4 and v in units of 2^-53: the whole part of p * 2^53 first
unfoldable pub product_of : Float → ℕ → ℕ
product_of p v = hi (fixed_of p * 256) v

-- the size of an exponent, and whether its power is below 1
abbrev pub size_of : Float → Float
size_of p = cond (p <f +0) (neg p) p

abbrev pub down_of : Bool → Float → Bool
down_of below p = cond (p <f +0) (not below) below

-- the power of a base whose logarithm has the size v, and is negative where the base is below 1
unfoldable pub raised_of : ℕ → Bool → Float → Float
unfolding power_of product_of
raised_of v below p =
    cond (four <f p) nan
    (cond (p <f minus_four) nan
    (cond (+0 <f p) (power_of (product_of p v) below)
    (cond (p <f +0) (power_of (product_of (neg p) v) (not below)) nan)))

-- 0 to a positive power is 0, an infinite one too
abbrev pub zero_to : Float → Float
zero_to p = cond (+0 <f p) +0 nan

abbrev pub nonzero_power : Log → Float → Float
nonzero_power Undefined p = nan
nonzero_power BaseZero p = zero_to p
nonzero_power BaseOne p = +1
nonzero_power (Above v) p = raised_of v false p
nonzero_power (Below v) p = raised_of v true p

-- the exponent 0 gives 1, whatever the base
unfoldable pub pow_from : Log → Float → Float
pow_from l p = cond (p =f +0) +1 (nonzero_power l p)

unfoldable pub pow_of : Float → Float → Float
unfolding pow_from
pow_of b p = pow_from (log_of b) p

-- an exponent from 2^-53 up to 1
pub record Fractional (p : Float) : Type 0 where
  pub at_least : T (least ≤f p)
  pub at_most : T (p ≤f +1)

-- such an exponent in units of 2^-61: the whole part of p * 2^53, and eight zeros behind it
pub record Digits (p : Float) (d : ℕ) : Type 0 where
  pub fractional : Fractional p
  pub digits : d ≡ fixed_of p * 256
  pub few : d ≤ 2 ^ 61
