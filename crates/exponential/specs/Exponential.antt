-- exp on f64, as the code computes it: in fixed point, one bit pattern for each argument.
use Rattle.std.specs.Prelude.{ℕ, ◌+◌, ◌-◌, ◌*◌, ◌/◌, ◌^◌, false, cond, from_bits, Float}
use Rattle.std.specs.Float.{nan, inf, binary64}
use Rattle.std.specs.Float.Ieee.{to_unsigned, neg}
use Rattle.exact.specs.Float64.{◌⊗◌, ◌⊘◌, ◌<f◌, ◌=f◌, +0, +1}
use Rattle.exponential.specs.Mantissa.{hi, mant_of}

-- 700.0, 2^-53, and 9007199254740992.0 = 2^53
abbrev pub greatest : Float
greatest = from_bits binary64 0x4085_e000_0000_0000

abbrev pub least : Float
least = from_bits binary64 0x3ca0_0000_0000_0000

abbrev pub unit : Float
unit = from_bits binary64 0x4340_0000_0000_0000

-- ln 2 in units of 2^-64, rounded down, and its inverse in units of 2^-63: 2^127 / lnTwo, rounded down
abbrev pub ln_two : ℕ
ln_two = 12786308645202655659

abbrev pub per_ln_two : ℕ
per_ln_two = 0xb8aa_3b29_5c17_f0bc

-- X / 2^53 is k ln 2 and a rest r
abbrev pub place_of : ℕ → ℕ
place_of X = hi X per_ln_two / 2 ^ 52

-- r in units of 2^-64. It is not negative, as perLnTwo is rounded down, and above lnTwo by less than 2^10
unfoldable pub rest_of : ℕ → ℕ
rest_of X = X * 2 ^ 11 - place_of X * ln_two

-- the bits of m * 2^(k - 62), cut to 53 digits, for m from 2^62 up to 2^63 + 2^10: from 2^63 on m / 2^10 is 2^53, which carries into the exponent
unfoldable pub pattern_of : ℕ → ℕ → ℕ
pattern_of m k = (k + 1022) * 2 ^ 52 + m / 2 ^ 10

-- e^(X / 2^53) = 2^k e^r, for X up to 700 * 2^53
unfoldable pub exp_fixed : ℕ → Float
unfolding rest_of pattern_of mant_of
exp_fixed X = from_bits binary64 (pattern_of (mant_of (rest_of X)) (place_of X))

-- the whole part of x * 2^53
abbrev pub fixed_of : Float → ℕ
fixed_of x = to_unsigned 64 (x ⊗ unit)

-- e^x for 0 < x ≤ 700
unfoldable pub exp_above : Float → Float
unfolding exp_fixed
exp_above x = exp_fixed (fixed_of x)

-- +infinity above 700, zero below -700, the reciprocal below zero, 1 at both zeros, NaN at NaN
unfoldable pub exp_of : Float → Float
unfolding exp_above
exp_of x =
    cond (greatest <f x) (inf false)
    (cond (x <f neg greatest) +0
    (cond (+0 <f x) (exp_above x)
    (cond (x <f +0) (+1 ⊘ exp_above (neg x))
    (cond (x =f +0) +1 nan))))
