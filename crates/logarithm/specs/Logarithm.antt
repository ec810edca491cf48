-- ln, ln_1p and the logarithm of a power's base on f64, as the code computes them.
use Rattle.std.specs.Prelude.{ℕ, ◌+◌, ◌-◌, ◌*◌, ◌/◌, ◌%◌, ◌^◌, false, cond, pos, from_bits, nat_lt, to_bits, Float}
use Rattle.std.specs.Int.Count.{count_leading_zeros}
use Rattle.std.specs.Float.{nan, inf, binary64}
use Rattle.std.specs.Float.Ieee.{of_int, neg}
use Rattle.exact.specs.Float64.{◌⊕◌, ◌⊗◌, ◌<f◌, ◌≤f◌, ◌=f◌, +0, +1}
use Rattle.logarithm.specs.FixedPoint.{ln_mant_of, twos_of}
use Rattle.logarithm.specs.declared.Log.{Log}
use Rattle.logarithm.specs.declared.Log.TheVariants.{Undefined, BaseZero, BaseOne, Above, Below}

-- the logarithm of m / 2^62 * 2^n, with m from 2^62 up to 2^63, in units of 2^-53
unfoldable pub log_above : ℕ → ℕ → Log
unfolding ln_mant_of
log_above m n = Above (twos_of n + ln_mant_of m / 2048)

-- that of m / 2^62 / 2^n
unfoldable pub log_below : ℕ → ℕ → Log
unfolding ln_mant_of
log_below m n = Below (twos_of n - ln_mant_of m / 2048)

-- of the positive finite number with these bits: a subnormal one's digits are moved up to 63 first
unfoldable pub log_bits : ℕ → Log
unfolding log_above log_below
log_bits b =
    let z = count_leading_zeros 64 b in
    let m = (b % 2 ^ 52 + 2 ^ 52) * 1024 in
    cond (nat_lt b (2 ^ 52)) (log_below (b * 2 ^ (z - 1)) (1011 + z))
    (cond (nat_lt (b / 2 ^ 52) 1023) (log_below m (1023 - b / 2 ^ 52))
    (log_above m (b / 2 ^ 52 - 1023)))

-- the logarithm of a base; that of 1 and of a zero are kept apart, where a power is exact
unfoldable pub log_of : Float → Log
unfolding log_bits
log_of b =
    cond (+0 <f b)
    (cond (b <f inf false) (cond (b =f +1) BaseOne (log_bits (to_bits binary64 b))) Undefined)
    (cond (b =f +0) BaseZero Undefined)

-- the size of a logarithm, and a number above every size for a base that has none or is 1
unfoldable pub size_of_log : Log → ℕ
size_of_log (Above v) = v
size_of_log (Below v) = v
size_of_log Undefined = 0xffff_ffff_ffff_ffff
size_of_log BaseZero = 0xffff_ffff_ffff_ffff
size_of_log BaseOne = 0xffff_ffff_ffff_ffff

unfoldable pub log_size_of : Float → ℕ
log_size_of b = size_of_log (log_of b)

-- 2^-1022, the least positive normal number, and 2^-53
abbrev pub least_normal : Float
least_normal = from_bits binary64 0x0010_0000_0000_0000

abbrev pub ulp : Float
ulp = from_bits binary64 0x3ca0_0000_0000_0000

-- v / 2^53, rounded once
abbrev pub rounded_of : ℕ → Float
rounded_of v = of_int binary64 (pos v) ⊗ ulp

abbrev pub ln_from : Log → Float
ln_from BaseOne = +0
ln_from (Above v) = rounded_of v
ln_from (Below v) = neg (rounded_of v)
ln_from Undefined = nan
ln_from BaseZero = nan

-- ln x for x positive and normal; NaN otherwise
unfoldable pub ln_of : Float → Float
unfolding log_of
ln_of x = cond (least_normal ≤f x) (ln_from (log_of x)) nan

-- ln(1 + a) for a finite and not negative; NaN otherwise
unfoldable pub ln1p_of : Float → Float
unfolding ln_of
ln1p_of a = cond (+0 ≤f a) (ln_of (+1 ⊕ a)) nan
