-- The logarithm of a number from 1 up to 2 in fixed point, on natural numbers: a table and a polynomial.
use Rattle.std.specs.Prelude.{ℕ, ◌+◌, ◌-◌, ◌*◌, ◌/◌, ◌%◌, ◌^◌, slice_index}
use Rattle.exponential.specs.Mantissa.{hi}
use Rattle.tables.specs.LnTable.{ln_table, inverse_of}

-- The polynomial z - z^2 / 2 + z^3 / 3 - c4 z^4 + c5 z^5, for z up to h = 1/128: its coefficients in units of 2^-64.
-- With a = 57 h / 64, c4 = 1/4 - a^2 / 6 and c5 = 1/5 - a / 3: it is above the terms up to z^6 of the logarithm's series by z^4 (z - a)^2 / 6, which is below 2^-51.
abbrev pub third : ℕ
third = 0x5555555555555555

abbrev pub fourth : ℕ
fourth = 0x3fff78a000000000

abbrev pub fifth : ℕ
fifth = 0x329b333333333333

-- ln(1 + z) for z below 1/128, z and the result in units of 2^-64
unfoldable pub near_one : ℕ → ℕ
near_one z = let w = hi z z in z - hi w (2 ^ 63 - hi z third + hi w (fourth - hi z fifth))

-- ln 2 in units of 2^-64, from above: 2048 times 6243314768165360
abbrev pub limit : ℕ
limit = 12786308645202657280

-- ln(m / 2^62) in units of 2^-64, for m from 2^62 up to 2^63: m / 2^62 = (1 + j / 128)(1 + z).
-- The quotient 1 + z is 2^64 and z units: the remainder by 2^64 is z.
unfoldable pub ln_mant_of : ℕ → ℕ
unfolding near_one
ln_mant_of m =
    let j = m / 2 ^ 55 % 128 in
    slice_index ln_table j + near_one (8 * hi m (inverse_of j) % 2 ^ 64)

-- n ln 2 in units of 2^-53, rounded up: 6243314768165360 * 2048 is 1621 above ln 2 * 2^64
abbrev pub twos_of : ℕ → ℕ
twos_of n = n * 6243314768165360 - n * 1621 / 2048
