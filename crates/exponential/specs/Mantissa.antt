-- e^(r / 2^64) in fixed point on natural numbers, for r from 0 to ln 2 and a little more: a table and a polynomial.
use Rattle.std.specs.Prelude.{ℕ, ◌+◌, ◌*◌, ◌/◌, ◌%◌, ◌^◌, slice_index_or}
pub use Rattle.tables.specs.ExpTable.{exp_table}

-- the upper word of a product
abbrev pub hi : ℕ → ℕ → ℕ
hi a b = a * b / 2 ^ 64

-- c₃ = 1/6 - a²/120 and c₄ = 1/24 + 2a/120 for a = 7/8 of 1/256, in units of 2^-63, rounded down. With them
-- 1 + x + x²/2 + c₃ x³ + c₄ x⁴ is x³ (x - a)²/120 less than the series to x⁵/120: so it never exceeds e^x.
abbrev pub cubic : ℕ
cubic = 0x1555548444444444

abbrev pub quartic : ℕ
quartic = 0x557333333333333

-- e^x - 1 in units of 2^-63, for x = t / 2^64 up to 1/256: x + x² (1/2 + x (c₃ + x c₄)), each product cut to a whole number
unfoldable pub minus_one : ℕ → ℕ
minus_one t = t / 2 + hi (hi t t) (0x4000000000000000 + hi t (cubic + hi t quartic))

-- e^(r / 2^64) in units of 2^-62: e^(j / 256) by the table, times e^(t / 2^64)
unfoldable pub mant_of : ℕ → ℕ
unfolding minus_one
mant_of r =
    let b = slice_index_or exp_table (r / 2 ^ 56) 0 in
    b / 2 + hi b (minus_one (r % 2 ^ 56))
