-- What an item of a list writes: a float, a whole number, a column, or a pair of offset and length.
use Rattle.std.specs.Prelude.{ℕ, cond, List, ltb, Float, Option, Some, None}
use Rattle.std.specs.Option.{option_map, option_and_then}
use Rattle.replay.specs.Number.{number_of, whole_of, on_both}

unfoldable pub number_in : List ℕ → Option Float
number_in item = number_of item

unfoldable pub whole_in : List ℕ → Option ℕ
whole_in item = whole_of item

-- a column is a whole number of 32 bits
unfoldable pub in_column : ℕ → Option ℕ
in_column x = cond (ltb 4294967295 x) None (Some x)

unfoldable pub column_in : List ℕ → Option ℕ
column_in item = option_and_then in_column (whole_of item)

-- a pair is two whole numbers, a colon between
unfoldable pub two_wholes : List ℕ → List ℕ → Option (ℕ × ℕ)
two_wholes first second = option_and_then (λ (offset : ℕ). option_map (λ (length : ℕ). (offset, length)) (whole_of second)) (whole_of first)

unfoldable pub pair_of : List ℕ → Option (ℕ × ℕ)
pair_of w = on_both two_wholes w

unfoldable pub offset_in : List ℕ → Option ℕ
offset_in item = option_map (λ (p : ℕ × ℕ). p.0) (pair_of item)

unfoldable pub length_in : List ℕ → Option ℕ
length_in item = option_map (λ (p : ℕ × ℕ). p.1) (pair_of item)
