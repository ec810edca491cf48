-- Text in a buffer: what is written where, and where it ends.
use Rattle.std.specs.Prelude.{ℕ, zero, suc, ◌+◌, ◌*◌, ◌/◌, ◌%◌, ◌^◌, cond, List, [], ◌∷◌, ltb, length, set, Float}
use Rattle.std.specs.Float.{binary64}
use Rattle.std.specs.Float.Ieee.{is_nan, to_bits}

-- the place after a byte at `at`, in a buffer of n bytes: a byte that has no room takes none
unfoldable pub after : ℕ → ℕ → ℕ
after n at = cond (ltb at n) (at + 1) at

-- the place after a text, and the buffer with the text in it
unfoldable pub end_of : ℕ → ℕ → List ℕ → ℕ
unfolding after
end_of n at [] = at
end_of n at (b ∷ s) = end_of n (after n at) s

unfoldable pub text_at : List ℕ → ℕ → List ℕ → List ℕ
unfolding after
text_at out at [] = out
text_at out at (b ∷ s) = text_at (set out at b) (after (length out) at) s

-- the byte of a hexadecimal digit: 0 to 9, a to f
unfoldable pub byte_of : ℕ → ℕ
byte_of d = cond (ltb d 10) (48 + d) (87 + d)

-- the lowest k digits of b, the highest of them first
unfoldable pub digits_of : ℕ → ℕ → List ℕ
unfolding byte_of
digits_of zero b = []
digits_of (suc k) b = byte_of (b / 2 ^ (4 * k) % 16) ∷ digits_of k b

-- the sixteen digits of a float's bits; any NaN is `nan`
unfoldable pub number_text : Float → List ℕ
unfolding digits_of
number_text x = cond (is_nan x) (110 ∷ 97 ∷ 110 ∷ []) (digits_of 16 (to_bits binary64 x))
