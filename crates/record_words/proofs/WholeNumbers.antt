-- A word that is a whole number: its bits where it is a number, all ones where it is none; and a whole number below 2 ^ 52 is read back
-- from the float of its bits.
-- Assumes nothing.
use Prim.Native.Nat.{ℕ, ◌<◌, ◌/◌, ◌%◌, ◌^◌}
use mathlib.Core.Path.{◌≡◌, refl, sym, ◌∙◌, ap, subst}
use mathlib.Core.Bool.{Bool, true, false, not, cond}
use lib.Dec.{T}
use lib.Ieee.{Float, nan, inf, fin, ne, is_nan, binary64, to_bits, of_bits}
use lib.Ieee.Bits.{to_bits-of_bits, nan_bits_is}
use native.Mathlib.Omega.{arith}
use Rattle.hex_text.proofs.Patterns.{is_number, no_number, other_field}
use Rattle.record_words.specs.Words.{whole_of, float_of}

pub no_whole : (x : Float) → ne x x ≡ true → 18446744073709551615 ≡ whole_of x
unfolding whole_of
no_whole x e = sym (ap (λ (b : Bool). cond b 18446744073709551615 (to_bits binary64 x)) (no_number x e))

bits_of_number : (x : Float) → T (not (is_nan x)) → to_bits binary64 x ≡ whole_of x
unfolding whole_of is_nan
bits_of_number nan t = absurd t
bits_of_number (inf s) t = refl
bits_of_number (fin s m k) t = refl

pub a_whole : (x : Float) → ne x x ≡ false → to_bits binary64 x ≡ whole_of x
a_whole x e = bits_of_number x (is_number x e)

-- ---- a whole number below 2 ^ 52 has an exponent's field of 0, so it is no NaN's bits

field_zero : (n : ℕ) → n < 4503599627370496 → n % 9223372036854775808 / 4503599627370496 ≡ 2047 → ⊥
field_zero n h e = omega arith

is_float : (n : ℕ) → n < 2 ^ 52 → T (not (is_nan (of_bits binary64 n)))
is_float n h = subst (λ (b : Bool). T (not b)) (nan_bits_is binary64 n) (other_field n (field_zero n h))

below_all : (n : ℕ) → n < 4503599627370496 → n < 18446744073709551616
below_all n h = omega arith

pub whole_back : (n : ℕ) → n < 2 ^ 52 → whole_of (float_of n) ≡ n
whole_back n h = sym (bits_of_number (of_bits binary64 n) (is_float n h)) ∙ to_bits-of_bits binary64 n (below_all n h) (is_float n h)
