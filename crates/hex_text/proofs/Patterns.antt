-- Which patterns are a NaN's.
use Prim.Native.Nat.{ℕ, ◌*◌, ◌/◌, ◌%◌}
use mathlib.Core.Path.{◌≡◌, refl, sym, ◌∙◌, ap, subst}
use mathlib.Core.Bool.{Bool, true, false, not, cond, ◌&&◌, ◌||◌, beq}
use lib.Dec.{T, eqb, leb}
use lib.Ieee.{up, down, level, Float, nan, inf, fin, eq, ne, is_nan, binary64, of_bits, of_fields, nan_bits, to_bits, top, hid}
use Rattle.hex_text.specs.Text.{digits_of, number_text}
use borrow.Author.Tests.{eq-eqb, ne_eqb}

nan_fields : (s : Bool) (x t : ℕ) → x ≡ 2047 → (t ≡ 0 → ⊥) → of_fields binary64 s x t ≡ nan
unfolding of_fields
nan_fields s x t e n = ap (λ (x : ℕ). of_fields binary64 s x t) e ∙ ap (λ (b : Bool). cond b (inf s) nan) (ne_eqb t 0 n)

pub nan_pattern : (b : ℕ) → b % top binary64 / hid binary64 ≡ 2047 → (b % hid binary64 ≡ 0 → ⊥) → of_bits binary64 b ≡ nan
unfolding of_bits
nan_pattern b e n = nan_fields (leb (top binary64) b) (b % top binary64 / hid binary64) (b % hid binary64) e n

both : (x t : Bool) → x ≡ false → T (not (x && t))
both x t e = subst (λ (b : Bool). T (not (b && t))) (sym e) tt

second : (x t : Bool) → t ≡ true → T (not (x && not t))
second true t e = subst (λ (b : Bool). T (not (not b))) (sym e) tt
second false t e = tt

pub other_field : (b : ℕ) → (b % top binary64 / hid binary64 ≡ 2047 → ⊥) → T (not (nan_bits binary64 b))
unfolding nan_bits
other_field b n = both (eqb (b % top binary64 / hid binary64) 2047) (not (eqb (b % hid binary64) 0)) (ne_eqb (b % top binary64 / hid binary64) 2047 n)

pub no_digits : (b : ℕ) → b % hid binary64 ≡ 0 → T (not (nan_bits binary64 b))
unfolding nan_bits
no_digits b e = second (eqb (b % top binary64 / hid binary64) 2047) (eqb (b % hid binary64) 0) (eq-eqb (b % hid binary64) 0 e)

-- what equals itself is a number
pub is_number : (x : Float) → ne x x ≡ false → T (not (is_nan x))
unfolding ne eq is_nan
is_number nan e = absurd (subst T e tt)
is_number (inf s) e = tt
is_number (fin s m k) e = tt

itself : (s : Bool) (a : ℕ) → eqb a a && (beq s s || eqb a 0) ≡ true
itself true a = ap (λ (b : Bool). b && true) (eq-eqb a a refl)
itself false a = ap (λ (b : Bool). b && true) (eq-eqb a a refl)

clash : (b : Bool) → b ≡ true → not b ≡ true → ⊥
clash true e n = subst T (sym n) tt
clash false e n = subst T (sym e) tt

pub no_number : (x : Float) → ne x x ≡ true → is_nan x ≡ true
unfolding ne eq is_nan
no_number nan e = refl
no_number (inf true) e = absurd (subst T (sym e) tt)
no_number (inf false) e = absurd (subst T (sym e) tt)
no_number (fin s m k) e = absurd (clash (level s (m * up k * down k) s (m * up k * down k)) (itself s (m * up k * down k)) e)

-- the text of what is a number: the sixteen digits of its bits
pub number_text_lem : (x : Float) → T (not (is_nan x)) → number_text x ≡ digits_of 16 (to_bits binary64 x)
unfolding number_text is_nan
number_text_lem nan t = absurd t
number_text_lem (inf s) t = refl
number_text_lem (fin s m k) t = refl
