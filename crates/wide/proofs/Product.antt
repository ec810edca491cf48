-- A product of two words by digits of 32 bits: what `mulhi` and `mullo` compute, and that no step of theirs overflows.
use mathlib.Core.Path.{◌≡◌, sym, ap, ◌∙◌, subst}
use Prim.Native.Nat.{ℕ, ◌+◌, ◌*◌, ◌/◌, ◌%◌, ◌^◌, ◌<◌}
use native.Mathlib.Nat.{le_refl, le_of_lt, le_trans, le_of_eq, lt_of_le_of_lt, lt_of_lt_of_le, le-add_right, add_comm, add-le-add, add-lt-add_of_lt_of_le, suc-mul, mul-le-mul_left, mul-le-mul_right, mul-lt-mul_of_pos_left, div-le_of_le-mul, mul-suc, mod-lt}
use native.Mathlib.Omega.{arith}
use lib.Pow.{pow_pos, pow-add, shr_lt, shl_lt, split}
use lib.Bits.{bit_and, and_mask, mask_lt}
use mir.Syntax.{w64}
use mir.Val.{Fits}
use mir.Facts.{Fits-le, Fits-bits}
use Rattle.wide.proofs.Columns.{upper_digits, lower_digits, next}

-- a number of s bits times one of t bits has at most s + t bits
mul_lt_pow : {a b : ℕ} (s t : ℕ) → a < 2 ^ s → b < 2 ^ t → a * b < 2 ^ (s + t)
mul_lt_pow {a} s t ha hb = lt_of_le_of_lt (mul-le-mul_left a (le_of_lt hb)) (shl_lt s t ha)

-- the low 32 bits of a number, as the program takes them
abbrev low : ℕ → ℕ
low n = bit_and n 0xffff_ffff

-- the two columns' sums and the two halves of the product, with `lo` for how the low 32 bits of a number are taken
module _ (lo : ℕ → ℕ) (a b : ℕ) where
  abbrev middle_of : ℕ
  middle_of = a / 2 ^ 32 * lo b + lo a * lo b / 2 ^ 32

  abbrev next_of : ℕ
  next_of = lo middle_of + lo a * (b / 2 ^ 32)

  abbrev upper_of : ℕ
  upper_of = a / 2 ^ 32 * (b / 2 ^ 32) + middle_of / 2 ^ 32 + next_of / 2 ^ 32

  abbrev lower_of : ℕ
  lower_of = next_of % 2 ^ 32 * 2 ^ 32 + lo (lo a * lo b)

-- a mask of 32 ones takes the remainder by 2 ^ 32
pub mulhi_law : (a b : ℕ) → upper_of low a b ≡ a * b / 2 ^ 64
unfolding next
mulhi_law a b =
    (λ i. upper_of (λ (n : ℕ). and_mask n 32 i) a b)
    ∙ sym (upper_digits (2 ^ 32) (a % 2 ^ 32) (a / 2 ^ 32) (b % 2 ^ 32) (b / 2 ^ 32) (pow_pos 32))
    ∙ (λ i. split a 32 i * split b 32 i / sym (pow-add 2 32 32) i)

lower_law : (a b : ℕ) → lower_of low a b ≡ a * b % 2 ^ 64
unfolding next
lower_law a b =
    (λ i. lower_of (λ (n : ℕ). and_mask n 32 i) a b)
    ∙ sym (lower_digits (2 ^ 32) (a % 2 ^ 32) (a / 2 ^ 32) (b % 2 ^ 32) (b / 2 ^ 32) (pow_pos 32))
    ∙ (λ i. (split a 32 i * split b 32 i) % sym (pow-add 2 32 32) i)

-- a shift left by half a word keeps the low half
pub mullo_law : (a b : ℕ) → (next_of low a b * 2 ^ 32) % 2 ^ 64 + low (low a * low b) ≡ a * b % 2 ^ 64
mullo_law a b = ap (λ (n : ℕ). n + low (low a * low b)) (shl_half (next_of low a b)) ∙ lower_law a b
  where
    shl_half : (w : ℕ) → (w * 2 ^ 32) % 2 ^ 64 ≡ w % 2 ^ 32 * 2 ^ 32
    shl_half w = omega arith

-- ---- every step fits a word
product_fits : {x y : ℕ} → x < 2 ^ 32 → y < 2 ^ 32 → Fits w64 (x * y)
product_fits hx hy = Fits-bits (32 + 32) tt (mul_lt_pow 32 32 hx hy)

-- the middle column: a product and the carry from the column below
middle_fits : {x₁ x₀ y₀ : ℕ} → x₁ < 2 ^ 32 → x₀ < 2 ^ 32 → y₀ < 2 ^ 32 → Fits w64 (x₁ * y₀ + x₀ * y₀ / 2 ^ 32)
middle_fits {x₁} {x₀} {y₀} h₁ h₀ l =
    Fits-bits (32 + 32) tt
    (lt_of_le_of_lt
    (le_trans (add-le-add (le_refl (x₁ * y₀)) (div-le_of_le-mul (2 ^ 32) {m = x₀ * y₀} {n = y₀} (mul-le-mul_right y₀ (le_of_lt h₀)))) (le_trans (le_of_eq (sym (suc-mul x₁ y₀))) (mul-le-mul_right y₀ h₁)))
    (lt_of_lt_of_le (mul-lt-mul_of_pos_left l (pow_pos 32)) (le_of_eq (sym (pow-add 2 32 32)))))

-- the next column: the low 32 bits of the middle one, and a product
next_fits : {c x₀ y₁ : ℕ} → c < 2 ^ 32 → x₀ < 2 ^ 32 → y₁ < 2 ^ 32 → Fits w64 (c + x₀ * y₁)
next_fits {c} {x₀} {y₁} hc h₀ l =
    Fits-bits (32 + 32) tt
    (lt_of_lt_of_le (add-lt-add_of_lt_of_le hc (mul-le-mul_right y₁ (le_of_lt h₀)))
    (le_trans (le_of_eq (add_comm (2 ^ 32) (2 ^ 32 * y₁) ∙ sym (mul-suc (2 ^ 32) y₁))) (le_trans (mul-le-mul_left (2 ^ 32) l) (le_of_eq (sym (pow-add 2 32 32))))))

module _ (u v : ℕ) (U : u < 2 ^ 64) (W : v < 2 ^ 64) where
  pub w0_fits : Fits w64 (low u * low v)
  w0_fits = product_fits (mask_lt u 32) (mask_lt v 32)

  pub cross_fits : Fits w64 (u / 2 ^ 32 * low v)
  cross_fits = product_fits (shr_lt 32 32 U) (mask_lt v 32)

  pub t_fits : Fits w64 (middle_of low u v)
  t_fits = middle_fits (shr_lt 32 32 U) (mask_lt u 32) (mask_lt v 32)

  pub cross_fits_2 : Fits w64 (low u * (v / 2 ^ 32))
  cross_fits_2 = product_fits (mask_lt u 32) (shr_lt 32 32 W)

  pub w1_fits : Fits w64 (next_of low u v)
  w1_fits = next_fits (mask_lt (middle_of low u v) 32) (mask_lt u 32) (shr_lt 32 32 W)

  pub high_fits : Fits w64 (u / 2 ^ 32 * (v / 2 ^ 32))
  high_fits = product_fits (shr_lt 32 32 U) (shr_lt 32 32 W)

  pub upper_fits : Fits w64 (upper_of low u v)
  upper_fits = subst (λ (n : ℕ). Fits w64 n) (sym (mulhi_law u v)) (Fits-bits 64 tt (shr_lt 64 64 (mul_lt_pow 64 64 U W)))

  pub without_carry : Fits w64 (u / 2 ^ 32 * (v / 2 ^ 32) + middle_of low u v / 2 ^ 32)
  without_carry = Fits-le (le-add_right (u / 2 ^ 32 * (v / 2 ^ 32) + middle_of low u v / 2 ^ 32) (next_of low u v / 2 ^ 32)) upper_fits

  pub lower_fits : Fits w64 ((next_of low u v * 2 ^ 32) % 2 ^ 64 + low (low u * low v))
  lower_fits = subst (λ (n : ℕ). Fits w64 n) (sym (mullo_law u v)) (Fits-bits 64 tt (mod-lt (u * v) (pow_pos 64)))
