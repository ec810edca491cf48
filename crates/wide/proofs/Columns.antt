-- The product of two numbers of two digits each in any base P, column by column with carries: its upper two digits and its lower two.
use mathlib.Core.Path.{◌≡◌, refl, sym, ap, ◌∙◌}
use Prim.Native.Nat.{ℕ, zero, ◌+◌, ◌*◌, ◌/◌, ◌%◌, ◌<◌}
use native.Mathlib.Nat.{add_assoc, add_comm, add_left_comm, mul_assoc, mul_comm, mul_left_comm, mul-add, add-mul, mod-lt, div-add-mod'}
use lib.Arith.{digits_lt, digits_div, digits_mod}

-- four regroupings of sums and products, which `simp` sorts
step₁ : (P a₀ a₁ b₀ b₁ : ℕ) → (a₁ * P + a₀) * (b₁ * P + b₀) ≡ a₁ * b₁ * (P * P) + a₁ * b₀ * P + a₀ * b₁ * P + a₀ * b₀
step₁ P a₀ a₁ b₀ b₁ = simp (mul-add, add-mul, mul_assoc, mul_comm, mul_left_comm, add_assoc, add_comm, add_left_comm) refl

step₂ : (P a₀ a₁ b₀ b₁ q₀ r₀ : ℕ) → a₁ * b₁ * (P * P) + a₁ * b₀ * P + a₀ * b₁ * P + (q₀ * P + r₀) ≡ a₁ * b₁ * (P * P) + (a₁ * b₀ + q₀) * P + a₀ * b₁ * P + r₀
step₂ P a₀ a₁ b₀ b₁ q₀ r₀ = simp (add-mul, mul_assoc, mul_comm, mul_left_comm, add_assoc, add_comm, add_left_comm) refl

step₃ : (P a₀ a₁ b₁ r₀ q r : ℕ) → a₁ * b₁ * (P * P) + (q * P + r) * P + a₀ * b₁ * P + r₀ ≡ a₁ * b₁ * (P * P) + q * (P * P) + (r + a₀ * b₁) * P + r₀
step₃ P a₀ a₁ b₁ r₀ q r = simp (add-mul, mul_assoc, mul_comm, mul_left_comm, add_assoc, add_comm, add_left_comm) refl

step₄ : (P a₁ b₁ r₀ q q₁ r₁ : ℕ) → a₁ * b₁ * (P * P) + q * (P * P) + (q₁ * P + r₁) * P + r₀ ≡ (a₁ * b₁ + q + q₁) * (P * P) + (r₁ * P + r₀)
step₄ P a₁ b₁ r₀ q q₁ r₁ = simp (add-mul, mul_assoc, mul_comm, mul_left_comm, add_assoc, add_comm, add_left_comm) refl

-- the product by its columns, given each column's carry and digit
columns : (P a₀ a₁ b₀ b₁ q₀ r₀ q r q₁ r₁ : ℕ) → a₀ * b₀ ≡ q₀ * P + r₀ → a₁ * b₀ + q₀ ≡ q * P + r → r + a₀ * b₁ ≡ q₁ * P + r₁ → (a₁ * P + a₀) * (b₁ * P + b₀) ≡ (a₁ * b₁ + q + q₁) * (P * P) + (r₁ * P + r₀)
columns P a₀ a₁ b₀ b₁ q₀ r₀ q r q₁ r₁ e₀ e e₁ =
    step₁ P a₀ a₁ b₀ b₁ ∙ ap (λ (x : ℕ). a₁ * b₁ * (P * P) + a₁ * b₀ * P + a₀ * b₁ * P + x) e₀
    ∙ step₂ P a₀ a₁ b₀ b₁ q₀ r₀ ∙ ap (λ (x : ℕ). a₁ * b₁ * (P * P) + x * P + a₀ * b₁ * P + r₀) e
    ∙ step₃ P a₀ a₁ b₁ r₀ q r ∙ ap (λ (x : ℕ). a₁ * b₁ * (P * P) + q * (P * P) + x * P + r₀) e₁
    ∙ step₄ P a₁ b₁ r₀ q q₁ r₁

-- the middle column's sum, and the next one's, as the program computes them
unfoldable pub middle : (P a₀ a₁ b₀ : ℕ) → ℕ
middle P a₀ a₁ b₀ = a₁ * b₀ + a₀ * b₀ / P

unfoldable pub next : (P a₀ a₁ b₀ b₁ : ℕ) → ℕ
unfolding middle
next P a₀ a₁ b₀ b₁ = middle P a₀ a₁ b₀ % P + a₀ * b₁

module _ (P a₀ a₁ b₀ b₁ : ℕ) (h : zero < P) where
  abbrev pub upper : ℕ
  upper = a₁ * b₁ + middle P a₀ a₁ b₀ / P + next P a₀ a₁ b₀ b₁ / P

  abbrev pub lower : ℕ
  lower = next P a₀ a₁ b₀ b₁ % P * P + a₀ * b₀ % P

  whole : (a₁ * P + a₀) * (b₁ * P + b₀) ≡ upper * (P * P) + lower
  unfolding next
  whole =
      columns P a₀ a₁ b₀ b₁ (a₀ * b₀ / P) (a₀ * b₀ % P) (middle P a₀ a₁ b₀ / P) (middle P a₀ a₁ b₀ % P) (next P a₀ a₁ b₀ b₁ / P) (next P a₀ a₁ b₀ b₁ % P)
      (sym (div-add-mod' (a₀ * b₀) P)) (sym (div-add-mod' (middle P a₀ a₁ b₀) P)) (sym (div-add-mod' (next P a₀ a₁ b₀ b₁) P))

  lower_lt : lower < P * P
  lower_lt = digits_lt (mod-lt (next P a₀ a₁ b₀ b₁) h) (mod-lt (a₀ * b₀) h)

  pub upper_digits : (a₁ * P + a₀) * (b₁ * P + b₀) / (P * P) ≡ upper
  upper_digits = ap (λ (n : ℕ). n / (P * P)) whole ∙ digits_div upper lower_lt

  pub lower_digits : (a₁ * P + a₀) * (b₁ * P + b₀) % (P * P) ≡ lower
  lower_digits = ap (λ (n : ℕ). n % (P * P)) whole ∙ digits_mod upper lower_lt
