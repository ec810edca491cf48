-- What the prover over ℕ can do, one example each: these break if it stops working. What it costs: docs/PROVING.md.
use Prim.Native.Nat.{ℕ, ◌+◌, ◌*◌, ◌^◌, ◌≤◌, ◌<◌}
use mathlib.Core.Path.{◌≡◌, subst₂}
use mathlib.Core.List.{[], ◌∷◌}
use native.Mathlib.Nat.{le_dest}
use native.Mathlib.Omega.{arith}
use Rattle.exact.proofs.NatProver.{ν, #, ◌⊹◌, ◌⋆◌, ◌↑◌, poly_eq, poly_le, poly_by, ◌≼◌by◌}

-- ---- equations: multiplied out and compared
square_of_a_sum : (a b : ℕ) → (a + b) * (a + b) ≡ a * a + 2 * (a * b) + b * b
square_of_a_sum a b = let x = ν 0 in let y = ν 1 in poly_eq (a ∷ b ∷ []) ((x ⊹ y) ⋆ (x ⊹ y)) (x ⋆ x ⊹ # 2 ⋆ (x ⋆ y) ⊹ y ⋆ y) tt tt

-- four variables, degree 4, factors in another order
factors_in_another_order : (a b c d : ℕ) → (a + b + c + d) * (a + b + c + d) * (a + b + c + d) * (a + b) ≡ (a + b) * (a + b + c + d) * ((a + b + c + d) * (a + b + c + d))
factors_in_another_order a b c d = let s = ν 0 ⊹ ν 1 ⊹ ν 2 ⊹ ν 3 in let t = ν 0 ⊹ ν 1 in poly_eq (a ∷ b ∷ c ∷ d ∷ []) (s ⋆ s ⋆ s ⋆ t) (t ⋆ s ⋆ (s ⋆ s)) tt tt

-- 924 monomials, where `omega` stops at 64
sixth_power_of_seven : (a b c d e f g : ℕ) → (a + b + c + d + e + f + g) ^ 6 ≡ (a + b + c + d + e + f + g) ^ 3 * (g + f + e + d + c + b + a) ^ 3
sixth_power_of_seven a b c d e f g =
    let s = ν 0 ⊹ ν 1 ⊹ ν 2 ⊹ ν 3 ⊹ ν 4 ⊹ ν 5 ⊹ ν 6 in
    let t = ν 6 ⊹ ν 5 ⊹ ν 4 ⊹ ν 3 ⊹ ν 2 ⊹ ν 1 ⊹ ν 0 in
    poly_eq (a ∷ b ∷ c ∷ d ∷ e ∷ f ∷ g ∷ []) (s ↑ 6) (s ↑ 3 ⋆ t ↑ 3) tt tt

-- ---- orders: each coefficient is at most the other's
fewer_of_each : (a b : ℕ) → (a + b) * (a + b) ≤ (a + b) * (2 * a + b) + 1
fewer_of_each a b = let x = ν 0 in let y = ν 1 in poly_le (a ∷ b ∷ []) ((x ⊹ y) ⋆ (x ⊹ y)) ((x ⊹ y) ⋆ (# 2 ⋆ x ⊹ y) ⊹ # 1) tt

-- ---- orders from hypotheses, each times a polynomial
-- constants of a thousand bits, written as a number and as a power
thousand_bit_number : (a b : ℕ) → a * 2 ^ 1074 ≤ b → a * 2 ^ 1075 ≤ b * 2
thousand_bit_number a b = poly_by (a ∷ b ∷ []) ((ν 0 ⋆ # (2 ^ 1074) ≼ ν 1 by # 2) ∷ []) (# 1) (ν 0 ⋆ # (2 ^ 1075)) (ν 1 ⋆ # 2) tt

thousand_bit_power : (a b : ℕ) → a * 2 ^ 1074 ≤ b → a * 2 ^ 1075 ≤ b * 2
thousand_bit_power a b = poly_by (a ∷ b ∷ []) ((ν 0 ⋆ # 2 ↑ 1074 ≼ ν 1 by # 2) ∷ []) (# 1) (ν 0 ⋆ # 2 ↑ 1075) (ν 1 ⋆ # 2) tt

-- x / p ≤ y / q ≤ z / r: two hypotheses times a variable, and a common factor q divided out
between_fractions : (x y z p q r : ℕ) → 0 < q → x * q ≤ y * p → y * r ≤ z * q → x * r ≤ z * p
between_fractions x y z p q r =
    let X = ν 0 in let Y = ν 1 in let Z = ν 2 in let P = ν 3 in let Q = ν 4 in let R = ν 5 in
    poly_by (x ∷ y ∷ z ∷ p ∷ q ∷ r ∷ []) ((# 1 ≼ Q by # 1) ∷ (X ⋆ Q ≼ Y ⋆ P by R) ∷ (Y ⋆ R ≼ Z ⋆ Q by P) ∷ []) Q (X ⋆ R) (Z ⋆ P) tt

-- ---- what it does not do: a product of two hypotheses is a lemma of its own, which is then one more hypothesis
product_of_hypotheses : (x y p q : ℕ) → x ≤ y → p ≤ q → x * q + y * p ≤ x * p + y * q
product_of_hypotheses x y p q f g = let (d, e) = le_dest f in let (c, i) = le_dest g in subst₂ (λ y q. x * q + y * p ≤ x * p + y * q) e i (omega arith)
