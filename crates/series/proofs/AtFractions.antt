-- E at a / b and at -a / b, by the sums over whole numbers. Assumes nothing.
use mathlib.Core.Path.{◌≡◌, refl, sym, ap, ◌∙◌, subst}
use mathlib.Core.Bool.{Bool, true, false, cond}
use Prim.Native.Nat.{ℕ, zero, suc, ◌+◌, ◌*◌, ◌^◌, ◌≤◌, ◌<◌, max}
use native.Mathlib.Nat.{mul-pos, mul_comm, mul_assoc, mul_left_comm, mul-one, lt_of_lt_of_le, zero-lt-suc, pow-zero, pow-succ', eq_of_mul-eq-mul_right, not-le_of_lt, le_of_mul-le-mul_right, mul-le-mul_right, zero-mul}
use native.Mathlib.Omega.{arith}
use lib.Dec.{leb}
use borrow.Author.Tests.{leb-true, leb-false}
use Rattle.exact.specs.Fraction.{ℚ, ◌//◌, nat, negq, ◌/q◌, ◌≈q◌}
use Rattle.exact.proofs.FractionLaws.{≈_refl, ≈_sym, *_cong, +_cong, neg_cong}
use Rattle.series.specs.Series.{term, partial_sum, E, top, bot}
use Rattle.series.proofs.Product.{bot_pos}
use Rattle.series.proofs.Tail.{one_le}
use Rattle.series.proofs.Bounds.{top_zero}
use Rattle.series.proofs.Quotients.{◌⟫◌, frac_≈, frac_≡, frac_*, frac_+, frac_nat, one_over, above_cross, below_cross}

pub top_pos : (N a b : ℕ) → 0 < b → 0 < top N a b
top_pos N a b h = lt_of_lt_of_le (bot_pos N b h) (one_le N a b)

module _ (a b : ℕ) (B : 0 < b) {x : ℚ} (e : x ≈q a // b) where
  term_is : (n : ℕ) → term n x ≈q (a ^ n) // bot n b
  unfolding term bot
  term_is zero = ≈_sym (frac_≡ (pow-zero a) refl ⟫ frac_nat 1)
  term_is (suc n) =
      *_cong (*_cong (term_is n) e ⟫ frac_* _ _ (bot_pos n b B) B) (≈_refl (1 // suc n)) ⟫ frac_* _ _ (mul-pos (bot_pos n b B) B) (zero-lt-suc n)
      ⟫ frac_≡ (mul-one (a ^ n * a) ∙ mul_comm (a ^ n) a ∙ sym (pow-succ' a n)) (mul_comm (bot n b * b) (suc n) ∙ ap (λ (z : ℕ). suc n * z) (mul_comm (bot n b) b) ∙ sym (mul_assoc (suc n) b (bot n b)))

  pub partial_sum_is : (N : ℕ) → partial_sum N x ≈q top N a b // bot N b
  unfolding partial_sum term top bot
  partial_sum_is zero = ≈_sym (frac_nat 1)
  partial_sum_is (suc N) =
      let c = suc N * b in
      let C : 0 < c = mul-pos (zero-lt-suc N) B in
      +_cong (partial_sum_is N ⟫ frac_≈ _ _ (bot_pos N b B) (mul-pos C (bot_pos N b B)) (simp (mul_assoc, mul_comm, mul_left_comm) refl)) (term_is (suc N)) ⟫ frac_+ _ _ (mul-pos C (bot_pos N b B))

-- E at a fraction that is not negative, and at one that is not positive
abbrev both : ℕ → ℚ → Bool → ℚ
both N x t = cond t (partial_sum N x) (nat 1 /q partial_sum N (negq x))

-- -0 / b is 0 / b
minus_zero : {x : ℚ} (a b : ℕ) → a ≡ 0 → x ≈q negq (a // b) → x ≈q 0 // b
unfolding ◌//◌ negq
minus_zero {x} a b z e = e ⟫ record { eq = subst (λ (u : ℕ). 0 * max b 1 + 0 * max b 1 ≡ 0 * max b 1 + u * max b 1) (sym z) refl }

module _ (N a b : ℕ) (B : 0 < b) {x : ℚ} where
  at_above : x ≈q a // b → (t : Bool) → leb x.q x.p ≡ t → both N x t ≈q top N a b // bot N b
  at_above e true l = partial_sum_is a b B e N
  at_above e false l = absurd (not_lt_self x.p x.q b B (leb-false x.q x.p l) (omega (arith, above_cross a B e)))
    where
      not_lt_self : (p q b : ℕ) → 0 < b → p < q → q * b ≤ p * b → ⊥
      not_lt_self p q b B l h = not-le_of_lt l (le_of_mul-le-mul_right h B)

  at_below : x ≈q negq (a // b) → (t : Bool) → leb x.q x.p ≡ t → both N x t ≈q bot N b // top N a b
  unfolding negq ◌//◌
  at_below e true l =
      let z : a ≡ 0 = first_zero a x.d x.d_pos (small x.p x.q b (a * x.d) (leb-true x.q x.p l) (below_cross a B e)) in
      partial_sum_is 0 b B (minus_zero a b z e) N ⟫ frac_≡ (top_zero N b) (sym (top_zero N b) ∙ ap (λ (c : ℕ). top N c b) (sym z))
    where
      small : (p q b y : ℕ) → q ≤ p → p * b + y ≡ q * b → y ≡ 0
      small p q b y l h = omega (arith, mul-le-mul_right b l)

      first_zero : (a d : ℕ) → 0 < d → a * d ≡ 0 → a ≡ 0
      first_zero a d D h = eq_of_mul-eq-mul_right d D a 0 (h ∙ sym (zero-mul d))
  at_below e false l = one_over (top_pos N a b B) (bot_pos N b B) (partial_sum_is a b B (neg_cong e) N)

  pub E_above : x ≈q a // b → E N x ≈q top N a b // bot N b
  unfolding E
  E_above e = at_above e (leb x.q x.p) refl

  pub E_below : x ≈q negq (a // b) → E N x ≈q bot N b // top N a b
  unfolding E
  E_below e = at_below e (leb x.q x.p) refl
