-- The fractions a // b of natural numbers: when two are one number, their order, sums, products and reciprocals. Assumes nothing.
use mathlib.Core.Path.{◌≡◌, refl, sym, ap, subst, subst₂}
use Prim.Native.Nat.{ℕ, ◌+◌, ◌-◌, ◌*◌, ◌≤◌, ◌<◌, max}
use native.Mathlib.Nat.{mul-pos, mul_comm, sub-add_cancel}
use mathlib.Core.Logic.{inl, inr}
use native.Mathlib.Omega.{arith}
use Rattle.exact.specs.Fraction.{ℚ, ◌//◌, nat, ◌+q◌, negq, ◌*q◌, ◌/q◌, ◌≤q◌, ◌≈q◌}
use Rattle.exact.proofs.FractionLaws.{≈_refl, ≈_sym, ≈_trans, *_comm, *_assoc, *_cong, one_*}
use Rattle.exact.proofs.StrictOrder.{≤_or_≤}
pub use Rattle.exact.proofs.StrictOrder.{≤_or_≤ as ≤-or}
use Rattle.exact.proofs.FractionDivision.{div_*}

infixr 30 ◌⟫◌
pub ◌⟫◌ : {x y z : ℚ} → x ≈q y → y ≈q z → x ≈q z
◌⟫◌ e f = ≈_trans e f

max_is : (b : ℕ) → 0 < b → max b 1 ≡ b
max_is b h = omega arith

pub frac_≈ : (a c : ℕ) {b d : ℕ} → 0 < b → 0 < d → a * d ≡ c * b → a // b ≈q c // d
unfolding ◌//◌
frac_≈ a c {b} {d} B D h = record { eq = subst₂ (λ (u v : ℕ). a * v + 0 * u ≡ c * u + 0 * v) (sym (max_is b B)) (sym (max_is d D)) (omega arith) }

pub frac_≤ : (a c : ℕ) {b d : ℕ} → 0 < b → 0 < d → a * d ≤ c * b → a // b ≤q c // d
unfolding ◌//◌
frac_≤ a c {b} {d} B D h = record { le = subst₂ (λ (u v : ℕ). a * v + 0 * u ≤ c * u + 0 * v) (sym (max_is b B)) (sym (max_is d D)) (omega arith) }

pub cross_≤ : (a c : ℕ) {b d : ℕ} → 0 < b → 0 < d → a // b ≤q c // d → a * d ≤ c * b
unfolding ◌//◌
cross_≤ a c {b} {d} B D h = let k = subst₂ (λ (u v : ℕ). a * v + 0 * u ≤ c * u + 0 * v) (max_is b B) (max_is d D) h.le in omega arith

pub frac_≡ : {a b c d : ℕ} → a ≡ c → b ≡ d → a // b ≈q c // d
frac_≡ {a} {b} {c} {d} e f = subst₂ (λ (u v : ℕ). a // b ≈q u // v) e f (≈_refl (a // b))

pub frac_* : (a c : ℕ) {b d : ℕ} → 0 < b → 0 < d → (a // b) *q (c // d) ≈q (a * c) // (b * d)
unfolding ◌//◌ ◌*q◌
frac_* a c {b} {d} B D =
    record {
      eq = subst₂ (λ (u v : ℕ). (a * c + 0 * 0) * max (b * d) 1 + 0 * (u * v) ≡ a * c * (u * v) + (a * 0 + 0 * c) * max (b * d) 1) (sym (max_is b B)) (sym (max_is d D))
          (rw (max_is (b * d) (mul-pos B D)) (omega arith));
    }

pub frac_+ : (a c : ℕ) {b : ℕ} → 0 < b → (a // b) +q (c // b) ≈q (a + c) // b
unfolding ◌//◌ ◌+q◌
frac_+ a c {b} B = record { eq = rw (max_is b B) (omega arith) }

pub frac_nat : (n : ℕ) → n // 1 ≈q nat n
unfolding ◌//◌ nat
frac_nat n = record { eq = omega arith }

-- a / a = 1
pub frac_one : (a : ℕ) → 0 < a → a // a ≈q nat 1
unfolding ◌//◌ nat
frac_one a A = record { eq = rw (max_is a A) (omega arith) }

pub frac_reciprocal : (a b : ℕ) → 0 < a → 0 < b → (a // b) *q (b // a) ≈q nat 1
frac_reciprocal a b A B = frac_* a b B A ⟫ frac_≡ (mul_comm a b) refl ⟫ frac_one (b * a) (mul-pos B A)

-- what gives 1 with a / b is b / a
pub only_reciprocal : {z y : ℚ} {a b : ℕ} → 0 < a → 0 < b → y ≈q a // b → z *q y ≈q nat 1 → z ≈q b // a
only_reciprocal {z} {y} {a} {b} A B e h =
    ≈_sym (one_* z) ⟫ *_comm (nat 1) z ⟫ *_cong (≈_refl z) (≈_sym (frac_reciprocal a b A B)) ⟫ ≈_sym (*_assoc z (a // b) (b // a))
    ⟫ *_cong (*_cong (≈_refl z) (≈_sym e) ⟫ h) (≈_refl (b // a)) ⟫ one_* (b // a)

-- above 0, so not 0
pub frac_not_zero : {y : ℚ} {a b : ℕ} → 0 < a → 0 < b → y ≈q a // b → ¬ (y ≈q nat 0)
unfolding ◌//◌ nat
frac_not_zero {y} {a} {b} A B e z = let h = (≈_sym e ⟫ z).eq in absurd (none a (max b 1) A h)
  where
    none : (a m : ℕ) → 0 < a → a * 1 + 0 * m ≡ 0 * m + 0 * 1 → ⊥
    none a m A h = omega arith

pub one_over : {y : ℚ} {a b : ℕ} → 0 < a → 0 < b → y ≈q a // b → nat 1 /q y ≈q b // a
one_over {y} A B e = only_reciprocal A B e (div_* (nat 1) y (frac_not_zero A B e))

-- ---- a fraction with its sign: a / b, or -a / b
pub above_cross : {x : ℚ} (a : ℕ) {b : ℕ} → 0 < b → x ≈q a // b → x.p * b ≡ a * x.d + x.q * b
unfolding ◌//◌
above_cross {x} a {b} B e = let h = subst (λ (u : ℕ). x.p * u + 0 * x.d ≡ a * x.d + x.q * u) (max_is b B) e.eq in omega arith

pub below_cross : {x : ℚ} (a : ℕ) {b : ℕ} → 0 < b → x ≈q negq (a // b) → x.p * b + a * x.d ≡ x.q * b
unfolding ◌//◌ negq
below_cross {x} a {b} B e = let h = subst (λ (u : ℕ). x.p * u + a * x.d ≡ 0 * x.d + x.q * u) (max_is b B) e.eq in omega arith

-- over any multiple of its denominator
module _ (x : ℚ) (m : ℕ) (M : 0 < m) where
  whole_den : max (x.d * m) 1 ≡ x.d * m
  whole_den = max_is (x.d * m) (mul-pos x.d_pos M)

  pub above_of : nat 0 ≤q x → (a : ℕ) × (x ≈q a // (x.d * m))
  unfolding ◌//◌ nat
  above_of h = ((x.p - x.q) * m, record { eq = subst (λ (u : ℕ). x.p * u + 0 * x.d ≡ (x.p - x.q) * m * x.d + x.q * u) (sym whole_den) (up x.p x.q x.d m (x.p - x.q) (sub-add_cancel (let k = h.le in omega arith))) })
    where
      up : (p q d m n : ℕ) → n + q ≡ p → p * (d * m) + 0 * d ≡ n * m * d + q * (d * m)
      up p q d m n e = omega (arith, ap (λ (t : ℕ). t * (d * m)) e)

  pub below_of : x ≤q nat 0 → (a : ℕ) × (x ≈q negq (a // (x.d * m)))
  unfolding ◌//◌ nat negq
  below_of h = ((x.q - x.p) * m, record { eq = subst (λ (u : ℕ). x.p * u + (x.q - x.p) * m * x.d ≡ 0 * x.d + x.q * u) (sym whole_den) (down x.p x.q x.d m (x.q - x.p) (sub-add_cancel (let k = h.le in omega arith))) })
    where
      down : (p q d m n : ℕ) → n + p ≡ q → p * (d * m) + n * m * d ≡ 0 * d + q * (d * m)
      down p q d m n e = omega (arith, ap (λ (t : ℕ). t * (d * m)) e)

pub data Sign (x : ℚ) (b : ℕ) : Type 0 where
  above : (a : ℕ) → x ≈q a // b → Sign x b
  below : (a : ℕ) → x ≈q negq (a // b) → Sign x b

pub sign_of : (x : ℚ) (m : ℕ) → 0 < m → Sign x (x.d * m)
sign_of x m M = elim (≤_or_≤ (nat 0) x) [
  | inl h ↦ let r = above_of x m M h in above r.0 r.1
  | inr h ↦ let r = below_of x m M h in below r.0 r.1
]
