-- The float of a pattern that `assembled` makes. Assumes nothing.
use Rattle.std.proofs.Common.{◌≡◌, ℕ, ◌+◌, ◌-◌, ◌*◌, ◌/◌, ◌%◌, ◌^◌, ◌<◌, ◌≤◌, Bool, false, cond, sym, refl, ap, ◌∙◌, subst, le_trans, le_of_eq, add-zero, mul_assoc, mul_comm, mul-le-mul_left, lt_of_not-le, mul-one, mul-add, arith, pow_pos, pow-add, le-ltb}
use native.Mathlib.Nat.{eq_of_mul-eq-mul_right}
use native.Mathlib.Decide.{dec_le}
use lib.Ieee.{Float, nan, inf, fin, binary64, of_bits, up, down}
use lib.Ieee.Exact.{HasValue}
use Rattle.exact.proofs.PositivePatterns.{units_of, units_of_pattern}
use Rattle.exponential.specs.Exponential.{pattern_of}

-- s * 2 ^ e units, for an s of 53 digits
units_at : (s e : ℕ) → 2 ^ 52 ≤ s → s < 2 ^ 53 → units_of (e * 2 ^ 52 + s) ≡ s * 2 ^ e
unfolding units_of
units_at s e lo hi =
    ap (λ (t : Bool). cond t (e * 2 ^ 52 + s) (((e * 2 ^ 52 + s) % 2 ^ 52 + 2 ^ 52) * 2 ^ ((e * 2 ^ 52 + s) / 2 ^ 52 - 1))) (le-ltb (e * 2 ^ 52 + s) (2 ^ 52) (large s e lo))
    ∙ (λ i. digits s e lo hi i * 2 ^ place s e lo hi i)
  where
    large : (s e : ℕ) → 2 ^ 52 ≤ s → 2 ^ 52 ≤ e * 2 ^ 52 + s
    large s e h = omega arith

    digits : (s e : ℕ) → 2 ^ 52 ≤ s → s < 2 ^ 53 → (e * 2 ^ 52 + s) % 2 ^ 52 + 2 ^ 52 ≡ s
    digits s e h k = omega arith

    place : (s e : ℕ) → 2 ^ 52 ≤ s → s < 2 ^ 53 → (e * 2 ^ 52 + s) / 2 ^ 52 - 1 ≡ e
    place s e h k = omega arith

smaller : (y : Float) (s k : ℕ) → HasValue y false (s * 2 ^ (k + 1022)) (2 ^ 1074) → HasValue y false (s * 2 ^ k) (2 ^ 52)
smaller nan s k v = absurd v
smaller (inf t) s k v = absurd v
smaller (fin t m e) s k v = (
  v.0,
  eq_of_mul-eq-mul_right (2 ^ 1022) (pow_pos 1022) (m * up e * 2 ^ 52) (s * 2 ^ k * down e)
      (mul_assoc (m * up e) (2 ^ 52) (2 ^ 1022) ∙ v.1 ∙ ap (λ (z : ℕ). s * z * down e) (pow-add 2 k 1022) ∙ sort s (2 ^ k) (2 ^ 1022) (down e)),
)
  where
    sort : (s p q d : ℕ) → s * (p * q) * d ≡ s * p * d * q
    sort s p q d = omega arith

at : (s k : ℕ) → 2 ^ 52 ≤ s → s < 2 ^ 53 → k ≤ 1011 → HasValue (of_bits binary64 ((k + 1022) * 2 ^ 52 + s)) false (s * 2 ^ k) (2 ^ 52)
at s k lo hi h = smaller (of_bits binary64 ((k + 1022) * 2 ^ 52 + s)) s k (subst (λ (n : ℕ). HasValue (of_bits binary64 ((k + 1022) * 2 ^ 52 + s)) false n (2 ^ 1074)) (units_at s (k + 1022) lo hi) (units_of_pattern ((k + 1022) * 2 ^ 52 + s) (small s k hi h)))
  where
    small : (s k : ℕ) → s < 2 ^ 53 → k ≤ 1011 → (k + 1022) * 2 ^ 52 + s < 2047 * 2 ^ 52
    small s k h g = omega arith

pub record Held (m k : ℕ) (r : Float) : Type 0 where
  pub w : ℕ
  pub is : HasValue r false w (2 ^ 52)
  pub large : 2 ^ 52 ≤ w
  pub under : w * 2 ^ 10 ≤ 2 ^ k * m
  pub over : 2 ^ k * m ≤ w * 2 ^ 10 + 2 ^ 11 * 2 ^ k

-- times a power of two
not_less : (s j : ℕ) → 2 ^ 52 ≤ s → 2 ^ 52 ≤ s * 2 ^ j
not_less s j h = le_trans h (le_trans (le_of_eq (sym (mul-one s))) (mul-le-mul_left s (pow_pos j)))

-- s is m / q cut to a whole number of 53 digits, for q = 2^10 or 2^11
held_at : (m k d q s : ℕ) → s * q ≤ m → m ≤ s * q + 2 ^ 11 → 2 ^ 10 * 2 ^ d ≡ q → 2 ^ 52 ≤ s → s < 2 ^ 53 → k + d ≤ 1011 → Held m k (of_bits binary64 ((k + d + 1022) * 2 ^ 52 + s))
held_at m k d q s cut rest e low high h = record {
  w = s * 2 ^ (k + d);
  is = at s (k + d) low high h;
  large = not_less s (k + d) low;
  under = le_trans (le_of_eq moved) (mul-le-mul_left (2 ^ k) cut);
  over = le_trans (mul-le-mul_left (2 ^ k) rest) (le_of_eq (mul-add (2 ^ k) (s * q) (2 ^ 11) ∙ (λ i. sym moved i + mul_comm (2 ^ k) (2 ^ 11) i)));
}
  where
    sort : (s p r t : ℕ) → s * (p * r) * t ≡ p * (s * (t * r))
    sort s p r t = omega arith

    moved : s * 2 ^ (k + d) * 2 ^ 10 ≡ 2 ^ k * (s * q)
    moved = ap (λ (z : ℕ). s * z * 2 ^ 10) (pow-add 2 k d) ∙ sort s (2 ^ k) (2 ^ d) (2 ^ 10) ∙ ap (λ (z : ℕ). 2 ^ k * (s * z)) e

pub held : (m k : ℕ) → 2 ^ 62 ≤ m → m < 2 ^ 63 + 2 ^ 10 → k ≤ 1010 → Held m k (of_bits binary64 (pattern_of m k))
unfolding pattern_of
held m k lo hi h = either (dec_le (2 ^ 63) m)
  where
    carried : (m k : ℕ) → 2 ^ 63 ≤ m → m < 2 ^ 63 + 2 ^ 10 → (k + 1 + 1022) * 2 ^ 52 + 2 ^ 52 ≡ (k + 1022) * 2 ^ 52 + m / 2 ^ 10
    carried m k g f = omega arith

    either : Dec (2 ^ 63 ≤ m) → Held m k (of_bits binary64 ((k + 1022) * 2 ^ 52 + m / 2 ^ 10))
    either (yes g) = subst (λ (z : ℕ). Held m k (of_bits binary64 z)) (carried m k g hi) (held_at m k 1 (2 ^ 11) (2 ^ 52) (omega arith) (omega arith) refl (omega arith) (omega arith) (omega arith))
    either (no f) =
        let g : m < 2 ^ 63 = lt_of_not-le f in
        subst (λ (z : ℕ). Held m k (of_bits binary64 ((z + 1022) * 2 ^ 52 + m / 2 ^ 10))) (add-zero k) (held_at m k 0 (2 ^ 10) (m / 2 ^ 10) (omega arith) (omega arith) refl (omega arith) (omega arith) (omega arith))
