-- The root of A / 2 ^ 2148 for A = N * 4 ^ k, where the root of N has 53 digits: the nearest root of N, times 2 ^ k units.
use Rattle.std.proofs.Common.{◌≡◌, ℕ, zero, suc, ◌+◌, ◌-◌, ◌*◌, ◌/◌, ◌%◌, ◌^◌, ◌<◌, ◌≤◌, false, sym, refl, ap, ◌∙◌, subst, le_trans, le_of_eq, lt_of_lt_of_le, lt_of_le_of_lt, mul-le-mul_right, mul_assoc, le_antisymm, mul-lt-mul_of_pos_right, mul-pos, lt_of_not-le, mul-div_cancel, arith, pow_pos, pow_mono, pow-add}
use native.Mathlib.Nat.{mul-mul-mul_comm, pow-succ', add-sub_cancel_left}
use native.Mathlib.Decide.{dec_le}
use lib.Ieee.{binary64, size, units, of_bits}
use lib.Ieee.Digits.{size-lt, size-le}
use Rattle.square_root.specs.SquareRoot.{isqrt, nearest_root, root_of}
use Rattle.square_root.proofs.WholeRoot.{less, isqrt_root, Nearest, nearest_root_lem, nearest_lo, nearest_hi}
use Rattle.square_root.proofs.Patterns.{pattern_of_units}

pub four_is : (k : ℕ) → 4 ^ k ≡ 2 ^ k * 2 ^ k
four_is zero = refl
four_is (suc k) = pow-succ' 4 k ∙ ap (λ (z : ℕ). 4 * z) (four_is k) ∙ mul-mul-mul_comm 2 2 (2 ^ k) (2 ^ k) ∙ sym (ap (λ (z : ℕ). z * z) (pow-succ' 2 k))

pub four_pos : (k : ℕ) → 0 < 4 ^ k
four_pos k = subst (λ (z : ℕ). 0 < z) (sym (four_is k)) (mul-pos (pow_pos k) (pow_pos k))

module _ (N k : ℕ) (lo : 2 ^ 104 ≤ N) (hi : N < 2 ^ 106) where
  abbrev A : ℕ
  A = N * 4 ^ k

  -- 2 ^ d * 2 ^ k squared
  square : (d : ℕ) → 2 ^ d * 2 ^ k * (2 ^ d * 2 ^ k) ≡ 2 ^ d * 2 ^ d * 4 ^ k
  square d = mul-mul-mul_comm (2 ^ d) (2 ^ k) (2 ^ d) (2 ^ k) ∙ ap (λ (z : ℕ). 2 ^ d * 2 ^ d * z) (sym (four_is k))

  root_lo : 2 ^ 52 * 2 ^ k < isqrt A + 1
  root_lo = less (2 ^ 52 * 2 ^ k) (isqrt A + 1) (lt_of_le_of_lt (le_trans (le_of_eq (square 52)) (mul-le-mul_right (4 ^ k) lo)) (isqrt_root A).high)

  root_hi : isqrt A < 2 ^ 53 * 2 ^ k
  root_hi = less (isqrt A) (2 ^ 53 * 2 ^ k) (lt_of_le_of_lt (isqrt_root A).low (lt_of_lt_of_le (mul-lt-mul_of_pos_right hi (four_pos k)) (le_of_eq (sym (square 53)))))

  size_is : size (isqrt A) ≡ 53 + k
  size_is =
      le_antisymm (size-le (isqrt A) (53 + k) (lt_of_lt_of_le root_hi (le_of_eq (sym (pow-add 2 53 k)))))
      (more (size (isqrt A)) (either (dec_le (size (isqrt A)) (52 + k))))
    where
      more : (x : ℕ) → 52 + k < x → 53 + k ≤ x
      more x h = omega arith

      close : (x p : ℕ) → x < p → p < x + 1 → ⊥
      close x p h l = omega arith

      either : Dec (size (isqrt A) ≤ 52 + k) → 52 + k < size (isqrt A)
      either (yes g) = absurd (close (isqrt A) (2 ^ 52 * 2 ^ k) (lt_of_lt_of_le (size-lt (isqrt A)) (le_trans (pow_mono g) (le_of_eq (pow-add 2 52 k)))) root_lo)
      either (no f) = lt_of_not-le f

  dropped : size (isqrt A) - 53 ≡ k
  dropped = ap (λ (z : ℕ). z - 53) size_is ∙ add-sub_cancel_left 53 k

  pub root_digits : root_of A ≡ units binary64 false (nearest_root N) k
  unfolding root_of
  root_digits =
      ap (λ (j : ℕ). units binary64 false (nearest_root (A / 4 ^ j)) j) dropped
      ∙ ap (λ (n : ℕ). units binary64 false (nearest_root n) k) (mul-div_cancel N (four_pos k))

-- ---- A is N * 4 ^ k, and the root of N has 53 digits
pub record Scaled (A N k : ℕ) : Type 0 where
  pub is : A ≡ N * 4 ^ k
  pub low : 2 ^ 104 ≤ N
  pub high : N < 2 ^ 106
  pub top : k ≤ 2000

pub nearest_of : {A N k : ℕ} → Scaled A N k → Nearest N (nearest_root N)
nearest_of {A} {N} {k} s = nearest_root_lem N (lt_of_lt_of_le (pow_pos 104) s.low)

pub root_of_lem : {A N k : ℕ} → Scaled A N k → root_of A ≡ units binary64 false (nearest_root N) k
root_of_lem {A} {N} {k} s = ap root_of s.is ∙ root_digits N k s.low s.high

pub root_pattern : {A N k : ℕ} (q : ℕ) → Scaled A N k → q ≡ nearest_root N → of_bits binary64 (k * 2 ^ 52 + q) ≡ root_of A
root_pattern {A} {N} {k} q s e =
    let r = nearest_of s in
    ap (λ (q : ℕ). of_bits binary64 (k * 2 ^ 52 + q)) e ∙ pattern_of_units (nearest_root N) k (nearest_lo N (nearest_root N) r s.low) (nearest_hi N (nearest_root N) r s.high) s.top ∙ sym (root_of_lem s)

-- ---- d * 2 ^ e for a d of 53 digits: t is 1 where e is odd
module _ (d : ℕ) (lo : 2 ^ 52 ≤ d) (hi : d < 2 ^ 53) where
  in_range : (t : ℕ) → t < 2 → (2 ^ 104 ≤ d * 2 ^ (52 + t)) × (d * 2 ^ (52 + t) < 2 ^ 106)
  in_range zero h = omega arith
  in_range (suc zero) h = omega arith
  in_range (suc (suc t)) h = omega arith

  -- m = d << (10 + t) has 63 or 64 digits
  pub shifted : (t : ℕ) → t < 2 → (d * 2 ^ (10 + t)) % 2 ^ 64 ≡ d * 2 ^ (10 + t)
  shifted zero h = omega arith
  shifted (suc zero) h = omega arith
  shifted (suc (suc t)) h = omega arith

  -- m << 42 is the number whose root is taken
  pub moved : (t : ℕ) → d * 2 ^ (10 + t) * 2 ^ 42 ≡ d * 2 ^ (52 + t)
  moved t = mul_assoc d (2 ^ (10 + t)) (2 ^ 42) ∙ ap (λ (z : ℕ). d * z) (sym (pow-add 2 (10 + t) 42) ∙ ap (λ (z : ℕ). 2 ^ z) (sum t))
    where
      sum : (t : ℕ) → 10 + t + 42 ≡ 52 + t
      sum t = omega arith

  pub large : (t : ℕ) → t < 2 → 2 ^ 62 ≤ d * 2 ^ (10 + t)
  large zero h = omega arith
  large (suc zero) h = omega arith
  large (suc (suc t)) h = omega arith

  pub scaled : (e : ℕ) → 104 ≤ e → e ≤ 3200 → Scaled (d * 2 ^ e) (d * 2 ^ (52 + e % 2)) ((e - 52) / 2)
  scaled e from to =
      let t = e % 2 in
      let k = (e - 52) / 2 in
      let T : t < 2 = omega arith in
      let h : 52 + t + (k + k) ≡ e = omega arith in
      record {
        is = ap (λ (z : ℕ). d * z) (ap (λ (z : ℕ). 2 ^ z) (sym h) ∙ pow-add 2 (52 + t) (k + k) ∙ ap (λ (z : ℕ). 2 ^ (52 + t) * z) (pow-add 2 k k ∙ sym (four_is k))) ∙ sym (mul_assoc d (2 ^ (52 + t)) (4 ^ k));
        low = (in_range t T).0;
        high = (in_range t T).1;
        top = omega arith;
      }

-- ---- the two words of m << 42
pub words : (m : ℕ) → m / 2 ^ 22 * 2 ^ 64 + (m * 2 ^ 42) % 2 ^ 64 ≡ m * 2 ^ 42
words m = omega arith

pub upper_word : (m : ℕ) → 2 ^ 62 ≤ m → m < 2 ^ 64 → (0 < m / 2 ^ 22) × (m / 2 ^ 22 < 2 ^ 42)
upper_word m h k = (omega arith, omega arith)
