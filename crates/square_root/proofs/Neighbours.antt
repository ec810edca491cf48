-- The nearest root in units, against every other value of the format: S = q * 2 ^ k units, where q is the nearest whole number to the root of N, and A = N * 4 ^ k.
-- A value is j * 2 ^ i units with j < 2 ^ 53. The middle of it and S lies on the far side of the root of A.
use Rattle.std.proofs.Common.{◌≡◌, ℕ, suc, ◌+◌, ◌-◌, ◌*◌, ◌^◌, ◌<◌, ◌≤◌, sym, ap, ◌∙◌, subst, le_trans, le_of_eq, lt_of_lt_of_le, lt_of_le_of_lt, mul-le-mul_right, mul_assoc, mul-le-mul, lt_of_mul-lt-mul_right, mul-le-mul_left, mul-lt-mul_of_pos_right, lt_of_not-le, not-le_of_lt, arith, pow_mono, pow-add}
use native.Mathlib.Nat.{pow-succ'}
use native.Mathlib.Decide.{dec_le}
use Rattle.square_root.proofs.WholeRoot.{Nearest}

-- from 2 ^ 52 * 2 ^ k units on, values are multiples of 2 ^ k units
next_value : (s k j i : ℕ) → 2 ^ 52 ≤ s → j < 2 ^ 53 → s * 2 ^ k < j * 2 ^ i → (s + 1) * 2 ^ k ≤ j * 2 ^ i
next_value s k j i lo small h = either (dec_le k i)
  where
    multiple : k ≤ i → (s + 1) * 2 ^ k ≤ j * 2 ^ i
    multiple g =
        let c = i - k in
        let e : j * 2 ^ i ≡ j * 2 ^ c * 2 ^ k = ap (λ (z : ℕ). j * 2 ^ z) (split i k g) ∙ ap (λ (z : ℕ). j * z) (pow-add 2 c k) ∙ sym (mul_assoc j (2 ^ c) (2 ^ k)) in
        let l : s < j * 2 ^ c = lt_of_mul-lt-mul_right (2 ^ k) (lt_of_lt_of_le h (le_of_eq e)) in
        le_trans (mul-le-mul_right (2 ^ k) (more s (j * 2 ^ c) l)) (le_of_eq (sym e))
      where
        split : (i k : ℕ) → k ≤ i → i ≡ i - k + k
        split i k g = omega arith

        more : (s t : ℕ) → s < t → s + 1 ≤ t
        more s t h = omega arith

    coarse : i < k → ⊥
    coarse g =
        not-le_of_lt h
        (le_trans (mul-le-mul_right (2 ^ i) (below j small))
        (le_trans (le_of_eq (mul_assoc (2 ^ 52) 2 (2 ^ i)))
        (mul-le-mul lo (le_trans (le_of_eq (sym (pow-succ' 2 i))) (pow_mono g)))))
      where
        below : (j : ℕ) → j < 2 ^ 53 → j ≤ 2 ^ 52 * 2
        below j h = omega arith

    either : Dec (k ≤ i) → (s + 1) * 2 ^ k ≤ j * 2 ^ i
    either (yes g) = multiple g
    either (no f) = absurd (coarse (lt_of_not-le f))

-- S is nearer to the root of A than any other value is
pub record Nearer (A S : ℕ) : Type 0 where
  pub above : (j i : ℕ) → j < 2 ^ 53 → S < j * 2 ^ i → 4 * A < (S + j * 2 ^ i) * (S + j * 2 ^ i)
  pub below : (j i : ℕ) → j < 2 ^ 53 → j * 2 ^ i < S → (S + j * 2 ^ i) * (S + j * 2 ^ i) < 4 * A

-- squares of multiples of P
lower : (P m n Q : ℕ) → Q ≡ P * P → 0 < Q → n < m * m → n * Q < m * P * (m * P)
lower P m n Q e z h = lt_of_lt_of_le (mul-lt-mul_of_pos_right h z) (le_of_eq (ap (λ (t : ℕ). m * m * t) e ∙ tidy m P))
  where
    tidy : (m P : ℕ) → m * m * (P * P) ≡ m * P * (m * P)
    tidy m P = omega arith

upper : (P m n Q : ℕ) → Q ≡ P * P → 0 < Q → m * m < n → m * P * (m * P) < n * Q
upper P m n Q e z h = lt_of_le_of_lt (le_of_eq (tidy m P ∙ ap (λ (t : ℕ). m * m * t) (sym e))) (mul-lt-mul_of_pos_right h z)
  where
    tidy : (m P : ℕ) → m * P * (m * P) ≡ m * m * (P * P)
    tidy m P = omega arith

module _ (N k q Q : ℕ) (r : Nearest N q) (lo : 2 ^ 104 ≤ N) (q_lo : 2 ^ 52 ≤ q) (Q_is : Q ≡ 2 ^ k * 2 ^ k) (Q_pos : 0 < Q) where
  pub nearer : Nearer (N * Q) (q * 2 ^ k)
  nearer = record { above = over; below = under }
    where
      four : (N Q : ℕ) → 4 * (N * Q) ≡ 4 * N * Q
      four N Q = omega arith

      over : (j i : ℕ) → j < 2 ^ 53 → q * 2 ^ k < j * 2 ^ i → 4 * (N * Q) < (q * 2 ^ k + j * 2 ^ i) * (q * 2 ^ k + j * 2 ^ i)
      over j i small h =
          let n = next_value q k j i q_lo small h in
          let a : (2 * q + 1) * 2 ^ k ≤ q * 2 ^ k + j * 2 ^ i = omega arith in
          let b : 4 * N < (2 * q + 1) * (2 * q + 1) = let g = r.high in omega arith in
          lt_of_le_of_lt (le_of_eq (four N Q)) (lt_of_lt_of_le (lower (2 ^ k) (2 * q + 1) (4 * N) Q Q_is Q_pos b) (mul-le-mul a a))

      -- q = p + 1: the value below is at most p * 2 ^ k, where p still has 53 digits
      further : (p : ℕ) → q ≡ p + 1 → 2 ^ 52 ≤ p → (j i : ℕ) → j < 2 ^ 53 → j * 2 ^ i < q * 2 ^ k → (q * 2 ^ k + j * 2 ^ i) * (q * 2 ^ k + j * 2 ^ i) < 4 * (N * Q)
      further p e p-lo j i small h =
          let c : j * 2 ^ i ≤ p * 2 ^ k = go (dec_le (j * 2 ^ i) (p * 2 ^ k)) in
          let a : q * 2 ^ k + j * 2 ^ i ≤ (2 * p + 1) * 2 ^ k = omega (arith, ap (λ (t : ℕ). t * 2 ^ k) e) in
          let b : (2 * p + 1) * (2 * p + 1) < 4 * N = square p (subst (λ (q : ℕ). q * q < N + q) e r.low) in
          lt_of_lt_of_le (lt_of_le_of_lt (mul-le-mul a a) (upper (2 ^ k) (2 * p + 1) (4 * N) Q Q_is Q_pos b)) (le_of_eq (sym (four N Q)))
        where
          square : (p : ℕ) → (p + 1) * (p + 1) < N + (p + 1) → (2 * p + 1) * (2 * p + 1) < 4 * N
          square p h = omega arith

          go : Dec (j * 2 ^ i ≤ p * 2 ^ k) → j * 2 ^ i ≤ p * 2 ^ k
          go (yes g) = g
          go (no f) = absurd (not-le_of_lt h (subst (λ (q : ℕ). q * 2 ^ k ≤ j * 2 ^ i) (sym e) (next_value p k j i p-lo small (lt_of_not-le f))))

      -- q = 2 ^ 52, and the root is not below it
      least : q ≡ 2 ^ 52 → (j i : ℕ) → j * 2 ^ i < q * 2 ^ k → (q * 2 ^ k + j * 2 ^ i) * (q * 2 ^ k + j * 2 ^ i) < 4 * (N * Q)
      least e j i h =
          let b : q * q ≤ N = subst (λ (z : ℕ). z * z ≤ N) (sym e) lo in
          let a : q * 2 ^ k + j * 2 ^ i < 2 * q * 2 ^ k = omega arith in
          lt_of_lt_of_le (squares (q * 2 ^ k + j * 2 ^ i) (2 * q * 2 ^ k) a)
          (le_trans (le_of_eq (tidy q (2 ^ k) ∙ ap (λ (t : ℕ). 4 * (q * q * t)) (sym Q_is))) (mul-le-mul_left 4 (mul-le-mul_right Q b)))
        where
          squares : (x y : ℕ) → x < y → x * x < y * y
          squares x y h = let a : x * x ≤ x * y = mul-le-mul_left x (le_trans (below x) h) in let b : (x + 1) * y ≤ y * y = mul-le-mul_right y (up x y h) in omega arith
            where
              below : (x : ℕ) → x ≤ suc x
              below x = omega arith

              up : (x y : ℕ) → x < y → x + 1 ≤ y
              up x y h = omega arith

          tidy : (q P : ℕ) → 2 * q * P * (2 * q * P) ≡ 4 * (q * q * (P * P))
          tidy q P = omega arith

      under : (j i : ℕ) → j < 2 ^ 53 → j * 2 ^ i < q * 2 ^ k → (q * 2 ^ k + j * 2 ^ i) * (q * 2 ^ k + j * 2 ^ i) < 4 * (N * Q)
      under j i small h = either (dec_le (2 ^ 52 + 1) q)
        where
          either : Dec (2 ^ 52 + 1 ≤ q) → (q * 2 ^ k + j * 2 ^ i) * (q * 2 ^ k + j * 2 ^ i) < 4 * (N * Q)
          either (yes g) = further (q - 1) (omega arith) (omega arith) j i small h
          either (no f) = let g : q < 2 ^ 52 + 1 = lt_of_not-le f in least (omega arith) j i h
