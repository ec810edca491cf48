-- The bit pattern of q * 2 ^ k units of the smallest value.
use Rattle.std.proofs.Common.{◌≡◌, ℕ, suc, ◌+◌, ◌-◌, ◌*◌, ◌/◌, ◌^◌, ◌<◌, ◌≤◌, Bool, false, cond, T, ltb, sym, ap, ◌∙◌, subst, inl, inr, le_trans, le_of_eq, lt_of_lt_of_le, lt_of_le_of_lt, mul-le-mul_right, le_antisymm, eq-or-lt_of_le, mul-lt-mul_of_pos_right, lt_of_not-le, not-le_of_lt, mul-div_cancel, arith, lit<, pow_pos, pow_mono, pow-add}
use native.Mathlib.Nat.{add-sub_cancel_left}
use lib.Pow.{pow-lt}
use lib.Ieee.{Float, nan, inf, fin, binary64, up, down, size, odd, units, of_bits, to_bits, fits}
use lib.Ieee.Fits.{down_pos, odd-fits, cond-fits, inf-fits}
use lib.Ieee.Bits.{of_bits-to_bits}
use lib.Ieee.Exact.{HasValue, units_val}
use lib.Ieee.Digits.{size-lt, size-le}

-- ---- the pattern of q * 2 ^ k units is k * 2 ^ 52 + q, for a q of 53 digits, and for 2 ^ 53 too
size_of : (a j l : ℕ) → suc j ≡ l → 2 ^ j ≤ a → a < 2 ^ l → size a ≡ l
size_of a j l e lo hi =
    le_antisymm (size-le a l hi)
    (subst (λ (i : ℕ). i ≤ size a) e (lt_of_not-le (λ (g : size a ≤ j). not-le_of_lt (lt_of_lt_of_le (size-lt a) (pow_mono g)) lo)))

-- the pattern by the number of units
bits_of : (x : Float) (a : ℕ) → HasValue x false a (2 ^ 1074) → to_bits binary64 x ≡ (size a - 53) * 2 ^ 52 + a / 2 ^ (size a - 53)
unfolding to_bits
bits_of nan a h = absurd h
bits_of (inf s) a h = absurd h
bits_of (fin s m e) a h =
    ap (λ (t : Bool). cond t (2 ^ 63) 0 + (size (m * up e * 2 ^ 1074 / down e) - 53) * 2 ^ 52 + m * up e * 2 ^ 1074 / down e / 2 ^ (size (m * up e * 2 ^ 1074 / down e) - 53)) h.0
    ∙ ap (λ (n : ℕ). 0 + (size n - 53) * 2 ^ 52 + n / 2 ^ (size n - 53)) (ap (λ (z : ℕ). z / down e) h.1 ∙ mul-div_cancel a (down_pos e))
    ∙ tidy ((size a - 53) * 2 ^ 52) (a / 2 ^ (size a - 53))
  where
    tidy : (x y : ℕ) → 0 + x + y ≡ x + y
    tidy x y = omega arith

module _ (q k : ℕ) (lo : 2 ^ 52 ≤ q) where
  abbrev a : ℕ
  a = q * 2 ^ k

  at_size : (j : ℕ) → size a ≡ 53 + j → (size a - 53) * 2 ^ 52 + a / 2 ^ (size a - 53) ≡ j * 2 ^ 52 + a / 2 ^ j
  at_size j e = ap (λ (z : ℕ). z * 2 ^ 52 + a / 2 ^ z) (ap (λ (z : ℕ). z - 53) e ∙ add-sub_cancel_left 53 j)

  below_top : q < 2 ^ 53 → (size a - 53) * 2 ^ 52 + a / 2 ^ (size a - 53) ≡ k * 2 ^ 52 + q
  below_top hi =
      at_size k
      (size_of a (52 + k) (53 + k) (next k) (le_trans (le_of_eq (pow-add 2 52 k)) (mul-le-mul_right (2 ^ k) lo)) (lt_of_lt_of_le (mul-lt-mul_of_pos_right hi (pow_pos k)) (le_of_eq (sym (pow-add 2 53 k)))))
      ∙ ap (λ (z : ℕ). k * 2 ^ 52 + z) (mul-div_cancel q (pow_pos k))
    where
      next : (k : ℕ) → suc (52 + k) ≡ 53 + k
      next k = omega arith

  at_top : q ≡ 2 ^ 53 → (size a - 53) * 2 ^ 52 + a / 2 ^ (size a - 53) ≡ k * 2 ^ 52 + q
  at_top e =
      let p : a ≡ 2 ^ (53 + k) = ap (λ (z : ℕ). z * 2 ^ k) e ∙ sym (pow-add 2 53 k) in
      let r : a ≡ 2 ^ 52 * 2 ^ suc k = p ∙ ap (λ (z : ℕ). 2 ^ z) (move k) ∙ pow-add 2 52 (suc k) in
      at_size (suc k)
      (size_of a (53 + k) (53 + suc k) (move' k) (le_of_eq (sym p)) (lt_of_le_of_lt (le_of_eq p) (pow-lt (more k))))
      ∙ ap (λ (z : ℕ). suc k * 2 ^ 52 + z / 2 ^ suc k) r
      ∙ ap (λ (z : ℕ). suc k * 2 ^ 52 + z) (mul-div_cancel (2 ^ 52) (pow_pos (suc k)))
      ∙ last k q e
    where
      move : (k : ℕ) → 53 + k ≡ 52 + suc k
      move k = omega arith

      move' : (k : ℕ) → suc (53 + k) ≡ 53 + suc k
      move' k = omega arith

      more : (k : ℕ) → 53 + k < 53 + suc k
      more k = omega arith

      last : (k q : ℕ) → q ≡ 2 ^ 53 → suc k * 2 ^ 52 + 2 ^ 52 ≡ k * 2 ^ 52 + q
      last k q e = omega arith

  module _ (hi : q ≤ 2 ^ 53) (top : k ≤ 2000) where
    under : a < 2 ^ 2098
    under = lt_of_le_of_lt (le_trans (mul-le-mul_right (2 ^ k) hi) (le_of_eq (sym (pow-add 2 53 k)))) (pow-lt (room k top))
      where
        room : (k : ℕ) → k ≤ 2000 → 53 + k < 2098
        room k h = omega arith

    pub units_value : HasValue (units binary64 false q k) false (q * 2 ^ k) (2 ^ 1074)
    units_value = units_val binary64 false q k under

    pub units_fit : T (fits binary64 (units binary64 false q k))
    unfolding units
    units_fit = cond-fits binary64 (ltb a (2 ^ 2098)) (odd 54 false q k 1074) (inf false) (odd-fits binary64 54 false q k (lt_of_le_of_lt hi (lit< tt)) hi under) (inf-fits binary64 false)

    pub pattern_of_units : of_bits binary64 (k * 2 ^ 52 + q) ≡ units binary64 false q k
    pattern_of_units =
        ap (λ (b : ℕ). of_bits binary64 b) (sym (bits_of (units binary64 false q k) a units_value ∙ elim (eq-or-lt_of_le hi) [
          | inl e ↦ at_top e
          | inr h ↦ below_top h
        ]))
        ∙ of_bits-to_bits binary64 (units binary64 false q k) units_fit
