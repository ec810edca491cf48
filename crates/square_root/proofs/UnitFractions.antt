-- Values as whole numbers of a unit 1 / L: their order, and the middle of two of them, or a square, against a root.
use Rattle.std.proofs.Common.{◌≡◌, ℕ, ◌+◌, ◌*◌, ◌^◌, ◌<◌, ◌≤◌, max, Bool, true, false, ap, mul-le-mul_right, lt_of_mul-lt-mul_right, mul-lt-mul_of_pos_right, mul-pos, arith, pow_pos}
use lib.Ieee.{binary64}
use Rattle.exact.specs.Fraction.{ℚ, ◌//◌, nat, ◌+q◌, negq, ◌-q◌, ◌*q◌, ◌≤q◌, ◌<q◌, ◌≈q◌, Within}
use Rattle.exact.specs.FloatValue.{signed}
use Rattle.exact.proofs.FractionLaws.{≈_sym, ≈_trans, ≤_trans, ≤_of_≈}
use Rattle.exact.proofs.Representable.{Representable}
use Rattle.square_root.specs.CorrectlyRounded.{square_of_sum}

module _ (L : ℕ) (l : 0 < L) where
  abbrev pub unit : ℕ → ℚ
  unit n = signed false n L l

  pub unit_< : {a b : ℕ} → unit a <q unit b → a < b
  unit_< {a} {b} h = lt_of_mul-lt-mul_right L (let e = h.lt in omega arith)

  pub unit_nonneg : (a : ℕ) → nat 0 ≤q unit a
  unfolding nat
  unit_nonneg a = record { le = omega arith }

  -- a signed number of units that is not negative
  pub unsigned : (s : Bool) (n : ℕ) {z : ℚ} → signed s n L l ≈q z → nat 0 ≤q z → z ≈q unit n
  unfolding nat
  unsigned false n e h = ≈_sym e
  unsigned true n e h = let g = (≤_trans h (≤_of_≈ (≈_sym e))).le in ≈_trans (≈_sym e) (record { eq = zero_both n (omega arith) })
    where
      zero_both : (n : ℕ) → n ≤ 0 → 0 * L + 0 * L ≡ n * L + n * L
      zero_both n h = let e : n ≡ 0 = omega arith in omega (arith, ap (λ (t : ℕ). t * L) e)

  module _ (s t u : ℕ) where
    pub middle_above : 4 * (u * L) < (s + t) * (s + t) → nat 4 *q unit u <q square_of_sum (unit s) (unit t)
    unfolding nat ◌*q◌ ◌+q◌
    middle_above h = record { lt = go (mul-lt-mul_of_pos_right h (mul-pos (mul-pos l l) l)) }
      where
        go : 4 * (u * L) * (L * L * L) < (s + t) * (s + t) * (L * L * L) → (4 * u + 0 * 0) * (L * L * (L * L)) + ((s * L + t * L) * (0 * L + 0 * L) + (0 * L + 0 * L) * (s * L + t * L)) * (1 * L) < ((s * L + t * L) * (s * L + t * L) + (0 * L + 0 * L) * (0 * L + 0 * L)) * (1 * L) + (4 * 0 + 0 * u) * (L * L * (L * L))
        go h = omega arith

    pub middle_below : (s + t) * (s + t) < 4 * (u * L) → square_of_sum (unit s) (unit t) <q nat 4 *q unit u
    unfolding nat ◌*q◌ ◌+q◌
    middle_below h = record { lt = go (mul-lt-mul_of_pos_right h (mul-pos (mul-pos l l) l)) }
      where
        go : (s + t) * (s + t) * (L * L * L) < 4 * (u * L) * (L * L * L) → ((s * L + t * L) * (s * L + t * L) + (0 * L + 0 * L) * (0 * L + 0 * L)) * (1 * L) + (4 * 0 + 0 * u) * (L * L * (L * L)) < (4 * u + 0 * 0) * (L * L * (L * L)) + ((s * L + t * L) * (0 * L + 0 * L) + (0 * L + 0 * L) * (s * L + t * L)) * (1 * L)
        go h = omega arith

  -- s * s and u * L are at most 1 / M of the latter apart
  module _ (s u M : ℕ) (m : 0 < M) where
    one_or_more : max M 1 ≡ M
    one_or_more = omega arith

    pub square_close : M * (s * s) ≤ M * (u * L) + u * L → M * (u * L) ≤ M * (s * s) + u * L → Within (unit s *q unit s) (unit u) (1 // M *q unit u)
    unfolding nat ◌*q◌ ◌+q◌ ◌-q◌ negq ◌//◌
    square_close a b = record {
      above = record { le = rw one_or_more (over (mul-le-mul_right (L * L) a)) };
      below = record { le = rw one_or_more (under (mul-le-mul_right (L * L) b)) };
    }
      where
        over : M * (s * s) * (L * L) ≤ (M * (u * L) + u * L) * (L * L) → ((s * s + 0 * 0) * L + 0 * (L * L)) * (M * L) + (1 * 0 + 0 * u) * (L * L * L) ≤ (1 * u + 0 * 0) * (L * L * L) + ((s * 0 + 0 * s) * L + u * (L * L)) * (M * L)
        over h = omega arith

        under : M * (u * L) * (L * L) ≤ (M * (s * s) + u * L) * (L * L) → (u * (L * L) + (s * 0 + 0 * s) * L) * (M * L) + (1 * 0 + 0 * u) * (L * (L * L)) ≤ (1 * u + 0 * 0) * (L * (L * L)) + (0 * (L * L) + (s * s + 0 * 0) * L) * (M * L)
        under h = omega arith

-- ---- binary64's smallest value is the unit; a value that is not negative has at most 53 digits
abbrev pub smallest : ℕ → ℚ
smallest n = unit (2 ^ 1074) (pow_pos 1074) n

pub units_of_lem : {w : ℚ} (r : Representable binary64 w) → nat 0 ≤q w → w ≈q smallest (r.digits * 2 ^ r.place)
units_of_lem r h = unsigned (2 ^ 1074) (pow_pos 1074) r.sign (r.digits * 2 ^ r.place) r.is h
