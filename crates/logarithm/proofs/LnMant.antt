-- The logarithm of a number m / 2^62 from 1 up to 2 is right within 2^-46: the table's and the polynomial's errors, and what the reduction cuts off. Assumes nothing.
use Rattle.std.proofs.Common.{◌≡◌, ℕ, ◌+◌, ◌-◌, ◌*◌, ◌/◌, ◌%◌, ◌^◌, ◌<◌, ◌≤◌, List, [], ◌∷◌, get_or, sym, subst, le-add_right, le_of_lt, lt_of_not-le, not-le_of_lt, div-mul-le_self, arith, lit<}
use native.Mathlib.Nat.{lt-div-mul-add}
use native.Mathlib.Decide.{dec_le}
use Rattle.exact.proofs.NatProver.{Expr, ν, #, ◌⊹◌, ◌⋆◌, S, poly_by, ◌≼◌by◌}
use Rattle.series.proofs.Bounds.{Up, Lo, up_weaken, lo_weaken, up_mono, lo_mono, up_zero, up_add, lo_add}
use Rattle.series.proofs.Differences.{up_sub, lo_le_up, one_plus}
use Rattle.exponential.proofs.LnTwo.{Λ}
use Rattle.exponential.specs.Mantissa.{hi}
use Rattle.tables.specs.LnTable.{ln_table, inverse_of}
use Rattle.logarithm.specs.FixedPoint.{near_one, ln_mant_of, limit}
use Rattle.logarithm.proofs.Tables.{final, entry_le, entry_up, entry_lo}
use Rattle.logarithm.proofs.NearOne.{near_lo, near_up, near_le}
use Rattle.logarithm.proofs.Multiples.{two_lo}

abbrev Q : ℕ
Q = 2 ^ 64

-- what is to spare of 2^18 units, for the factors
abbrev K : ℕ
K = 2 ^ 17

abbrev M : Expr
M = ν 0

abbrev N : Expr
N = ν 1

abbrev W : Expr
W = ν 2

abbrev C : Expr
C = ν 3

-- ---- the reduction: n is 128 + j, v its inverse, c / 2^62 the quotient
record Inverse (n v : ℕ) : Type 0 where
  at_least : 2 ^ 70 ≤ v * n
  at_most : v * n + 1 ≤ 2 ^ 70 + n

inverse : (j : ℕ) → Inverse (128 + j) (inverse_of j)
inverse j =
    record { at_least = more j _ (lt-div-mul-add {a = 2 ^ 70 + 127 + j} {b = 128 + j} (positive j)); at_most = less j _ (div-mul-le_self (2 ^ 70 + 127 + j) (128 + j)) }
  where
    positive : (j : ℕ) → 0 < 128 + j
    positive j = omega arith

    more : (j x : ℕ) → 2 ^ 70 + 127 + j < x + (128 + j) → 2 ^ 70 ≤ x
    more j x h = omega arith

    less : (j x : ℕ) → x ≤ 2 ^ 70 + 127 + j → x + 1 ≤ 2 ^ 70 + (128 + j)
    less j x h = omega arith

module _ (m : ℕ) (l : 2 ^ 62 ≤ m) (k : m < 2 ^ 63) where
  abbrev j : ℕ
  j = m / 2 ^ 55 % 128

  j_lt : j < 128
  j_lt = omega arith

  abbrev n : ℕ
  n = 128 + j

  abbrev v : ℕ
  v = inverse_of j

  abbrev c : ℕ
  c = hi m v

  I : Inverse n v
  I = inverse j

  n_low : 2 ^ 55 * n ≤ m
  n_low = omega arith

  n_high : m + 1 ≤ 2 ^ 55 * n + 2 ^ 55
  n_high = omega arith

  n_le : n ≤ 255
  n_le = omega arith

  c_low : c * Q ≤ m * v
  c_low = div-mul-le_self (m * v) Q

  c_high : m * v < c * Q + Q
  c_high = lt-div-mul-add {a = m * v} {b = Q} (lit< tt)

  abbrev ρ : List ℕ
  ρ = m ∷ n ∷ v ∷ c ∷ []

  -- c / 2^61 is from 1 up to 1 + 1/128
  above_one : 2 ^ 61 ≤ c
  above_one =
      poly_by ρ ((S (M ⋆ W) ≼ C ⋆ # Q ⊹ # Q by # 1) ∷ (# (2 ^ 70) ≼ W ⋆ N by # (2 ^ 55)) ∷ (# (2 ^ 55) ⋆ N ≼ M by W) ∷ [])
      (# Q) (# (2 ^ 61)) C tt c_high I.at_least n_low

  v_le : v ≤ 2 ^ 63
  v_le = poly_by ρ ((W ⋆ N ⊹ # 1 ≼ # (2 ^ 70) ⊹ N by # 1) ∷ (# 128 ≼ N by # (2 ^ 63)) ∷ []) N W (# (2 ^ 63)) tt I.at_most (le-add_right 128 j)

  near : c < 2 ^ 61 + 2 ^ 54
  near =
      poly_by ρ
      ((C ⋆ # Q ≼ M ⋆ W by # 1) ∷ (M ⊹ # 1 ≼ # (2 ^ 55) ⋆ N ⊹ # (2 ^ 55) by W) ∷ (W ⋆ N ⊹ # 1 ≼ # (2 ^ 70) ⊹ N by # (2 ^ 55))
      ∷ (N ≼ # 255 by # (2 ^ 55)) ∷ (W ≼ # (2 ^ 63) by # (2 ^ 55 - 1)) ∷ [])
      (# Q) (S C) (# (2 ^ 61 + 2 ^ 54)) tt c_low n_high I.at_most n_le v_le

  -- c n is 64 m, within n
  not_below : 64 * m ≤ c * n + n
  not_below = poly_by ρ ((S (M ⋆ W) ≼ C ⋆ # Q ⊹ # Q by N) ∷ (# (2 ^ 70) ≼ W ⋆ N by M) ∷ []) (# Q) (# 64 ⋆ M) (C ⋆ N ⊹ N) tt c_high I.at_least

  not_above : c * n ≤ 64 * m + n
  not_above =
      poly_by ρ ((C ⋆ # Q ≼ M ⋆ W by N) ∷ (W ⋆ N ⊹ # 1 ≼ # (2 ^ 70) ⊹ N by M) ∷ (M ≼ # (2 ^ 63) by N) ∷ [])
      (# Q) (C ⋆ N) (# 64 ⋆ M ⊹ N) tt c_low I.at_most (le_of_lt k)

  abbrev z : ℕ
  z = 8 * c % Q

  z_is : Q + z ≡ 8 * c
  z_is = from c above_one near
    where
      from : (c : ℕ) → 2 ^ 61 ≤ c → c < 2 ^ 61 + 2 ^ 54 → 2 ^ 64 + 8 * c % 2 ^ 64 ≡ 8 * c
      from c h k = omega arith

  pub z_lt : 8 * hi m (inverse_of (m / 2 ^ 55 % 128)) % 2 ^ 64 < 2 ^ 57
  z_lt = from c z z_is near
    where
      from : (c z : ℕ) → 2 ^ 64 + z ≡ 8 * c → c < 2 ^ 61 + 2 ^ 54 → z < 2 ^ 57
      from c z e h = omega arith

  -- ---- the sum of the two logarithms
  abbrev x : ℕ
  x = get_or ln_table j 0

  abbrev f : ℕ
  f = final j

  abbrev u : ℕ
  u = near_one z

  f_le : f ≤ 1
  f_le = omega arith

  sum_up : Up (x + f * 2 ^ 15 + (u - 2)) Q (n * ((Q + z) * (2 ^ 50 + 1))) (128 * (Q * 2 ^ 50))
  sum_up = up_add (lit< tt) (entry_up j j_lt) (near_up z z_lt)

  -- m / 2^62 ≤ e^((g + 2^18) / 2^64)
  pub ln_lo : Lo (ln_mant_of m + 2 ^ 18) (2 ^ 64) m (2 ^ 62)
  unfolding ln_mant_of
  ln_lo = lo_weaken (lit< tt) tight (lo_mono (less x u f f_le) (lo_add (lit< tt) (lo_add (lit< tt) (entry_lo j j_lt) (near_lo z z_lt)) (one_plus K Q)))
    where
      less : (x u f : ℕ) → f ≤ 1 → x + f * 2 ^ 15 + 1 + (u + 1) + K ≤ x + u + 2 ^ 18
      less x u f h = omega arith

      tight : m * (128 * (Q * 2 ^ 50) * Q) ≤ n * ((Q + z) * (2 ^ 50 - 1)) * (Q + K) * 2 ^ 62
      tight = subst (λ (y : ℕ). m * (128 * (Q * 2 ^ 50) * Q) ≤ n * (y * (2 ^ 50 - 1)) * (Q + K) * 2 ^ 62) (sym z_is)
          (poly_by ρ ((# 64 ⋆ M ≼ C ⋆ N ⊹ N by # ((2 ^ 50 - 1) * (Q + K) * 2 ^ 65)) ∷ (N ≼ # 255 by # ((2 ^ 50 - 1) * (Q + K) * 2 ^ 65)) ∷ (# (2 ^ 62) ≼ M by # (2 ^ 135)) ∷ [])
          (# 1) (M ⋆ # (128 * (Q * 2 ^ 50) * Q)) (N ⋆ (# 8 ⋆ C ⋆ # (2 ^ 50 - 1)) ⋆ # (Q + K) ⋆ # (2 ^ 62)) tt not_below n_le l)

  -- e^((g - 2^18) / 2^64) ≤ m / 2^62
  pub ln_up : Up (ln_mant_of m - 2 ^ 18) (2 ^ 64) m (2 ^ 62)
  unfolding ln_mant_of
  ln_up = either (dec_le (2 ^ 18) (x + u))
    where
      none : (g : ℕ) → g < 2 ^ 18 → 0 ≡ g - 2 ^ 18
      none g h = omega arith

      one : (m : ℕ) → 2 ^ 62 ≤ m → 1 * 2 ^ 62 ≤ m * 1
      one m h = omega arith

      less : (x u y : ℕ) → 2 ^ 18 ≤ x + u → x + u - 2 ^ 18 + K ≤ x + y + (u - 2)
      less x u y h = omega arith

      tight : n * ((Q + z) * (2 ^ 50 + 1)) * Q * 2 ^ 62 ≤ m * (128 * (Q * 2 ^ 50) * (Q + K))
      tight = subst (λ (y : ℕ). n * (y * (2 ^ 50 + 1)) * Q * 2 ^ 62 ≤ m * (128 * (Q * 2 ^ 50) * (Q + K))) (sym z_is)
          (poly_by ρ ((C ⋆ N ≼ # 64 ⋆ M ⊹ N by # ((2 ^ 50 + 1) * Q * 2 ^ 65)) ∷ (N ≼ # 255 by # ((2 ^ 50 + 1) * Q * 2 ^ 65)) ∷ (# (2 ^ 62) ≼ M by # (2 ^ 135)) ∷ [])
          (# 1) (N ⋆ (# 8 ⋆ C ⋆ # (2 ^ 50 + 1)) ⋆ # Q ⋆ # (2 ^ 62)) (M ⋆ # (128 * (Q * 2 ^ 50) * (Q + K))) tt not_above n_le l)

      either : Dec (2 ^ 18 ≤ x + u) → Up (x + u - 2 ^ 18) Q m (2 ^ 62)
      either (yes h) = up_weaken (lit< tt) tight (up_sub (lit< tt) (up_mono (less x u (f * 2 ^ 15) h) sum_up) (one_plus K Q))
      either (no h) = subst (λ (y : ℕ). Up y Q m (2 ^ 62)) (none (x + u) (lt_of_not-le h)) (up_weaken (lit< tt) (one m l) (up_zero Q))

  -- ---- the logarithm of a number below 2 is below ln 2, taken from above
  -- in the last row: from the limit on, e to the sum and 2^15 more would be above 2 (1 + 2^-49), and it is at most 2 (1 + 2^-50)
  beyond : f ≡ 1 → limit ≤ x + u → ⊥
  beyond e h = not-le_of_lt most (lo_le_up (lit< tt) (lo_mono (enough x u f e h) (lo_add (lit< tt) two_lo (one_plus (2 ^ 15) Q))) sum_up)
    where
      enough : (x u f : ℕ) → f ≡ 1 → limit ≤ x + u → Λ + 3 + 2 ^ 15 ≤ x + f * 2 ^ 15 + (u - 2)
      enough x u f e k = omega arith

      most : n * ((Q + z) * (2 ^ 50 + 1)) * (1 * Q) < 2 * (Q + 2 ^ 15) * (128 * (Q * 2 ^ 50))
      most = subst (λ (y : ℕ). n * (y * (2 ^ 50 + 1)) * (1 * Q) < 2 * (Q + 2 ^ 15) * (128 * (Q * 2 ^ 50))) (sym z_is)
          (poly_by ρ ((C ⋆ N ≼ # 64 ⋆ M ⊹ N by # (8 * (2 ^ 50 + 1) * Q)) ∷ (M ≼ # (2 ^ 63) by # (512 * (2 ^ 50 + 1) * Q)) ∷ (N ≼ # 255 by # (8 * (2 ^ 50 + 1) * Q)) ∷ [])
          (# 1) (S (N ⋆ (# 8 ⋆ C ⋆ # (2 ^ 50 + 1)) ⋆ # Q)) (# (2 * (Q + 2 ^ 15) * (128 * (Q * 2 ^ 50)))) tt not_above (le_of_lt k) n_le)

  pub ln_mant_lt : ln_mant_of m < limit
  unfolding ln_mant_of
  ln_mant_lt = either (dec_le limit (x + u)) (dec_le 1 f)
    where
      only : (f : ℕ) → f ≤ 1 → 1 ≤ f → f ≡ 1
      only f h l = omega arith

      room : (x u z f : ℕ) → f < 1 → x + 2 ^ 57 ≤ limit + f * 2 ^ 57 → u ≤ z → z < 2 ^ 57 → x + u < limit
      room x u z f a b c d = omega arith

      either : Dec (limit ≤ x + u) → Dec (1 ≤ f) → x + u < limit
      either (no g) d = lt_of_not-le g
      either (yes g) (yes h) = absurd (beyond (only f f_le h) g)
      either (yes g) (no h) = room x u z f (lt_of_not-le h) (entry_le j j_lt) (near_le z z_lt) z_lt
