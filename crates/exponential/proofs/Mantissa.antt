-- `mant_of r`, in units of 2^-62, is e^(r / 2^64) within 6000 units, for r below 178 * 2^56. Assumes nothing.
use Rattle.std.proofs.Common.{ℕ, ◌+◌, ◌*◌, ◌/◌, ◌%◌, ◌^◌, ◌<◌, ◌≤◌, Bool, T, ltb, leb, get_or, sym, ap, ◌∙◌, subst, le_trans, le_of_eq, le-add_right, le_of_lt, add-le-add, mul-le-mul_right, mod-lt, mul_assoc, add-mul, one-mul, div-add-mod', mul-add, div-mul-le_self, arith, lit<, ltb→lt, leb→le, pow_pos}
use native.Mathlib.Nat.{lt-div-mul-add}
use Rattle.series.specs.Series.{top, bot}
use Rattle.exponential.specs.Mantissa.{hi, minus_one, mant_of, exp_table}
use Rattle.series.proofs.Product.{bot_pos}
use Rattle.series.proofs.Bounds.{Up, Lo, doubled, up_doubled, up_weaken, lo_weaken, up_add, lo_add}
use Rattle.exponential.proofs.Polynomial.{minus_one_lt, small_lo, small_up}
use Rattle.exponential.proofs.Table.{both, every, at, both_left, both_right}

abbrev B : ℕ
B = 2 ^ 64

abbrev S : ℕ
S = 2 ^ 63

-- ---- the table: a test at each entry, which antt computes
abbrev up_right : ℕ → ℕ → Bool
up_right j x = leb (doubled 22 (j * 2 ^ 56) B * S) ((x + 1) * bot 23 B)

abbrev lo_right : ℕ → ℕ → Bool
lo_right j x = leb (x * bot 22 B) (top 22 (j * 2 ^ 56) B * S)

abbrev right : ℕ → ℕ → Bool
right j x = both (ltb x B) (both (up_right j x) (lo_right j x))

tested : T (every right 0 exp_table)
unfolding doubled top bot
tested = tt

abbrev entry : ℕ → ℕ
entry j = get_or exp_table j 0

module _ (j : ℕ) (h : j < 178) where
  passed : T (right j (entry j))
  passed = at right exp_table tested j h

  entry_lt : entry j < B
  entry_lt = ltb→lt (entry j) B (both_left (ltb (entry j) B) (both (up_right j (entry j)) (lo_right j (entry j))) passed)

  rest : T (both (up_right j (entry j)) (lo_right j (entry j)))
  rest = both_right (ltb (entry j) B) (both (up_right j (entry j)) (lo_right j (entry j))) passed

  pub entry_bound : entry j * bot 22 B ≤ top 22 (j * 2 ^ 56) B * S
  entry_bound = leb→le (entry j * bot 22 B) (top 22 (j * 2 ^ 56) B * S) (both_right (up_right j (entry j)) (lo_right j (entry j)) rest)

  entry_lo : Lo (j * 2 ^ 56) B (entry j) S
  entry_lo = record { terms = 22; bound = entry_bound }

  pub entry_up : Up (j * 2 ^ 56) B (entry j + 1) S
  entry_up = up_weaken (bot_pos 23 B (lit< tt)) (leb→le (doubled 22 (j * 2 ^ 56) B * S) ((entry j + 1) * bot 23 B) (both_left (up_right j (entry j)) (lo_right j (entry j)) rest)) (up_doubled 22 (j * 2 ^ 56) B (lit< tt) (few j h))
    where
      few : (j : ℕ) → j < 178 → 2 * (j * 2 ^ 56) ≤ 24 * 2 ^ 64
      few j h = omega arith

-- ---- the product of the two
abbrev made : ℕ → ℕ → ℕ
made b p = b / 2 + hi b p

made_lo : (b p : ℕ) → made b p * B ≤ b * (S + p)
made_lo b p =
    le_trans (le_of_eq (add-mul (b / 2) (hi b p) B))
    (le_trans (add-le-add (half b) (div-mul-le_self (b * p) B)) (le_of_eq (sym (mul-add b S p))))
  where
    half : (b : ℕ) → b / 2 * 2 ^ 64 ≤ b * 2 ^ 63
    half b = omega arith

made_up : (b p : ℕ) → b < B → p ≤ 2 ^ 57 → (b + 1) * (S + p + 5600) ≤ (made b p + 6000) * B
made_up b p h k =
    let x : b * p ≤ hi b p * B + B = le_of_lt (lt-div-mul-add {a = b * p} {b = B} (lit< tt)) in
    le_trans (le_of_eq (add-mul b 1 (S + p + 5600) ∙ (λ i. (mul-add b (S + p) 5600 ∙ ap (λ (z : ℕ). z + b * 5600) (mul-add b S p)) i + one-mul (S + p + 5600) i)))
    (le_trans (sums (b * p) (hi b p) b p x h k) (le_of_eq (sym (add-mul (b / 2 + hi b p) 6000 B ∙ ap (λ (z : ℕ). z + 6000 * B) (add-mul (b / 2) (hi b p) B)))))
  where
    half : (b : ℕ) → b * 2 ^ 63 ≤ b / 2 * 2 ^ 64 + 2 ^ 63
    half b = omega arith

    many : (b : ℕ) → b < 2 ^ 64 → b * 5600 ≤ 5600 * 2 ^ 64
    many b h = omega arith

    few : (p : ℕ) → p ≤ 2 ^ 57 → 2 ^ 63 + p + 5600 ≤ 2 ^ 64
    few p h = omega arith

    total : (X Y : ℕ) → X + 2 ^ 63 + (Y + 2 ^ 64) + 5600 * 2 ^ 64 + 2 ^ 64 ≤ X + Y + 6000 * 2 ^ 64
    total X Y = omega arith

    sums : (bp d b p : ℕ) → bp ≤ d * 2 ^ 64 + 2 ^ 64 → b < 2 ^ 64 → p ≤ 2 ^ 57 → b * 2 ^ 63 + bp + b * 5600 + (2 ^ 63 + p + 5600) ≤ b / 2 * 2 ^ 64 + d * 2 ^ 64 + 6000 * 2 ^ 64
    sums bp d b p x h k = le_trans (add-le-add (add-le-add (add-le-add (half b) x) (many b h)) (few p k)) (total (b / 2 * 2 ^ 64) (d * 2 ^ 64))

module _ (r : ℕ) (h : r < 178 * 2 ^ 56) where
  place : r / 2 ^ 56 < 178
  place = omega arith

  low : r % 2 ^ 56 < 2 ^ 56
  low = mod-lt r (pow_pos 56)

  pub mant_lo : Lo r B (mant_of r) (2 ^ 62)
  unfolding mant_of
  mant_lo =
      subst (λ (z : ℕ). Lo z B (mant_of r) (2 ^ 62)) (div-add-mod' r (2 ^ 56))
      (lo_weaken (lit< tt) (scale_lo (made (entry (r / 2 ^ 56)) (minus_one (r % 2 ^ 56))) (entry (r / 2 ^ 56) * (S + minus_one (r % 2 ^ 56))) (made_lo (entry (r / 2 ^ 56)) (minus_one (r % 2 ^ 56))))
      (lo_add (lit< tt) (entry_lo (r / 2 ^ 56) place) (small_lo (r % 2 ^ 56))))
    where
      scale_lo : (m x : ℕ) → m * B ≤ x → m * (S * S) ≤ x * 2 ^ 62
      scale_lo m x g = le_trans (le_of_eq (sym (mul_assoc m B (2 ^ 62)))) (mul-le-mul_right (2 ^ 62) g)

  pub mant_up : Up r B (mant_of r + 6000) (2 ^ 62)
  unfolding mant_of
  mant_up =
      subst (λ (z : ℕ). Up z B (mant_of r + 6000) (2 ^ 62)) (div-add-mod' r (2 ^ 56))
      (up_weaken (lit< tt) (scale_up (made (entry (r / 2 ^ 56)) (minus_one (r % 2 ^ 56)) + 6000) ((entry (r / 2 ^ 56) + 1) * (S + minus_one (r % 2 ^ 56) + 5600)) (made_up (entry (r / 2 ^ 56)) (minus_one (r % 2 ^ 56)) (entry_lt (r / 2 ^ 56) place) (le_of_lt (minus_one_lt (r % 2 ^ 56) low))))
      (up_add (lit< tt) (entry_up (r / 2 ^ 56) place) (small_up (r % 2 ^ 56) low)))
    where
      scale_up : (m x : ℕ) → x ≤ m * B → x * 2 ^ 62 ≤ m * (S * S)
      scale_up m x g = le_trans (mul-le-mul_right (2 ^ 62) g) (le_of_eq (mul_assoc m B (2 ^ 62)))

-- ---- the result is 2^62 at least
abbrev large : ℕ → ℕ → Bool
large j x = leb (2 ^ 63) x

large_tested : T (every large 0 exp_table)
large_tested = tt

pub mant_ge : (r : ℕ) → r < 178 * 2 ^ 56 → 2 ^ 62 ≤ mant_of r
unfolding mant_of
mant_ge r h = le_trans (half (get_or exp_table (r / 2 ^ 56) 0) (leb→le (2 ^ 63) (get_or exp_table (r / 2 ^ 56) 0) (at large exp_table large_tested (r / 2 ^ 56) (where_to r h)))) (le-add_right (get_or exp_table (r / 2 ^ 56) 0 / 2) (hi (get_or exp_table (r / 2 ^ 56) 0) (minus_one (r % 2 ^ 56))))
  where
    half : (b : ℕ) → 2 ^ 63 ≤ b → 2 ^ 62 ≤ b / 2
    half b h = omega arith

    where_to : (r : ℕ) → r < 178 * 2 ^ 56 → r / 2 ^ 56 < 178
    where_to r h = omega arith
