-- A number below 2^52 moved up in a word of 64 binary digits, until c zeros are left before its digits. Assumes nothing.
use mathlib.Core.Path.{◌≡◌, sym, ap, ◌∙◌}
use Prim.Native.Nat.{ℕ, suc, ◌+◌, ◌-◌, ◌*◌, ◌%◌, ◌^◌, ◌≤◌, ◌<◌}
use native.Mathlib.Nat.{le_trans, le_of_eq, lt_of_lt_of_le, lt_of_not-le, not-le_of_lt, mul-le-mul_right, mul-lt-mul_of_pos_right, mod-eq_of_lt}
use native.Mathlib.Decide.{dec_le}
use native.Mathlib.Omega.{arith}
use lib.Dec.{T, leb, leb→le}
use lib.Pow.{pow-add, pow_mono, pow_pos}
use lib.Count.{count_leading_zeros, leading_top}

-- b has z leading zeros
pub record Lead (c b z : ℕ) : Type 0 where
  pub low : 12 ≤ z
  pub high : z ≤ 63
  pub same : (b * 2 ^ (z - c)) % 2 ^ 64 ≡ b * 2 ^ (z - c)
  pub from : 2 ^ (63 - c) ≤ b * 2 ^ (z - c)
  pub below : b * 2 ^ (z - c) < 2 ^ (64 - c)

pub lead : (c : ℕ) → T (leb c 11) → (b : ℕ) → 0 < b → b < 2 ^ 52 → Lead c b (count_leading_zeros 64 b)
lead c t b h k = let l = leading_top 64 b h (omega arith) in given (count_leading_zeros 64 b) l.0 (leb→le c 11 t) l.1 l.2 l.3
  where
    given : (z j : ℕ) → c ≤ 11 → z + suc j ≡ 64 → 2 ^ j ≤ b → b < 2 ^ suc j → Lead c b z
    given z j C e f g =
        let J : j < 52 = few (dec_le 52 j) in
        let p : j + (z - c) ≡ 63 - c = omega arith in
        let q : suc j + (z - c) ≡ 64 - c = omega arith in
        let hi : b * 2 ^ (z - c) < 2 ^ (64 - c) = lt_of_lt_of_le (mul-lt-mul_of_pos_right g (pow_pos (z - c))) (le_of_eq (sym (pow-add 2 (suc j) (z - c)) ∙ ap (λ (i : ℕ). 2 ^ i) q)) in
        record {
          low = omega arith;
          high = omega arith;
          same = mod-eq_of_lt (lt_of_lt_of_le hi (pow_mono {i = 64 - c} {j = 64} (omega arith)));
          from = le_trans (le_of_eq (ap (λ (i : ℕ). 2 ^ i) (sym p) ∙ pow-add 2 j (z - c))) (mul-le-mul_right (2 ^ (z - c)) f);
          below = hi;
        }
      where
        few : Dec (52 ≤ j) → j < 52
        few (yes w) = absurd (not-le_of_lt k (le_trans (pow_mono w) f))
        few (no w) = lt_of_not-le w
