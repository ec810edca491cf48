-- A number u / w above 1 and its logarithm v / 2^53, which is right within 2^-45: in partial sums over whole numbers. Assumes nothing.
use Rattle.std.proofs.Common.{◌≡◌, ℕ, ◌+◌, ◌-◌, ◌*◌, ◌/◌, ◌^◌, ◌<◌, ◌≤◌, sym, refl, ap, ◌∙◌, subst, le_of_eq, lt_of_lt_of_le, mul_assoc, mul-pos, one-mul, arith, lit<}
use Rattle.series.proofs.Bounds.{Up, Lo, up_weaken, lo_weaken, up_mono, lo_mono, up_add, lo_add}
use Rattle.series.proofs.Differences.{up_sub, lo_sub, one_plus}
use Rattle.exponential.proofs.LnTwo.{Λ}
use Rattle.logarithm.specs.FixedPoint.{ln_mant_of, twos_of, limit}
use Rattle.logarithm.proofs.LnMant.{ln_mant_lt, ln_lo, ln_up}
use Rattle.logarithm.proofs.Multiples.{twos_up, twos_lo}

abbrev pub B : ℕ
B = 2 ^ 64

-- 2^-45, the bound, and 2^-54, what is to spare of it
abbrev pub D : ℕ
D = 2 ^ 19

abbrev pub S : ℕ
S = 2 ^ 10

pub record Fixed (v u w : ℕ) : Type 0 where
  pub divisor : 0 < w
  pub low : D ≤ v * 2048 → Up (v * 2048 - D) B (u * B) (w * (B + S))
  pub high : Lo (v * 2048 + D) B (u * (B + S)) (w * B)
  pub above_one : w * (2 ^ 53 + 1) ≤ u * 2 ^ 53
  pub moderate : v * 2048 + D ≤ 760 * B

-- ---- the sizes
module _ (n g : ℕ) (G : g < limit) (N : n ≤ 1074) where
  twos_le : twos_of n * 2048 ≤ n * Λ + 2047
  twos_le = omega arith

  twos_ge : n * Λ ≤ twos_of n * 2048
  twos_ge = omega arith

  cut_le : g / 2048 * 2048 ≤ g
  cut_le = omega arith

  cut_ge : g ≤ g / 2048 * 2048 + 2047
  cut_ge = omega arith

sum_of : (t q : ℕ) → (t + q) * 2048 ≡ t * 2048 + q * 2048
sum_of t q = omega arith

difference_of : (t q : ℕ) → q ≤ t → (t - q) * 2048 + q * 2048 ≡ t * 2048
difference_of t q h = omega arith

-- x for the logarithm of 2^n, t for that of the power in hand, q for the mantissa's
low_sum : (x t q g v : ℕ) → t ≤ x + 2047 → q ≤ g → v ≡ t + q → D ≤ v → v - D + S ≤ x + (g - 2 ^ 18)
low_sum x t q g v a b e h = omega arith

high_sum : (x x' t q g v n : ℕ) → x ≤ t → g ≤ q + 2047 → v ≡ t + q → x' ≡ x + n * 3 → n ≤ 1074 → x' + (g + 2 ^ 18) + S ≤ v + D
high_sum x x' t q g v n a b e f h = omega arith

low_difference : (x t q g v : ℕ) → t ≤ x + 2047 → g ≤ q + 2047 → v + q ≡ t → D ≤ v → v - D + (g + 2 ^ 18 + S) ≤ x
low_difference x t q g v a b e h = omega arith

high_difference : (x x' t q g v n : ℕ) → x ≤ t → q ≤ g → v + q ≡ t → x' ≡ x + n * 3 → n ≤ 1074 → x' ≤ v + (D - S) + (g - 2 ^ 18)
high_difference x x' t q g v n a b e f h = omega arith

three : (n : ℕ) → n * (Λ + 3) ≡ n * Λ + n * 3
three n = omega arith

spared : (v : ℕ) → v + (D - S) + S ≡ v + D
spared v = omega arith

moderate_of : (x t v n : ℕ) → x ≡ n * Λ → n ≤ 1074 → t ≤ x + 2047 → v ≤ t + limit → v + D ≤ 760 * B
moderate_of x t v n e h a b = omega arith

module _ (m n : ℕ) (l : 2 ^ 62 ≤ m) (k : m < 2 ^ 63) (N : n ≤ 1074) where
  abbrev g : ℕ
  g = ln_mant_of m

  G : g < limit
  G = ln_mant_lt m l k

  abbrev t : ℕ
  t = twos_of n

  -- m / 2^62 * 2^n
  pub above : 2 ^ 62 * (2 ^ 53 + 1) ≤ 2 ^ n * m * 2 ^ 53 → Fixed (t + g / 2048) (2 ^ n * m) (2 ^ 62)
  above more = record {
    divisor = lit< tt;
    low = λ h. up_sub (lit< tt) (up_weaken (lit< tt) (le_of_eq (sort (2 ^ n * m) (2 ^ 62))) (up_mono (low_sum (n * Λ) (t * 2048) (g / 2048 * 2048) g ((t + g / 2048) * 2048) (twos_le n g G N) (cut_le n g G N) (sum_of t (g / 2048)) h) (up_add (lit< tt) (twos_up n) (ln_up m l k)))) (one_plus S B);
    high = lo_weaken (lit< tt) (le_of_eq (sort' (2 ^ n * m * (B + S)) (2 ^ 62) B)) (lo_mono (high_sum (n * Λ) (n * (Λ + 3)) (t * 2048) (g / 2048 * 2048) g ((t + g / 2048) * 2048) n (twos_ge n g G N) (cut_ge n g G N) (sum_of t (g / 2048)) (three n) N) (lo_add (lit< tt) (lo_add (lit< tt) (twos_lo n) (ln_lo m l k)) (one_plus S B)));
    above_one = more;
    moderate = moderate_of (n * Λ) (t * 2048) ((t + g / 2048) * 2048) n refl N (twos_le n g G N) (up_to t g G);
  }
    where
      sort : (u w : ℕ) → u * w ≡ u * (1 * w)
      sort u w = ap (λ (z : ℕ). u * z) (sym (one-mul w))

      sort' : (u w b : ℕ) → u * (1 * w * b) ≡ u * (w * b)
      sort' u w b = ap (λ (z : ℕ). u * (z * b)) (one-mul w)

      up_to : (t g : ℕ) → g < limit → (t + g / 2048) * 2048 ≤ t * 2048 + limit
      up_to t g h = omega arith

  -- 2^n / (m / 2^62)
  pub below : 0 < n → m * (2 ^ 53 + 1) ≤ 2 ^ n * 2 ^ 62 * 2 ^ 53 → Fixed (t - g / 2048) (2 ^ n * 2 ^ 62) m
  below p more =
      let d = difference_of t (g / 2048) (room n g p N G) in
      let v = (t - g / 2048) * 2048 in
      record {
        divisor = lt_of_lt_of_le (lit< tt) l;
        low = λ h. up_weaken (mul-pos (lit< tt) (mul-pos (lt_of_lt_of_le (lit< tt) l) (lit< tt))) (le_of_eq (sort1 (2 ^ n) (2 ^ 62) B m (B + S))) (up_sub (lit< tt) (up_mono (low_difference (n * Λ) (t * 2048) (g / 2048 * 2048) g v (twos_le n g G N) (cut_ge n g G N) d h) (twos_up n)) (lo_add (lit< tt) (ln_lo m l k) (one_plus S B)));
        high = subst (λ (z : ℕ). Lo z B (2 ^ n * 2 ^ 62 * (B + S)) (m * B)) (spared v) (lo_weaken (mul-pos (mul-pos (lit< tt) (lt_of_lt_of_le (lit< tt) l)) (lit< tt)) (le_of_eq (sort2 (2 ^ n * 2 ^ 62 * (B + S)) m B)) (lo_add (lit< tt) (lo_sub (lit< tt) (lo_mono (high_difference (n * Λ) (n * (Λ + 3)) (t * 2048) (g / 2048 * 2048) g v n (twos_ge n g G N) (cut_le n g G N) d (three n) N) (twos_lo n)) (ln_up m l k)) (one_plus S B)));
        above_one = more;
        moderate = moderate_of (n * Λ) (t * 2048) v n refl N (twos_le n g G N) (up_to t g);
      }
    where
      room : (n g : ℕ) → 0 < n → n ≤ 1074 → g < limit → g / 2048 ≤ twos_of n
      room n g p N G = omega arith

      up_to : (t g : ℕ) → (t - g / 2048) * 2048 ≤ t * 2048 + limit
      up_to t g = omega arith

      sort1 : (p w b m s : ℕ) → p * (w * b) * (m * s) ≡ p * w * b * (1 * (m * s))
      sort1 p w b m s = ap (λ (z : ℕ). z * (m * s)) (sym (mul_assoc p w b)) ∙ ap (λ (z : ℕ). p * w * b * z) (sym (one-mul (m * s)))

      sort2 : (u m b : ℕ) → u * (1 * m * b) ≡ u * (m * b)
      sort2 u m b = ap (λ (z : ℕ). u * (z * b)) (one-mul m)
