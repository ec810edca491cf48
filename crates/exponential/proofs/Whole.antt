-- The exponential at X / 2^53 from its fixed-point parts: 2^k times the mantissa. Assumes nothing.
use Rattle.std.proofs.Common.{◌≡◌, ℕ, zero, suc, ◌+◌, ◌-◌, ◌*◌, ◌/◌, ◌^◌, ◌<◌, ◌≤◌, sym, ap, ◌∙◌, subst, le_trans, le_of_eq, lt_of_lt_of_le, lt_of_le_of_lt, le_of_lt, mul-le-mul_right, mul_assoc, add-mul, add-sub_of_le, lt_of_mul-lt-mul_right, mul-le-mul_left, mul-pos, one-mul, div-mul-le_self, le_of_mul-le-mul_right, add-one, arith, lit<, lit≤}
use native.Mathlib.Nat.{lt-div-mul-add, pow-zero, pow-succ'}
use Rattle.exponential.specs.Mantissa.{mant_of}
use Rattle.exponential.specs.Exponential.{per_ln_two, rest_of, place_of}
use Rattle.series.specs.Series.{bot}
use Rattle.series.proofs.Product.{bot_pos}
use Rattle.series.proofs.Bounds.{Up, Lo, lo_weaken, up_mono, up_add, lo_add, up_pow, lo_pow}
use Rattle.series.proofs.Tail.{pow_product}
use Rattle.series.proofs.Scaling.{power_pos}
use Rattle.exponential.proofs.LnTwo.{Λ, up_two, lo_two, up_past_two, bernoulli}
use Rattle.exponential.proofs.Mantissa.{mant_lo, mant_up}

abbrev B : ℕ
B = 2 ^ 64

-- ---- k = x R / 2^116, cut
cut_le : (x R : ℕ) → x * R / 2 ^ 64 / 2 ^ 52 * 2 ^ 116 ≤ x * R
cut_le x R = le_trans (le_of_eq (sym (mul_assoc (x * R / 2 ^ 64 / 2 ^ 52) (2 ^ 52) (2 ^ 64)))) (le_trans (mul-le-mul_right (2 ^ 64) (div-mul-le_self (x * R / 2 ^ 64) (2 ^ 52))) (div-mul-le_self (x * R) (2 ^ 64)))

cut_lt : (x R : ℕ) → x * R < (x * R / 2 ^ 64 / 2 ^ 52 + 1) * 2 ^ 116
cut_lt x R =
    let h = x * R / 2 ^ 64 in
    lt_of_lt_of_le (next (x * R) (2 ^ 64) (lit< tt)) (le_trans (mul-le-mul_right (2 ^ 64) (le_trans (le_of_eq (add-one h)) (next h (2 ^ 52) (lit< tt)))) (le_of_eq (mul_assoc (h / 2 ^ 52 + 1) (2 ^ 52) (2 ^ 64))))
  where
    next : (a b : ℕ) → 0 < b → a < (a / b + 1) * b
    next a b B = lt_of_lt_of_le (lt-div-mul-add {a = a} {b = b} B) (le_of_eq (sym (add-mul (a / b) 1 b ∙ ap (λ (z : ℕ). a / b * b + z) (one-mul b))))

-- R L ≤ v u ≤ (R + 1) L: so k L is at most x v, and x v is less than L + s above it
below : (x k R L u v : ℕ) → 0 < u → k * u ≤ x * R → R * L ≤ v * u → k * L ≤ x * v
below x k R L u v U f g = le_of_mul-le-mul_right {k = u} (omega (arith, mul-le-mul_right L f, mul-le-mul_left x g)) U

above : (x k R L u v s : ℕ) → 0 < L → x * R < (k + 1) * u → v * u ≤ (R + 1) * L → x * L ≤ s * u → x * v < (k + 1) * L + s
above x k R L u v s p f g h = lt_of_mul-lt-mul_right u (omega (arith, p, mul-le-mul_right L f, mul-le-mul_left x g))

pub place_below : (x : ℕ) → place_of x * Λ ≤ x * 2048
place_below x = below x (place_of x) per_ln_two Λ (2 ^ 116) 2048 (lit< tt) (cut_le x per_ln_two) (lit≤ tt)

split : (x : ℕ) → place_of x * Λ + rest_of x ≡ x * 2048
unfolding rest_of
split x = add-sub_of_le (place_below x)

pub rest_under : (x : ℕ) → x ≤ 700 * 2 ^ 53 → rest_of x < Λ + 2 ^ 10
unfolding rest_of
rest_under x h = left (place_of x) (x * 2048) (above x (place_of x) per_ln_two Λ (2 ^ 116) 2048 (2 ^ 10) (lit< tt) (cut_lt x per_ln_two) (lit≤ tt) (le_trans (mul-le-mul_right Λ h) (lit≤ tt)))
  where
    left : (k a : ℕ) → a < (k + 1) * Λ + 2 ^ 10 → a - k * Λ < Λ + 2 ^ 10
    left k a g = omega arith

pub rest_lt : (x : ℕ) → x ≤ 700 * 2 ^ 53 → rest_of x < 178 * 2 ^ 56
rest_lt x h = lt_of_lt_of_le (rest_under x h) (lit≤ tt)

pub place_le : (x : ℕ) → x ≤ 700 * 2 ^ 53 → place_of x ≤ 1010
place_le x h = omega arith

-- e^r is below 2 and little more, and the mantissa is not above e^r
pub mant_under : (x : ℕ) → x ≤ 700 * 2 ^ 53 → mant_of (rest_of x) < 2 ^ 63 + 2 ^ 10
mant_under x h = lt_of_le_of_lt (lo_le_up (mant_lo (rest_of x) (rest_lt x h)) (up_mono (le_of_lt (rest_under x h)) up_past_two)) (lit< tt)
  where
    lo_le_up : {a u u' : ℕ} → Lo a B u (2 ^ 62) → Up a B u' (2 ^ 62) → u ≤ u'
    lo_le_up {a} {u} {u'} l p = le_of_mul-le-mul_right {k = bot l.terms B} (le_trans l.bound (p.bound l.terms)) (bot_pos l.terms B (lit< tt))

module _ (x : ℕ) (h : x ≤ 700 * 2 ^ 53) where
  pub fixed_up : Up (x * 2048) B (2 ^ place_of x * (mant_of (rest_of x) + 6000)) (2 ^ 62)
  fixed_up =
      subst (λ (z : ℕ). Up z B (2 ^ place_of x * (mant_of (rest_of x) + 6000)) (2 ^ 62)) (split x)
      (subst (λ (z : ℕ). Up (place_of x * Λ + rest_of x) B (2 ^ place_of x * (mant_of (rest_of x) + 6000)) z) (ap (λ (z : ℕ). z * 2 ^ 62) (one_pow (place_of x)))
      (up_add (lit< tt) (up_pow (lit< tt) up_two (place_of x)) (mant_up (rest_of x) (rest_lt x h))))
    where
      one_pow : (k : ℕ) → 1 ^ k ≡ 1
      one_pow zero = pow-zero 1
      one_pow (suc k) = pow-succ' 1 k ∙ one-mul (1 ^ k) ∙ one_pow k

  -- 2^63 less k
  abbrev short : ℕ
  short = 2 ^ 63 - place_of x

  pub fixed_lo : Lo (x * 2048) B (2 ^ place_of x * mant_of (rest_of x) * short) (2 ^ 63 * 2 ^ 62)
  fixed_lo =
      subst (λ (z : ℕ). Lo z B (2 ^ place_of x * mant_of (rest_of x) * short) (2 ^ 63 * 2 ^ 62)) (split x)
      (lo_weaken (mul-pos (power_pos (2 ^ 63) (place_of x) (lit< tt)) (lit< tt))
      (weigh (place_of x) (mant_of (rest_of x)) short (2 ^ 62) (bernoulli 9223372036854775807 (place_of x) short (add-sub_of_le (le_trans (place_le x h) (lit≤ tt)))))
      (lo_add (lit< tt) (lo_pow (lit< tt) lo_two (place_of x)) (mant_lo (rest_of x) (rest_lt x h))))
    where
      weigh : (k M m w : ℕ) → (2 ^ 63) ^ k * m ≤ 9223372036854775807 ^ k * 2 ^ 63 → 2 ^ k * M * m * ((2 ^ 63) ^ k * w) ≤ (2 * (2 ^ 63 - 1)) ^ k * M * (2 ^ 63 * w)
      weigh k M m w g =
          le_trans (le_of_eq (sort (2 ^ k) M m ((2 ^ 63) ^ k) w))
          (le_trans (mul-le-mul_left (2 ^ k * M * w) g)
          (le_of_eq (resort (2 ^ k) M w (9223372036854775807 ^ k) (2 ^ 63) ∙ ap (λ (z : ℕ). z * M * (2 ^ 63 * w)) (sym (pow_product 2 9223372036854775807 k)))))
        where
          sort : (p M m q w : ℕ) → p * M * m * (q * w) ≡ p * M * w * (q * m)
          sort p M m q w = omega arith

          resort : (p M w q s : ℕ) → p * M * w * (q * s) ≡ p * q * M * (s * w)
          resort p M w q s = omega arith
