-- The exponential at a / b, with w / 2^52 for the float that is returned: within 2^-47 of each partial sum of 4,000 terms or more. Assumes nothing.
use Rattle.std.proofs.Common.{◌≡◌, ℕ, ◌+◌, ◌-◌, ◌*◌, ◌^◌, ◌<◌, ◌≤◌, T, leb, sym, ap, ◌∙◌, le_trans, le_of_eq, le_refl, add_assoc, add-le-add, mul-le-mul_right, mul_assoc, mul_comm, add-mul, mul-le-mul, add_comm, mul-le-mul_left, mul-add, le_of_mul-le-mul_right, mul_left_comm, arith, lit<, lit≤, leb→le}
use native.Mathlib.Nat.{sub-le-sub_left}
use lib.Arith.{add-le_cancel_left}
use Rattle.series.specs.Series.{top, bot}
use Rattle.exponential.specs.Mantissa.{mant_of}
use Rattle.exponential.specs.Exponential.{rest_of, place_of}
use Rattle.series.proofs.Product.{bot_pos}
use Rattle.series.proofs.Bounds.{Up, Lo, doubled, up_doubled, up_weaken, up_add}
use Rattle.series.proofs.Tail.{settle}
use Rattle.series.proofs.Scaling.{up_at, lo_at}
use Rattle.exponential.proofs.Whole.{fixed_up, fixed_lo, place_le}

-- e^(2^-53)
unit_test : T (leb (doubled 1 2048 (2 ^ 64) * 2 ^ 52) ((2 ^ 52 + 1) * bot 2 (2 ^ 64)))
unfolding doubled top bot
unit_test = tt

unit_up : Up 2048 (2 ^ 64) (2 ^ 52 + 1) (2 ^ 52)
unit_up = up_weaken (bot_pos 2 (2 ^ 64) (lit< tt)) (leb→le (doubled 1 2048 (2 ^ 64) * 2 ^ 52) ((2 ^ 52 + 1) * bot 2 (2 ^ 64)) unit_test) (up_doubled 1 2048 (2 ^ 64) (lit< tt) (lit≤ tt))

abbrev c : ℕ
c = (2 ^ 47 - 1) * (2 ^ 52 + 1)

-- P ≤ W + Z, and Z is a small part of P
small_part : (P W Z : ℕ) → P ≤ W + Z → 2 ^ 49 * Z ≤ P → c * P ≤ 2 ^ 99 * W
small_part P W Z h k =
    add-le_cancel_left (2 ^ 99 * Z)
    (le_trans (add-le-add (le_trans (le_of_eq (mul_assoc (2 ^ 50) (2 ^ 49) Z)) (mul-le-mul_left (2 ^ 50) k)) (le_refl (c * P)))
    (le_trans (le_of_eq (sym (add-mul (2 ^ 50) c P)))
    (le_trans (mul-le-mul_right {m = 2 ^ 50 + c} {n = 2 ^ 99} P (lit≤ tt))
    (le_trans (mul-le-mul_left (2 ^ 99) h) (le_of_eq (mul-add (2 ^ 99) W Z ∙ add_comm (2 ^ 99 * W) (2 ^ 99 * Z)))))))

module _ (x a b w : ℕ) (bp : 0 < b) (h : x ≤ 700 * 2 ^ 53) (from : x * b ≤ a * 2 ^ 53) (to : a * 2 ^ 53 ≤ (x + 1) * b)
    (m : 2 ^ 62 ≤ mant_of (rest_of x))
    (under : w * 2 ^ 10 ≤ 2 ^ place_of x * mant_of (rest_of x)) (over : 2 ^ place_of x * mant_of (rest_of x) ≤ w * 2 ^ 10 + 2 ^ 11 * 2 ^ place_of x) where
  abbrev K : ℕ
  K = 2 ^ place_of x

  abbrev M : ℕ
  M = mant_of (rest_of x)

  all_up : Up a b (K * (M + 6000) * (2 ^ 52 + 1)) (2 ^ 62 * 2 ^ 52)
  all_up = up_at a b (lit< tt) (le_trans (le_of_eq (sym (mul_assoc a (2 ^ 53) 2048))) (le_trans (mul-le-mul_right 2048 to) (le_of_eq (turn x b)))) (up_add (lit< tt) (fixed_up x h) unit_up)
    where
      turn : (x b : ℕ) → (x + 1) * b * 2048 ≡ (x * 2048 + 2048) * b
      turn x b = mul_assoc (x + 1) b 2048 ∙ ap (λ (z : ℕ). (x + 1) * z) (mul_comm b 2048) ∙ sym (mul_assoc (x + 1) 2048 b) ∙ ap (λ (z : ℕ). z * b) (add-mul x 1 2048)

  arith_lo : c * (K * (M + 6000)) ≤ 2 ^ 99 * (w * 2 ^ 10)
  arith_lo =
      small_part (K * (M + 6000)) (w * 2 ^ 10) (2 ^ 13 * K)
      (le_trans (le_of_eq (mul-add K M 6000)) (le_trans (add-le-add over (le_refl (K * 6000))) (le_trans (le_of_eq (add_assoc (w * 2 ^ 10) (2 ^ 11 * K) (K * 6000))) (add-le-add (le_refl (w * 2 ^ 10)) (few K)))))
      (le_trans (le_of_eq (sym (mul_assoc (2 ^ 49) (2 ^ 13) K) ∙ mul_comm (2 ^ 62) K)) (mul-le-mul_left K (le_trans m (plus M))))
    where
      few : (k : ℕ) → 2 ^ 11 * k + k * 6000 ≤ 2 ^ 13 * k
      few k = omega arith

      plus : (y : ℕ) → y ≤ y + 6000
      plus y = omega arith

  pub not_below : (N : ℕ) → (2 ^ 47 - 1) * top N a b * 2 ^ 52 ≤ 2 ^ 47 * w * bot N b
  not_below N =
      le_of_mul-le-mul_right {k = 2 ^ 62}
      (le_trans (le_of_eq (sort1 (2 ^ 47 - 1) (top N a b) (2 ^ 52) (2 ^ 62)))
      (le_trans (mul-le-mul_left (2 ^ 47 - 1) (all_up.bound N))
      (le_trans (le_of_eq (sort2 (2 ^ 47 - 1) (K * (M + 6000)) (2 ^ 52 + 1) (bot N b)))
      (le_trans (mul-le-mul_right (bot N b) arith_lo) (le_of_eq (sort3 w (bot N b)))))))
      (lit< tt)
    where
      sort1 : (p t q r : ℕ) → p * t * q * r ≡ p * (t * (r * q))
      sort1 p t q r = omega arith

      sort2 : (p k q t : ℕ) → p * (k * q * t) ≡ p * q * k * t
      sort2 p k q t = omega arith

      sort3 : (w t : ℕ) → 2 ^ 99 * (w * 2 ^ 10) * t ≡ 2 ^ 47 * w * t * 2 ^ 62
      sort3 w t = ap (λ (z : ℕ). z * t) (ap (λ (z : ℕ). 2 ^ 99 * z) (mul_comm w (2 ^ 10)) ∙ sym (mul_assoc (2 ^ 99) (2 ^ 10) w)) ∙ mul_assoc (2 ^ 109) w t ∙ mul_assoc (2 ^ 62) (2 ^ 47) (w * t) ∙ mul_comm (2 ^ 62) (2 ^ 47 * (w * t)) ∙ ap (λ (z : ℕ). z * 2 ^ 62) (sym (mul_assoc (2 ^ 47) w t))

  abbrev short : ℕ
  short = 2 ^ 63 - place_of x

  all_lo : Lo a b (K * M * short) (2 ^ 63 * 2 ^ 62)
  all_lo = lo_at a b (lit< tt) (le_trans (le_of_eq (turn x b)) (le_trans (mul-le-mul_right 2048 from) (le_of_eq (mul_assoc a (2 ^ 53) 2048)))) (fixed_lo x h)
    where
      turn : (x b : ℕ) → x * 2048 * b ≡ x * b * 2048
      turn x b = omega arith

  small_arg : a ≤ 1000 * b
  small_arg = le_of_mul-le-mul_right {k = 2 ^ 53} (le_trans to (le_trans (mul-le-mul_right b (le_trans (add-le-add h (le_refl 1)) (lit≤ {m = 700 * 2 ^ 53 + 1} {n = 1000 * 2 ^ 53} tt))) (le_of_eq (turn b)))) (lit< tt)
    where
      turn : (b : ℕ) → 1000 * 2 ^ 53 * b ≡ 1000 * b * 2 ^ 53
      turn b = mul_assoc (2 ^ 53) 1000 b ∙ mul_comm (2 ^ 53) (1000 * b)

  enough : (2 ^ 63 - 1010) ≤ short
  enough = sub-le-sub_left (place_le x h) (2 ^ 63)

  pub not_above : (N : ℕ) → 3999 ≤ N → 2 ^ 47 * w * bot N b ≤ (2 ^ 47 + 1) * top N a b * 2 ^ 52
  not_above N g =
      le_of_mul-le-mul_right {k = 2 ^ 10 * (2 ^ 63 - 1010) * 2 ^ 1000}
      (le_trans (le_of_eq (sort1 (2 ^ 47) w (bot N b) (2 ^ 10) (2 ^ 63 - 1010) (2 ^ 1000)))
      (le_trans (mul-le-mul_left (2 ^ 47) (mul-le-mul_right (bot N b) (mul-le-mul_right (2 ^ 1000) (mul-le-mul under enough))))
      (le_trans (mul-le-mul_left (2 ^ 47) (settle bp small_arg all_lo N g))
      (le_trans (le_of_eq (sort2 (2 ^ 47) (top N a b) (2 ^ 63 * 2 ^ 62 * (2 ^ 1000 + 1))))
      (le_trans (mul-le-mul_left (top N a b) (lit≤ {m = 2 ^ 47 * (2 ^ 63 * 2 ^ 62 * (2 ^ 1000 + 1))} {n = (2 ^ 47 + 1) * (2 ^ 52 * (2 ^ 10 * (2 ^ 63 - 1010) * 2 ^ 1000))} tt)) (le_of_eq (sort3 (top N a b) (2 ^ 47 + 1) (2 ^ 52) (2 ^ 10 * (2 ^ 63 - 1010) * 2 ^ 1000))))))))
      (lit< tt)
    where
      sort1 : (p w t q s r : ℕ) → p * w * t * (q * s * r) ≡ p * (w * q * s * r * t)
      sort1 p w t q s r = omega arith

      sort2 : (p t v : ℕ) → p * (t * v) ≡ t * (p * v)
      sort2 p t v = mul_left_comm p t v

      sort3 : (t p q s : ℕ) → t * (p * (q * s)) ≡ p * t * q * s
      sort3 t p q s = omega arith
