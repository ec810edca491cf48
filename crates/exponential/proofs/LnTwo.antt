-- The powers of two: Λ / 2^64 is ln 2 within 2^-64, and e^(k Λ / 2^64) is 2^k but for k parts in 2^63. Assumes nothing.
use Rattle.std.proofs.Common.{◌≡◌, ℕ, zero, suc, ◌+◌, ◌-◌, ◌*◌, ◌^◌, ◌≤◌, T, leb, sym, ap, ◌∙◌, le_trans, le_of_eq, le_refl, add-le-add, mul_assoc, suc-mul, mul-le-mul_left, zero-add, mul-suc, mul_left_comm, arith, lit<, lit≤, leb→le}
use native.Mathlib.Nat.{pow-zero, pow-succ'}
use Rattle.series.specs.Series.{top, bot}
use Rattle.exponential.specs.Exponential.{ln_two}
use Rattle.series.proofs.Product.{bot_pos}
use Rattle.series.proofs.Bounds.{Up, Lo, doubled, up_doubled, up_weaken}

abbrev pub Λ : ℕ
Λ = ln_two

up_test : T (leb (doubled 24 Λ (2 ^ 64) * 1) (2 * bot 25 (2 ^ 64)))
unfolding doubled top bot
up_test = tt

lo_test : T (leb (2 * (2 ^ 63 - 1) * bot 24 (2 ^ 64)) (top 24 Λ (2 ^ 64) * 2 ^ 63))
unfolding top bot
lo_test = tt

pub up_two : Up Λ (2 ^ 64) 2 1
up_two = up_weaken (bot_pos 25 (2 ^ 64) (lit< tt)) (leb→le (doubled 24 Λ (2 ^ 64) * 1) (2 * bot 25 (2 ^ 64)) up_test) (up_doubled 24 Λ (2 ^ 64) (lit< tt) (lit≤ tt))

pub lo_two : Lo Λ (2 ^ 64) (2 * (2 ^ 63 - 1)) (2 ^ 63)
lo_two = record { terms = 24; bound = leb→le (2 * (2 ^ 63 - 1) * bot 24 (2 ^ 64)) (top 24 Λ (2 ^ 64) * 2 ^ 63) lo_test }

-- a little above ln 2
past_test : T (leb (doubled 24 (Λ + 2 ^ 10) (2 ^ 64) * 2 ^ 62) ((2 ^ 63 + 2 ^ 10 - 1) * bot 25 (2 ^ 64)))
unfolding doubled top bot
past_test = tt

pub up_past_two : Up (Λ + 2 ^ 10) (2 ^ 64) (2 ^ 63 + 2 ^ 10 - 1) (2 ^ 62)
up_past_two = up_weaken (bot_pos 25 (2 ^ 64) (lit< tt)) (leb→le (doubled 24 (Λ + 2 ^ 10) (2 ^ 64) * 2 ^ 62) ((2 ^ 63 + 2 ^ 10 - 1) * bot 25 (2 ^ 64)) past_test) (up_doubled 24 (Λ + 2 ^ 10) (2 ^ 64) (lit< tt) (lit≤ tt))

-- (1 - 1/Q)^k ≥ 1 - k/Q, for Q = P + 1 and k + m = Q
pub bernoulli : (P k m : ℕ) → k + m ≡ suc P → suc P ^ k * m ≤ P ^ k * suc P
bernoulli P zero m e = le_of_eq (ap (λ (x : ℕ). x * m) (pow-zero (suc P) ∙ sym (pow-zero P)) ∙ ap (λ (x : ℕ). P ^ zero * x) (sym (zero-add m) ∙ e))
bernoulli P (suc k) m e =
    le_trans (le_of_eq (ap (λ (x : ℕ). x * m) (pow-succ' (suc P) k) ∙ mul_assoc (suc P) (suc P ^ k) m ∙ mul_left_comm (suc P) (suc P ^ k) m))
    (le_trans (mul-le-mul_left (suc P ^ k) (less P m (omega arith)))
    (le_trans (le_of_eq (mul_left_comm (suc P ^ k) P (suc m)))
    (le_trans (mul-le-mul_left P (bernoulli P k (suc m) (omega arith))) (le_of_eq (sym (mul_assoc P (P ^ k) (suc P)) ∙ ap (λ (x : ℕ). x * suc P) (sym (pow-succ' P k)))))))
  where
    less : (P m : ℕ) → m ≤ P → suc P * m ≤ P * suc m
    less P m h = le_trans (le_of_eq (suc-mul P m)) (le_trans (add-le-add (le_refl (P * m)) h) (le_of_eq (sym (mul-suc P m))))
