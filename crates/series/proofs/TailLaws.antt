-- From 4,000 terms on, at arguments of size at most 1000, any two partial sums are equal but for one part in 2^1000. Assumes nothing.
use mathlib.Core.Path.{sym}
use Prim.Native.Nat.{ℕ, ◌+◌, ◌*◌, ◌^◌, ◌≤◌, ◌<◌}
use native.Mathlib.Nat.{mul-pos, mul-one, le_refl, le_trans, le_of_eq, zero-lt-suc}
use native.Mathlib.Omega.{arith}
use lib.Pow.{pow_pos}
use Rattle.exact.specs.Fraction.{ℚ, ◌//◌, nat, ◌+q◌, negq, ◌*q◌, absq, ◌≤q◌, ◌≈q◌}
use Rattle.exact.proofs.FractionLaws.{≈_refl, ≈_sym, *_cong, +_cong, neg_cong, ≤_of_≈, ≤_trans}
use Rattle.exact.proofs.Closeness.{le_abs, neg_le_abs}
use Rattle.series.specs.Series.{E, Enough, top, bot}
use Rattle.series.proofs.Product.{bot_pos}
use Rattle.series.proofs.Tail.{settle}
use Rattle.series.proofs.Quotients.{◌⟫◌, frac_≤, frac_*, frac_+, frac_nat, frac_one, cross_≤, Sign, above, below, sign_of}
use Rattle.series.proofs.AtFractions.{top_pos, E_above, E_below}
use Rattle.series.proofs.Order.{sandwich, neg_neg}
use Rattle.series.proofs.Alike.{Alike}

pub record Moderate (x : ℚ) : Type 0 where
  pub size : absq x ≤q nat 1000

abbrev pub tail : ℚ
tail = 1 // 2 ^ 1000

factor_is : (P : ℕ) → 0 < P → nat 1 +q 1 // P ≈q (P + 1) // P
factor_is P h = +_cong (≈_sym (frac_one P h)) (≈_refl (1 // P)) ⟫ frac_+ P 1 h

times_factor : {y : ℚ} (t b P : ℕ) → 0 < b → 0 < P → y ≈q t // b → y *q (nat 1 +q 1 // P) ≈q (t * (P + 1)) // (b * P)
times_factor t b P B h e = *_cong e (factor_is P h) ⟫ frac_* t (P + 1) B h

-- the terms of the larger sum, over the smaller one's
between : (N M a b : ℕ) → 0 < b → a ≤ 1000 * b → Enough N → top M a b * (bot N b * 2 ^ 1000) ≤ top N a b * (2 ^ 1000 + 1) * bot M b
between N M a b B l n = sorted (2 ^ 1000) (2 ^ 1000 + 1) (top M a b) (top N a b) (bot M b) (bot N b) (settle {u = top M a b} {v = bot M b} B l (record { terms = M; bound = le_refl (top M a b * bot M b) }) N (omega arith))
  where
    sorted : (P Q t_m t_n b_m b_n : ℕ) → t_m * P * b_n ≤ t_n * (b_m * Q) → t_m * (b_n * P) ≤ t_n * Q * b_m
    sorted P Q t_m t_n b_m b_n h = omega arith

module _ {N M : ℕ} {x : ℚ} (n : Enough N) (m : Enough M) (s : Moderate x) where
  tail_≤ : E M x ≤q E N x *q (nat 1 +q tail)
  tail_≤ = go (sign_of x 1 (zero-lt-suc 0))
    where
      B : 0 < x.d * 1
      B = mul-pos x.d_pos (zero-lt-suc 0)

      small : (a : ℕ) → a // (x.d * 1) ≤q nat 1000 → a ≤ 1000 * (x.d * 1)
      small a h = le_trans (le_of_eq (sym (mul-one a))) (cross_≤ a 1000 B (zero-lt-suc 0) (≤_trans h (≤_of_≈ (≈_sym (frac_nat 1000)))))

      go : Sign x (x.d * 1) → E M x ≤q E N x *q (nat 1 +q tail)
      go (above a e) =
          sandwich (E_above M a (x.d * 1) B e) (times_factor (top N a (x.d * 1)) (bot N (x.d * 1)) (2 ^ 1000) (bot_pos N (x.d * 1) B) (pow_pos 1000) (E_above N a (x.d * 1) B e))
          (frac_≤ _ _ (bot_pos M (x.d * 1) B) (mul-pos (bot_pos N (x.d * 1) B) (pow_pos 1000))
          (between N M a (x.d * 1) B (small a (≤_trans (≤_of_≈ (≈_sym e)) (≤_trans (le_abs x) s.size))) n))
      go (below a e) =
          sandwich (E_below M a (x.d * 1) B e) (times_factor (bot N (x.d * 1)) (top N a (x.d * 1)) (2 ^ 1000) (top_pos N a (x.d * 1) B) (pow_pos 1000) (E_below N a (x.d * 1) B e))
          (frac_≤ _ _ (top_pos M a (x.d * 1) B) (mul-pos (top_pos N a (x.d * 1) B) (pow_pos 1000))
          (turned (2 ^ 1000) (2 ^ 1000 + 1) (top M a (x.d * 1)) (top N a (x.d * 1)) (bot M (x.d * 1)) (bot N (x.d * 1))
          (between M N a (x.d * 1) B (small a (≤_trans (≤_of_≈ (≈_sym (positive e))) (≤_trans (neg_le_abs x) s.size))) m)))
        where
          turned : (P Q t_m t_n b_m b_n : ℕ) → t_n * (b_m * P) ≤ t_m * Q * b_n → b_m * (t_n * P) ≤ b_n * Q * t_m
          turned P Q t_m t_n b_m b_n h = omega arith

          positive : x ≈q negq (a // (x.d * 1)) → negq x ≈q a // (x.d * 1)
          positive e = neg_cong e ⟫ neg_neg (a // (x.d * 1))

pub E_tail : {N M : ℕ} {x : ℚ} → Enough N → Enough M → Moderate x → Alike (nat 1 +q tail) (E M x) (E N x)
E_tail n m s = record { le = tail_≤ n m s; ge = tail_≤ m n s }
