-- E against powers of two. ln 2 lies between 0.6931 and 0.6932. Assumes nothing.
use mathlib.Core.Path.{◌≡◌, sym, ap, ◌∙◌}
use mathlib.Core.List.{[], ◌∷◌}
use Prim.Native.Nat.{ℕ, zero, suc, ◌+◌, ◌*◌, ◌^◌, ◌≤◌, ◌<◌}
use native.Mathlib.Nat.{mul-pos, mul_comm, mul_assoc, mul-one, one-mul, le_trans, le_of_eq, mul-le-mul_left, mul-le-mul_right, zero-lt-suc, pow-zero, pow-succ', pow-le-pow_left, le_of_mul-le-mul_right}
use native.Mathlib.Omega.{arith}
use lib.Dec.{T, leb, leb→le, lit≤, lit<}
use lib.Pow.{pow_pos}
use Rattle.exact.specs.Fraction.{ℚ, ◌//◌, nat, negq, absq, ◌≤q◌}
use Rattle.exact.proofs.FractionLaws.{≈_refl, ≈_sym, ≤_trans}
use Rattle.exact.proofs.Closeness.{le_abs, neg_le_abs}
use Rattle.exact.proofs.FractionProver.{qv, ##, ◌÷◌, ⊝, leq, linq, ◌⊑◌by◌}
use Rattle.series.specs.Series.{E, Enough, top, bot}
use Rattle.series.proofs.Product.{bot_pos}
use Rattle.series.proofs.Bounds.{Up, Lo, doubled, up_doubled, up_weaken, up_pow, lo_pow}
use Rattle.series.proofs.Tail.{settle, pow_product}
use Rattle.series.proofs.Scaling.{power_pos}
use Rattle.series.proofs.Quotients.{frac_≤, frac_nat}
use Rattle.series.proofs.AtFractions.{top_pos, E_above, E_below}
use Rattle.series.proofs.Order.{sandwich, E_mono}

-- e^0.6931 ≤ 2 ≤ e^0.6932 / 1.00005
two_up_test : T (leb (doubled 20 6931 10000 * 1) (2 * bot 21 10000))
unfolding doubled top bot
two_up_test = tt

two_lo_test : T (leb (20001 * bot 20 10000) (top 20 6932 10000 * 10000))
unfolding top bot
two_lo_test = tt

two_up : Up 6931 10000 2 1
two_up = up_weaken (bot_pos 21 10000 (lit< tt)) (leb→le (doubled 20 6931 10000 * 1) (2 * bot 21 10000) two_up_test) (up_doubled 20 6931 10000 (lit< tt) (lit≤ tt))

two_lo : Lo 6932 10000 20001 10000
two_lo = record { terms = 20; bound = leb→le (20001 * bot 20 10000) (top 20 6932 10000 * 10000) two_lo_test }

one_pow : (k : ℕ) → 1 ^ k ≡ 1
one_pow zero = pow-zero 1
one_pow (suc k) = pow-succ' 1 k ∙ one-mul (1 ^ k) ∙ one_pow k

den : 0 < 10000
den = lit< tt

power_up : (k N : ℕ) → top N (k * 6931) 10000 ≤ 2 ^ k * bot N 10000
power_up k N = le_trans (le_of_eq (sym (mul-one (top N (k * 6931) 10000)) ∙ ap (λ (z : ℕ). top N (k * 6931) 10000 * z) (sym (one_pow k)))) ((up_pow den two_up k).bound N)

module _ (k N : ℕ) {x : ℚ} where
  -- x ≤ k 0.6931 → E(x) ≤ 2^k
  pub E_at_most : x ≤q (k * 6931) // 10000 → E N x ≤q nat (2 ^ k)
  E_at_most h =
      ≤_trans (E_mono N h)
      (sandwich (E_above N (k * 6931) 10000 den (≈_refl ((k * 6931) // 10000))) (≈_sym (frac_nat (2 ^ k)))
      (frac_≤ _ _ (bot_pos N 10000 den) (zero-lt-suc 0) (le_trans (le_of_eq (mul-one (top N (k * 6931) 10000))) (power_up k N))))

  -- -x ≤ k 0.6931 → 2^-k ≤ E(x)
  pub E_at_least : negq ((k * 6931) // 10000) ≤q x → 1 // 2 ^ k ≤q E N x
  E_at_least h =
      ≤_trans
      (sandwich (≈_refl (1 // 2 ^ k)) (E_below N (k * 6931) 10000 den (≈_refl (negq ((k * 6931) // 10000))))
      (frac_≤ _ _ (pow_pos k) (top_pos N (k * 6931) 10000 den) (le_trans (le_of_eq (one-mul (top N (k * 6931) 10000))) (le_trans (power_up k N) (le_of_eq (mul_comm (2 ^ k) (bot N 10000)))))))
      (E_mono N h)

-- k 0.6932 ≤ x → 2^k ≤ E(x), for k up to 1442
pub E_large : (k : ℕ) {N : ℕ} {x : ℚ} → 1 ≤ k → k ≤ 1442 → Enough N → (k * 6932) // 10000 ≤q x → nat (2 ^ k) ≤q E N x
E_large (suc k) {N} {x} K l n h =
    ≤_trans
    (sandwich (≈_sym (frac_nat (2 ^ suc k))) (E_above N (suc k * 6932) 10000 den (≈_refl ((suc k * 6932) // 10000)))
    (frac_≤ _ _ (zero-lt-suc 0) (bot_pos N 10000 den) (le_trans reach (le_of_eq (sym (mul-one (top N (suc k * 6932) 10000)))))))
    (E_mono N h)
  where
    small : suc k * 6932 ≤ 1000 * 10000
    small = omega arith

    settled : 20001 ^ suc k * 2 ^ 1000 * bot N 10000 ≤ top N (suc k * 6932) 10000 * (10000 ^ suc k * (2 ^ 1000 + 1))
    settled = settle den small (lo_pow den two_lo (suc k)) N (omega arith)

    -- 20000^k (2^1000 + 1) ≤ 20001^k 2^1000
    enough : 2 ^ suc k * (10000 ^ suc k * (2 ^ 1000 + 1)) ≤ 20001 ^ suc k * 2 ^ 1000
    enough =
        le_trans (le_of_eq (sym (mul_assoc (2 ^ suc k) (10000 ^ suc k) (2 ^ 1000 + 1)) ∙ ap (λ (z : ℕ). z * (2 ^ 1000 + 1)) (sym (pow_product 2 10000 (suc k)) ∙ pow-succ' 20000 k ∙ mul_comm 20000 (20000 ^ k)) ∙ mul_assoc (20000 ^ k) 20000 (2 ^ 1000 + 1)))
        (le_trans (mul-le-mul_left (20000 ^ k) (lit≤ {m = 20000 * (2 ^ 1000 + 1)} {n = 20001 * 2 ^ 1000} tt))
        (le_trans (mul-le-mul_right (20001 * 2 ^ 1000) (pow-le-pow_left (lit≤ {m = 20000} {n = 20001} tt) k))
        (le_of_eq (sym (mul_assoc (20001 ^ k) 20001 (2 ^ 1000)) ∙ ap (λ (z : ℕ). z * 2 ^ 1000) (mul_comm (20001 ^ k) 20001 ∙ sym (pow-succ' 20001 k))))))

    sort : (p q r : ℕ) → p * q * r ≡ p * r * q
    sort p q r = omega arith

    reach : 2 ^ suc k * bot N 10000 ≤ top N (suc k * 6932) 10000
    reach = le_of_mul-le-mul_right {k = 10000 ^ suc k * (2 ^ 1000 + 1)}
        (le_trans (le_of_eq (sort (2 ^ suc k) (bot N 10000) (10000 ^ suc k * (2 ^ 1000 + 1)))) (le_trans (mul-le-mul_right (bot N 10000) enough) settled))
        (mul-pos (power_pos 10000 (suc k) den) (lit< tt))
E_large zero K l n h = absurd (none K)
  where
    none : 1 ≤ 0 → ⊥
    none h = omega arith

-- ---- of size at most 128: between 2^-185 and 2^185
module _ (N : ℕ) (x : ℚ) (h : absq x ≤q nat 128) where
  pub E_at_most_2^185 : E N x ≤q nat (2 ^ 185)
  E_at_most_2^185 = E_at_most 185 N (≤_trans (le_abs x) (≤_trans h (leq [] (## 128) ((185 * 6931) ÷ 10000) tt)))

  pub E_at_least_2^_185 : 1 // 2 ^ 185 ≤q E N x
  E_at_least_2^_185 = E_at_least 185 N (linq (x ∷ absq x ∷ []) ((⊝ (qv 0) ⊑ qv 1 by 10000) ∷ (qv 1 ⊑ ## 128 by 10000) ∷ []) 9999 (⊝ ((185 * 6931) ÷ 10000)) (qv 0) tt (neg_le_abs x) h)
