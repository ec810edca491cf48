-- E with one number of terms tells arguments apart: E N u ≤ E N v only where u ≤ v. Assumes nothing.
use Rattle.std.proofs.Common.{◌≡◌, ℕ, zero, suc, ◌+◌, ◌*◌, ◌<◌, ◌≤◌, max, sym, ap, ◌∙◌, subst, subst₂, le_trans, le_of_eq, le_refl, lt_of_lt_of_le, lt_of_le_of_lt, mul-le-mul_right, zero-lt-suc, add-lt-add_of_le_of_lt, mul_comm, mul-le-mul_left, mul-pos, lt_of_not-le, mul-one, not-le_of_lt, le_of_mul-le-mul_right, arith}
use native.Mathlib.Nat.{add-lt-add_of_lt_of_le, mul-lt-mul_of_pos_left, le_of_mul-le-mul_left, pow-le-pow_left, pow-succ', pow-zero}
use native.Mathlib.Decide.{dec_le}
use Rattle.exact.specs.Fraction.{ℚ, ◌//◌, negq, ◌≤q◌, ◌≈q◌}
use Rattle.exact.proofs.FractionLaws.{≈_sym, ≤_of_≈, ≤_trans, neg_mono}
use Rattle.series.specs.Series.{E, top, bot}
use Rattle.series.proofs.Product.{bot_pos}
use Rattle.series.proofs.Bounds.{top_zero}
use Rattle.series.proofs.Tail.{one_le}
use Rattle.series.proofs.Quotients.{frac_≤, cross_≤, Sign, above, below, sign_of}
use Rattle.series.proofs.AtFractions.{top_pos, E_above, E_below}

-- from the second term on a larger argument gives a larger sum
top_lt : (N a c b : ℕ) → 0 < b → a < c → top (suc N) a b < top (suc N) c b
unfolding top
top_lt zero a c b B h = add-lt-add_of_le_of_lt (le_refl (1 * b * 1)) (lt_of_le_of_lt (le_of_eq (pow-succ' a 0 ∙ ap (λ (z : ℕ). a * z) (pow-zero a) ∙ mul-one a)) (lt_of_lt_of_le h (le_of_eq (sym (pow-succ' c 0 ∙ ap (λ (z : ℕ). c * z) (pow-zero c) ∙ mul-one c)))))
top_lt (suc N) a c b B h = add-lt-add_of_lt_of_le (mul-lt-mul_of_pos_left (top_lt N a c b B h) (mul-pos (zero-lt-suc (suc N)) B)) (pow-le-pow_left (le h) (suc (suc N)))
  where
    le : a < c → a ≤ c
    le h = omega arith

tops : (N a c b : ℕ) → 1 ≤ N → 0 < b → top N a b ≤ top N c b → a ≤ c
tops zero a c b n B h = absurd (none n)
  where
    none : 1 ≤ 0 → ⊥
    none n = omega arith
tops (suc N) a c b n B h = either (dec_le a c)
  where
    either : Dec (a ≤ c) → a ≤ c
    either (yes l) = l
    either (no f) = absurd (not-le_of_lt (top_lt N c a b B (lt_of_not-le f)) h)

-- both are 0 where the product of the sums is at most that of 1 and 1
both_zero : (N a c b : ℕ) → 1 ≤ N → 0 < b → top N a b * top N c b ≤ bot N b * bot N b → a ≤ 0
both_zero N a c b n B h =
    tops N a 0 b n B
    (le_trans (le_of_mul-le-mul_right {k = bot N b} (le_trans (mul-le-mul_left (top N a b) (one_le N c b)) h) (bot_pos N b B)) (le_of_eq (sym (top_zero N b))))

minus_≤ : (a c b : ℕ) → negq (a // b) ≤q c // b
unfolding negq ◌//◌
minus_≤ a c b = record { le = omega arith }

zero_≤ : (a c b : ℕ) → a ≤ 0 → c ≤ 0 → a // b ≤q negq (c // b)
unfolding negq ◌//◌
zero_≤ a c b p q = record { le = subst₂ (λ (u v : ℕ). u * max b 1 + v * max b 1 ≤ 0 * max b 1 + 0 * max b 1) (sym (none a p)) (sym (none c q)) (le_refl (0 * max b 1 + 0 * max b 1)) }
  where
    none : (a : ℕ) → a ≤ 0 → a ≡ 0
    none a h = omega arith

pub E_reflects_≤ : {N : ℕ} {x y : ℚ} → 1 ≤ N → E N x ≤q E N y → x ≤q y
E_reflects_≤ {N} {x} {y} n h = go (sign_of x y.d y.d_pos) (subst (λ (b : ℕ). Sign y b) (mul_comm y.d x.d) (sign_of y x.d x.d_pos))
  where
    B : 0 < x.d * y.d
    B = mul-pos x.d_pos y.d_pos

    through : {u v : ℚ} → x ≈q u → y ≈q v → u ≤q v → x ≤q y
    through e f l = ≤_trans (≤_of_≈ e) (≤_trans l (≤_of_≈ (≈_sym f)))

    sums : {u v : ℚ} → E N x ≈q u → E N y ≈q v → u ≤q v
    sums e f = ≤_trans (≤_of_≈ (≈_sym e)) (≤_trans h (≤_of_≈ f))

    go : Sign x (x.d * y.d) → Sign y (x.d * y.d) → x ≤q y
    go (above a e) (above c f) =
        through e f (frac_≤ a c B B (mul-le-mul_right (x.d * y.d) (tops N a c (x.d * y.d) n B
        (le_of_mul-le-mul_right (cross_≤ _ _ (bot_pos N (x.d * y.d) B) (bot_pos N (x.d * y.d) B) (sums (E_above N a (x.d * y.d) B e) (E_above N c (x.d * y.d) B f))) (bot_pos N (x.d * y.d) B)))))
    go (below a e) (below c f) =
        through e f (neg_mono (frac_≤ c a B B (mul-le-mul_right (x.d * y.d) (tops N c a (x.d * y.d) n B
        (le_of_mul-le-mul_left (cross_≤ _ _ (top_pos N a (x.d * y.d) B) (top_pos N c (x.d * y.d) B) (sums (E_below N a (x.d * y.d) B e) (E_below N c (x.d * y.d) B f))) (bot_pos N (x.d * y.d) B))))))
    go (below a e) (above c f) = through e f (minus_≤ a c (x.d * y.d))
    go (above a e) (below c f) =
        let k = cross_≤ _ _ (bot_pos N (x.d * y.d) B) (top_pos N c (x.d * y.d) B) (sums (E_above N a (x.d * y.d) B e) (E_below N c (x.d * y.d) B f)) in
        through e f (zero_≤ a c (x.d * y.d) (both_zero N a c (x.d * y.d) n B k) (both_zero N c a (x.d * y.d) n B (le_trans (le_of_eq (mul_comm (top N c (x.d * y.d)) (top N a (x.d * y.d)))) k)))
