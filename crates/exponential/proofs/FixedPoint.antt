-- `exp_fixed X`, in exact values: from X / 2^53 to (X + 1) / 2^53 it is within 2^-47 of E. Assumes nothing.
use Rattle.std.proofs.Common.{◌≡◌, ℕ, ◌+◌, ◌-◌, ◌*◌, ◌^◌, ◌<◌, ◌≤◌, max, false, T, [], ◌∷◌, sym, refl, ap, le_trans, le_of_eq, lt_of_lt_of_le, le_of_lt, zero-lt-suc, mul-le-mul, mul-pos, one-mul, mul-one, le_of_mul-le-mul_right, arith, lit<, lit≤, pow_pos, pow_mono}
use lib.Ieee.{Float}
use lib.Ieee.Scale.{finite}
use lib.Ieee.Exact.{HasValue}
use Rattle.exact.specs.Fraction.{ℚ, ◌//◌, nat, ◌*q◌, ◌≤q◌, ◌≈q◌, Within}
use Rattle.exact.specs.FloatValue.{value, signed}
use Rattle.exact.proofs.FractionLaws.{≈_refl, ≈_sym, *_cong, ≤_of_≈, ≤_trans}
use Rattle.exact.proofs.FractionProver.{qv, ##, ◌÷◌, ◌⊟◌, ◌⊠◌, linq, ◌⊑◌by◌}
use Rattle.exact.proofs.Closeness.{within_≈, within_mono}
use Rattle.exact.proofs.Rounding.{value_≈, frac_nonneg}
use Rattle.exact.proofs.RoundingGrid.{value_finite}
use Rattle.series.specs.Series.{E, Enough, top, bot}
use Rattle.series.proofs.Product.{bot_pos}
use Rattle.series.proofs.Quotients.{◌⟫◌, frac_≤, frac_*, frac_nat, frac_not_zero, frac_reciprocal, cross_≤, above_of}
use Rattle.series.proofs.AtFractions.{E_above}
use Rattle.series.proofs.Order.{sandwich}
use Rattle.exponential.specs.Mantissa.{mant_of}
use Rattle.exponential.specs.Exponential.{rest_of, place_of, exp_fixed}
use Rattle.exponential.proofs.Mantissa.{mant_ge}
use Rattle.exponential.proofs.Whole.{rest_lt, place_le, mant_under}
use Rattle.exponential.proofs.Assembling.{Held, held}
use Rattle.exponential.proofs.Relative.{not_below, not_above}

signed_is : (a c : ℕ) (C : 0 < c) → signed false a c C ≈q a // c
unfolding ◌//◌
signed_is a c C = record { eq = rw (max_is c C) refl }
  where
    max_is : (c : ℕ) → 0 < c → max c 1 ≡ c
    max_is c h = omega arith

pub value_is : (x : Float) (a c : ℕ) → 0 < c → HasValue x false a c → value x ≈q a // c
value_is x a c C h = value_≈ x false a c C h ⟫ signed_is a c C

-- A t / b ≤ P w / v
weighed : (A t b P w v : ℕ) → 0 < b → 0 < v → A * t * v ≤ P * w * b → nat A *q (t // b) ≤q nat P *q (w // v)
weighed A t b P w v B C h =
    sandwich (*_cong (≈_sym (frac_nat A)) (≈_refl (t // b)) ⟫ frac_* A t (zero-lt-suc 0) B) (*_cong (≈_sym (frac_nat P)) (≈_refl (w // v)) ⟫ frac_* P w (zero-lt-suc 0) C)
    (frac_≤ (A * t) (P * w) (mul-pos (zero-lt-suc 0) B) (mul-pos (zero-lt-suc 0) C) (le_trans (le_of_eq (ap (λ (z : ℕ). A * t * z) (one-mul v))) (le_trans h (le_of_eq (ap (λ (z : ℕ). P * w * z) (sym (one-mul b)))))))

not_large : (w k M : ℕ) → k ≤ 1010 → M < 2 ^ 63 + 2 ^ 10 → w * 2 ^ 10 ≤ 2 ^ k * M → w ≤ 2 ^ 1073
not_large w k M h m u = le_of_mul-le-mul_right {k = 2 ^ 10} (le_trans u (le_trans (mul-le-mul (pow_mono h) (le_of_lt m)) (lit≤ {m = 2 ^ 1010 * (2 ^ 63 + 2 ^ 10)} {n = 2 ^ 1073 * 2 ^ 10} tt))) (lit< tt)

module _ (X : ℕ) (h : X ≤ 700 * 2 ^ 53) where
  abbrev M : ℕ
  M = mant_of (rest_of X)

  large : 2 ^ 62 ≤ M
  large = mant_ge (rest_of X) (rest_lt X h)

  -- what the pattern holds: w / 2^52
  parts : Held M (place_of X) (exp_fixed X)
  unfolding exp_fixed
  parts = held M (place_of X) large (mant_under X h) (place_le X h)

  result_is : value (exp_fixed X) ≈q parts.w // 2 ^ 52
  result_is = value_is (exp_fixed X) parts.w (2 ^ 52) (pow_pos 52) parts.is

  pub fixed_finite : T (finite (exp_fixed X))
  fixed_finite = value_finite (exp_fixed X) false parts.w (2 ^ 52) parts.is

  pub fixed_at_least : nat 1 ≤q value (exp_fixed X)
  fixed_at_least = sandwich (≈_sym (frac_nat 1)) result_is (frac_≤ _ _ (zero-lt-suc 0) (pow_pos 52) (le_trans (le_of_eq (one-mul (2 ^ 52))) (le_trans parts.large (le_of_eq (sym (mul-one parts.w))))))

  pub fixed_at_most : value (exp_fixed X) ≤q nat (2 ^ 1021)
  fixed_at_most = sandwich result_is (≈_sym (frac_nat (2 ^ 1021))) (frac_≤ _ _ (pow_pos 52) (zero-lt-suc 0) (le_trans (le_of_eq (mul-one parts.w)) (not_large parts.w (place_of X) M (place_le X h) (mant_under X h) parts.under)))

  pub fixed_close : {v : ℚ} (N : ℕ) → Enough N → X // 2 ^ 53 ≤q v → v ≤q (X + 1) // 2 ^ 53 → Within (value (exp_fixed X)) (E N v) (1 // 2 ^ 47 *q E N v)
  fixed_close {v} N n from to =
      let B = mul-pos v.d_pos (zero-lt-suc 0) in
      let b = v.d * 1 in
      let s = above_of v 1 (zero-lt-suc 0) (≤_trans (frac_nonneg X (2 ^ 53)) from) in
      let a = s.0 in
      let f : X * b ≤ a * 2 ^ 53 = cross_≤ X a (pow_pos 53) B (≤_trans from (≤_of_≈ s.1)) in
      let g : a * 2 ^ 53 ≤ (X + 1) * b = cross_≤ a (X + 1) B (pow_pos 53) (≤_trans (≤_of_≈ (≈_sym s.1)) to) in
      let w = parts.w in
      let t = top N a b in let d = bot N b in
      let e = t // d in let r = w // 2 ^ 52 in
      let E_is : E N v ≈q e = E_above N a b B s.1 in
      let lo : nat (2 ^ 47 - 1) *q e ≤q nat (2 ^ 47) *q r = weighed (2 ^ 47 - 1) t d (2 ^ 47) w (2 ^ 52) (bot_pos N b B) (pow_pos 52) (not_below X a b w B h f g large parts.under parts.over N) in
      let up : nat (2 ^ 47) *q r ≤q nat (2 ^ 47 + 1) *q e = weighed (2 ^ 47) w (2 ^ 52) (2 ^ 47 + 1) t d (pow_pos 52) (bot_pos N b B) (not_above X a b w B h f g large parts.under parts.over N (omega arith)) in
      within_≈ (≈_sym result_is) (≈_sym E_is) (within_mono (record {
        above = linq (r ∷ e ∷ []) ((## (2 ^ 47) ⊠ qv 0 ⊑ ## (2 ^ 47 + 1) ⊠ qv 1 by 1) ∷ []) 140737488355327 (qv 0 ⊟ qv 1) (1 ÷ 2 ^ 47 ⊠ qv 1) tt up;
        below = linq (r ∷ e ∷ []) ((## (2 ^ 47 - 1) ⊠ qv 1 ⊑ ## (2 ^ 47) ⊠ qv 0 by 1) ∷ []) 140737488355327 (qv 1 ⊟ qv 0) (1 ÷ 2 ^ 47 ⊠ qv 1) tt lo;
      }) (≤_of_≈ (*_cong (≈_refl (1 // 2 ^ 47)) (≈_sym E_is))))

  -- 1 / e^x, exactly
  top_positive : 0 < parts.w
  top_positive = lt_of_lt_of_le (pow_pos 52) parts.large

  pub fixed_not_zero : ¬ (value (exp_fixed X) ≈q nat 0)
  fixed_not_zero = frac_not_zero top_positive (pow_pos 52) result_is

  pub inverse : ℚ
  inverse = 2 ^ 52 // parts.w

  pub inverse_is : inverse *q value (exp_fixed X) ≈q nat 1
  unfolding inverse
  inverse_is = *_cong (≈_refl (2 ^ 52 // parts.w)) result_is ⟫ frac_reciprocal (2 ^ 52) parts.w (pow_pos 52) top_positive

  pub inverse_nonneg : nat 0 ≤q inverse
  unfolding inverse
  inverse_nonneg = frac_nonneg (2 ^ 52) parts.w
