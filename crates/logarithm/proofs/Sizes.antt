-- The sizes of ln and ln_1p. Assumes nothing.
use Rattle.std.proofs.Common.{◌≡◌, ℕ, ◌+◌, ◌-◌, ◌*◌, ◌^◌, ◌<◌, ◌≤◌, false, T, [], ◌∷◌, zero-lt-suc, mul-pos, arith, lit<, lit≤, pow_pos}
use lib.Ieee.{Float, inf, binary64, fits}
use lib.Ieee.Scale.{finite}
use Rattle.exact.specs.Fraction.{ℚ, ◌//◌, nat, ◌+q◌, ◌-q◌, negq, ◌*q◌, ◌≤q◌, ◌≈q◌}
use Rattle.exact.specs.FloatValue.{value}
use Rattle.exact.specs.Float64.{◌<f◌, ◌≤f◌, +0}
use Rattle.exact.proofs.FractionLaws.{≈_refl, ≈_sym, ≤_of_≈, ≤_refl, ≤_trans, *_mono, *_comm, *_cong, +_mono, nat_cancel}
use Rattle.exact.proofs.FractionProver.{qv, ##, ◌÷◌, ◌⊞◌, ◌⊟◌, ⊝, linq, ◌⊑◌by◌}
use Rattle.series.specs.Series.{E, Enough}
use Rattle.series.proofs.Quotients.{◌⟫◌, frac_≤, frac_≈, frac_+, frac_*, frac_nat}
use Rattle.series.proofs.Order.{E_nonneg, E_reciprocal, E_zero}
use Rattle.series.proofs.SmallArguments.{E_one_plus}
use Rattle.series.proofs.Sizes.{E_large}
use Rattle.logarithm.specs.Logarithm.{least_normal, ln_of, ln1p_of}
use Rattle.logarithm.proofs.Enclosure.{δ}
use Rattle.logarithm.proofs.Reflects.{E_reflects_≤}
use Rattle.logarithm.proofs.Accuracy.{Stands, ln_stands, ln_1p_accurate, not_negative}

-- k 0.6932, a bound on k ln 2
abbrev pub powers : ℕ → ℚ
powers k = (k * 6932) // 10000

quarter_below : (k : ℕ) → 1 ≤ k → powers k +q 1 // 4 ≤q nat k
quarter_below k h =
    ≤_trans (+_mono (frac_≤ (k * 6932) (4 * k - 1) (lit< tt) (lit< tt) (cross k h)) (≤_refl (1 // 4)))
    (≤_of_≈ (frac_+ (4 * k - 1) 1 (lit< tt) ⟫ frac_≈ (4 * k - 1 + 1) k (lit< tt) (zero-lt-suc 0) (whole k h) ⟫ frac_nat k))
  where
    cross : (k : ℕ) → 1 ≤ k → k * 6932 * 4 ≤ (4 * k - 1) * 10000
    cross k h = omega arith

    whole : (k : ℕ) → 1 ≤ k → (4 * k - 1 + 1) * 1 ≡ k * 4
    whole k h = omega arith

unit : (P : ℕ) → 0 < P → nat P *q (1 // P) ≈q nat 1
unit P h = *_cong (≈_sym (frac_nat P)) (≈_refl (1 // P)) ⟫ frac_* P 1 (zero-lt-suc 0) h ⟫ frac_≈ (P * 1) 1 (mul-pos (zero-lt-suc 0) h) (zero-lt-suc 0) (cross P) ⟫ frac_nat 1
  where
    cross : (P : ℕ) → P * 1 * 1 ≡ 1 * (1 * P)
    cross P = omega arith

-- E at -k 0.6932 is at most 2^-k
pub E_small : (k : ℕ) {N : ℕ} → 1 ≤ k → k ≤ 1442 → Enough N → E N (negq (powers k)) ≤q 1 // 2 ^ k
E_small k {N} h m n =
    let e = E N (powers k) in let e' = E N (negq (powers k)) in
    nat_cancel (2 ^ k) (pow_pos k)
    (≤_trans (≤_of_≈ (*_comm (nat (2 ^ k)) e')) (≤_trans (*_mono (E_nonneg N (negq (powers k))) (E_large k h m n (≤_refl (powers k))))
    (≤_trans (≤_of_≈ (*_comm e' e ⟫ E_reciprocal N (powers k))) (≤_of_≈ (≈_sym (unit (2 ^ k) (pow_pos k)))))))

enough : Enough 3999
enough = lit≤ tt

module _ (x : Float) (f : T (fits binary64 x)) (h : T (least_normal ≤f x)) (t : T (x <f inf false)) (k : ℕ) (K : 1 ≤ k) (M : k ≤ 1442) where
  abbrev s : Stands (value x) (ln_of x)
  s = ln_stands x f h t

  -- x ≤ 2^k: ln x ≤ k
  pub ln_at_most : value x ≤q nat (2 ^ k) → value (ln_of x) ≤q nat k
  ln_at_most u =
      let a : s.ℓ -q δ ≤q powers k = E_reflects_≤ {N = 3999} (lit≤ tt) (≤_trans (s.encloses.low enough) (≤_trans u (E_large k K M enough (≤_refl (powers k))))) in
      linq (value (ln_of x) ∷ s.ℓ ∷ powers k ∷ nat k ∷ []) ((qv 0 ⊟ qv 1 ⊑ 3 ÷ (2 ^ 44) by 1) ∷ (qv 1 ⊟ (2 ^ 19) ÷ (2 ^ 64) ⊑ qv 2 by 1) ∷ (qv 2 ⊞ 1 ÷ 4 ⊑ qv 3 by 1) ∷ []) 0 (qv 0) (qv 3) tt s.near.above a (quarter_below k K)

  -- 2^-k ≤ x: -k ≤ ln x
  pub ln_at_least : 1 // 2 ^ k ≤q value x → negq (nat k) ≤q value (ln_of x)
  ln_at_least l =
      let a : negq (powers k) ≤q s.ℓ +q δ = E_reflects_≤ {N = 3999} (lit≤ tt) (≤_trans (E_small k K M enough) (≤_trans l (s.encloses.high enough))) in
      linq (value (ln_of x) ∷ s.ℓ ∷ powers k ∷ nat k ∷ []) ((qv 1 ⊟ qv 0 ⊑ 3 ÷ (2 ^ 44) by 1) ∷ (⊝ (qv 2) ⊑ qv 1 ⊞ (2 ^ 19) ÷ (2 ^ 64) by 1) ∷ (qv 2 ⊞ 1 ÷ 4 ⊑ qv 3 by 1) ∷ []) 0 (⊝ (qv 3)) (qv 0) tt s.near.below a (quarter_below k K)

module _ (a : Float) (f : T (fits binary64 a)) (t : T (finite a)) (h : T (+0 ≤f a)) where
  abbrev y : ℚ
  y = value (ln1p_of a)

  a_nonneg : nat 0 ≤q value a
  a_nonneg = not_negative a t h

  -- ln(1 + a) is not negative, but for 2^-42
  pub ln_1p_at_least : negq (1 // 2 ^ 42) ≤q y
  ln_1p_at_least =
      let b : nat 0 ≤q y +q 1 // 2 ^ 42 = E_reflects_≤ {N = 3999} (lit≤ tt) (≤_trans (≤_of_≈ (E_zero 3999)) (≤_trans (linq (value a ∷ []) ((## 0 ⊑ qv 0 by 1) ∷ []) 0 (## 1) (## 1 ⊞ qv 0) tt a_nonneg) ((ln_1p_accurate a f t h).not_above enough))) in
      linq (y ∷ []) ((## 0 ⊑ qv 0 ⊞ 1 ÷ (2 ^ 42) by 1) ∷ []) 0 (⊝ (1 ÷ (2 ^ 42))) (qv 0) tt b

  -- and at most a, but for 2^-42
  pub ln_1p_at_most : y ≤q value a +q 1 // 2 ^ 42
  ln_1p_at_most =
      let b : y -q 1 // 2 ^ 42 ≤q value a = E_reflects_≤ {N = 3999} (lit≤ tt) (≤_trans ((ln_1p_accurate a f t h).not_below enough) (E_one_plus (value a) (lit≤ tt))) in
      linq (y ∷ value a ∷ []) ((qv 0 ⊟ 1 ÷ (2 ^ 42) ⊑ qv 1 by 1) ∷ []) 0 (qv 0) (qv 1 ⊞ 1 ÷ (2 ^ 42)) tt b

  -- 1 + a ≤ 2^k: ln(1 + a) ≤ k
  pub ln_1p_at_most_k : (k : ℕ) → 1 ≤ k → k ≤ 1442 → nat 1 +q value a ≤q nat (2 ^ k) → y ≤q nat k
  ln_1p_at_most_k k K M u =
      let b : y -q 1 // 2 ^ 42 ≤q powers k = E_reflects_≤ {N = 3999} (lit≤ tt) (≤_trans ((ln_1p_accurate a f t h).not_below enough) (≤_trans u (E_large k K M enough (≤_refl (powers k))))) in
      linq (y ∷ powers k ∷ nat k ∷ []) ((qv 0 ⊟ 1 ÷ (2 ^ 42) ⊑ qv 1 by 1) ∷ (qv 1 ⊞ 1 ÷ 4 ⊑ qv 2 by 1) ∷ []) 0 (qv 0) (qv 2) tt b (quarter_below k K)
