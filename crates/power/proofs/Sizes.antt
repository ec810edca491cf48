-- The size of a power: a base between 2^-k and 2^k to an exponent of size at most 4 lies between 2^-(4k + 1) and 2^(4k + 1). Assumes nothing.
use mathlib.Core.Path.{sym}
use mathlib.Core.Bool.{Bool, true, false, cond}
use mathlib.Core.List.{[], ◌∷◌}
use Prim.Native.Nat.{ℕ, ◌+◌, ◌*◌, ◌^◌, ◌≤◌}
use native.Mathlib.Nat.{zero-lt-suc, le_trans, not-le_of_lt, mul-one, le_of_eq, one-mul}
use native.Mathlib.Omega.{arith}
use lib.Dec.{T, lit≤, lit<}
use lib.Pow.{pow_pos, pow_mono}
use lib.Ieee.{Float, inf, binary64, lt, fits}
use lib.Ieee.Scale.{finite}
use Rattle.exact.specs.Fraction.{ℚ, ◌//◌, nat, ◌+q◌, negq, ◌*q◌, absq, ◌≤q◌, ◌≈q◌, leqb}
use Rattle.exact.specs.FloatValue.{value}
use Rattle.exact.specs.Float64.{◌<f◌, +0}
use Rattle.exact.proofs.FractionLaws.{≈_refl, ≈_sym, ≤_of_≈, ≤_refl, ≤_trans, *_comm, *_cong, *_mono, +_mono, lit_≤}
use Rattle.exact.proofs.FractionProver.{qv, ##, ◌÷◌, ◌⊞◌, ◌⊟◌, ◌⊠◌, ⊝, leq, req, linq, ◌⊑◌by◌, nat_≤}
use Rattle.exact.proofs.Closeness.{le_abs, neg_le_abs, abs_le, abs_*_le}
use Rattle.exact.proofs.Rounding.{frac_nonneg}
use Rattle.series.specs.Series.{E, Enough}
use Rattle.series.proofs.Quotients.{◌⟫◌, frac_≤, frac_+, frac_*, frac_nat, cross_≤}
use Rattle.series.proofs.Order.{E_nonneg, E_mono}
use Rattle.series.proofs.TailLaws.{Moderate}
use Rattle.series.proofs.ProductLaws.{tails, moderate_≈}
use Rattle.series.proofs.Shifts.{E_shift_≥}
use Rattle.series.proofs.Sizes.{E_large, E_at_most, E_at_least}
use Rattle.logarithm.proofs.Sizes.{powers, E_small}
use Rattle.power.specs.Power.{pow_of}
use Rattle.power.specs.Accuracy.{AtLeast, AtMost, Between}
use Rattle.power.specs.Accuracy.AtLeast.{least_relative, least_absolute}
use Rattle.power.specs.Accuracy.AtMost.{most_relative, most_absolute}
use Rattle.power.specs.Accuracy.Between.{a_number, infinite}
use Rattle.power.proofs.Accuracy.{pow_between}

enough : Enough 3999
enough = lit≤ tt

half_size : absq (1 // 2) ≤q nat 1
unfolding leqb nat ◌//◌ absq
half_size = lit_≤ tt

tails_small : nat 1 +q tails ≤q 6 // 5
unfolding leqb nat ◌//◌ ◌+q◌
tails_small = lit_≤ tt

tiny_small : 1 // 2 ^ 1000 ≤q 1 // 2 ^ 40
unfolding leqb ◌//◌
tiny_small = lit_≤ tt

half_size' : absq (negq (1 // 2)) ≤q nat 1
unfolding leqb nat ◌//◌ absq negq
half_size' = lit_≤ tt

tiny_900 : nat 4 *q (1 // 2 ^ 1000) ≤q 1 // 2 ^ 900
unfolding leqb nat ◌//◌ ◌*q◌
tiny_900 = lit_≤ tt

tails_nonneg : nat 0 ≤q nat 1 +q tails
unfolding leqb nat ◌//◌ ◌+q◌
tails_nonneg = lit_≤ tt

scaled : {x y : ℚ} → x ≤q y → x *q (nat 1 +q tails) ≤q y *q (nat 1 +q tails)
scaled {x} {y} h = ≤_trans (≤_of_≈ (*_comm x (nat 1 +q tails))) (≤_trans (*_mono tails_nonneg h) (≤_of_≈ (*_comm (nat 1 +q tails) y)))

grown : (e P : ℚ) → nat 0 ≤q P → e *q (nat 1 +q 1 // 2) ≤q P *q (nat 1 +q tails) → nat 5 *q e ≤q nat 4 *q P
grown e P p h = linq (e ∷ P ∷ []) ((qv 0 ⊠ (## 1 ⊞ 1 ÷ 2) ⊑ qv 1 ⊠ 6 ÷ 5 by 10) ∷ []) 2 (## 5 ⊠ qv 0) (## 4 ⊠ qv 1) tt (≤_trans h (*_mono p tails_small))

module _ (k : ℕ) (K : 1 ≤ k) (M : 4 * k + 1 ≤ 900) where
  abbrev J : ℕ
  J = 4 * k + 1

  abbrev κ : ℚ
  κ = powers k

  κ_nonneg : nat 0 ≤q κ
  κ_nonneg = frac_nonneg (k * 6932) 10000

  -- 4 κ + 1/2 ≤ J 0.6931
  room : nat 4 *q κ +q 1 // 2 ≤q (J * 6931) // 10000
  room =
      ≤_trans (linq (κ ∷ ((4 * (k * 6932)) // 10000) ∷ []) ((## 4 ⊠ qv 0 ⊑ qv 1 by 1) ∷ []) 0 (## 4 ⊠ qv 0 ⊞ 1 ÷ 2) (qv 1 ⊞ 5000 ÷ 10000) tt (≤_of_≈ four_times))
      (≤_trans (≤_of_≈ (frac_+ (4 * (k * 6932)) 5000 (lit< tt))) (frac_≤ (4 * (k * 6932) + 5000) (J * 6931) (lit< tt) (lit< tt) (cross k M)))
    where
      cross : (k : ℕ) → 4 * k + 1 ≤ 900 → (4 * (k * 6932) + 5000) * 10000 ≤ (4 * k + 1) * 6931 * 10000
      cross k h = omega arith

      four_times : nat 4 *q κ ≈q (4 * (k * 6932)) // 10000
      four_times = *_cong (≈_sym (frac_nat 4)) (≈_refl κ) ⟫ frac_* 4 (k * 6932) (zero-lt-suc 0) (lit< tt)

  small : nat 4 *q κ ≤q nat 900
  small = ≤_trans (linq (κ ∷ ((J * 6931) // 10000) ∷ []) ((## 4 ⊠ qv 0 ⊞ 1 ÷ 2 ⊑ qv 1 by 1) ∷ []) 0 (## 4 ⊠ qv 0) (qv 1) tt room) (≤_trans (frac_≤ (J * 6931) 900 (lit< tt) (zero-lt-suc 0) (cross k M)) (≤_of_≈ (frac_nat 900)))
    where
      cross : (k : ℕ) → 4 * k + 1 ≤ 900 → (4 * k + 1) * 6931 * 1 ≤ 900 * 10000
      cross k h = omega arith

  moderate : (x d : ℚ) → absq x ≤q nat 4 *q κ → absq d ≤q nat 1 → Moderate (x +q d)
  moderate x d h m = record {
    size = abs_le
        (linq (x ∷ d ∷ κ ∷ absq x ∷ absq d ∷ []) ((qv 0 ⊑ qv 3 by 1) ∷ (qv 3 ⊑ ## 4 ⊠ qv 2 by 1) ∷ (qv 1 ⊑ qv 4 by 1) ∷ (qv 4 ⊑ ## 1 by 1) ∷ (## 4 ⊠ qv 2 ⊑ ## 900 by 1) ∷ []) 0 (qv 0 ⊞ qv 1) (## 1000) tt (le_abs x) h (le_abs d) m small)
        (linq (x ∷ d ∷ κ ∷ absq x ∷ absq d ∷ []) ((⊝ (qv 0) ⊑ qv 3 by 1) ∷ (qv 3 ⊑ ## 4 ⊠ qv 2 by 1) ∷ (⊝ (qv 1) ⊑ qv 4 by 1) ∷ (qv 4 ⊑ ## 1 by 1) ∷ (## 4 ⊠ qv 2 ⊑ ## 900 by 1) ∷ []) 0 (⊝ (qv 0 ⊞ qv 1)) (## 1000) tt (neg_le_abs x) h (neg_le_abs d) m small);
  }

  moderate_itself : (x : ℚ) → absq x ≤q nat 4 *q κ → Moderate x
  moderate_itself x h = record { size = ≤_trans h (≤_trans small (leq [] (## 900) (## 1000) tt)) }

  abbrev P : ℚ
  P = nat (2 ^ J)

  abbrev q : ℚ
  q = 1 // 2 ^ J

  P_one : nat 1 ≤q P
  P_one = nat_≤ (pow_pos J)

  -- E at an end is well below 2^J, and well above 2^-J
  well_below : (x : ℚ) → absq x ≤q nat 4 *q κ → nat 5 *q E 3999 x ≤q nat 4 *q P
  well_below x h =
      grown (E 3999 x) P (≤_trans (leq [] (## 0) (## 1) tt) P_one)
      (≤_trans (E_shift_≥ (1 // 2) enough enough (moderate_itself x h) (moderate x (1 // 2) h half_size) half_size) (scaled (E_at_most J 3999 (linq (x ∷ κ ∷ absq x ∷ ((J * 6931) // 10000) ∷ []) ((qv 0 ⊑ qv 2 by 1) ∷ (qv 2 ⊑ ## 4 ⊠ qv 1 by 1) ∷ (## 4 ⊠ qv 1 ⊞ 1 ÷ 2 ⊑ qv 3 by 1) ∷ []) 0 (qv 0 ⊞ 1 ÷ 2) (qv 3) tt (le_abs x) h room))))

  well_above : (x : ℚ) → absq x ≤q nat 4 *q κ → nat 5 *q q ≤q nat 4 *q E 3999 x
  well_above x h =
      let y = x +q negq (1 // 2) in
      let a : nat 5 *q E 3999 y ≤q nat 4 *q E 3999 x =
      grown (E 3999 y) (E 3999 x) (E_nonneg 3999 x) (≤_trans (E_shift_≥ (1 // 2) enough enough (moderate x (negq (1 // 2)) h half_size') (moderate_≈ (req (x ∷ []) (qv 0) (qv 0 ⊞ ⊝ (1 ÷ 2) ⊞ 1 ÷ 2) tt tt) (moderate_itself x h)) half_size) (scaled (E_mono 3999 (linq (x ∷ []) [] 0 (qv 0 ⊞ ⊝ (1 ÷ 2) ⊞ 1 ÷ 2) (qv 0) tt)))) in
      let l : q ≤q E 3999 y = E_at_least J 3999 (linq (x ∷ κ ∷ absq x ∷ ((J * 6931) // 10000) ∷ []) ((⊝ (qv 0) ⊑ qv 2 by 1) ∷ (qv 2 ⊑ ## 4 ⊠ qv 1 by 1) ∷ (## 4 ⊠ qv 1 ⊞ 1 ÷ 2 ⊑ qv 3 by 1) ∷ []) 0 (⊝ (qv 3)) (qv 0 ⊞ ⊝ (1 ÷ 2)) tt (neg_le_abs x) h room) in
      linq (q ∷ E 3999 y ∷ E 3999 x ∷ []) ((qv 0 ⊑ qv 1 by 5) ∷ (## 5 ⊠ qv 1 ⊑ ## 4 ⊠ qv 2 by 1) ∷ []) 0 (## 5 ⊠ qv 0) (## 4 ⊠ qv 2) tt l a

  q_nonneg : nat 0 ≤q q
  q_nonneg = frac_nonneg 1 (2 ^ J)

  tiny_below_q : nat 4 *q (1 // 2 ^ 1000) ≤q q
  tiny_below_q = ≤_trans tiny_900 (frac_≤ 1 1 (pow_pos 900) (pow_pos J) (le_trans (le_of_eq (one-mul (2 ^ J))) (le_trans (pow_mono M) (le_of_eq (sym (one-mul (2 ^ 900)))))))

  pub record Sized (r : Float) : Type 0 where
    pub is_finite : T (finite r)
    pub at_least : 1 // 2 ^ (4 * k + 1) ≤q value r
    pub at_most : value r ≤q nat (2 ^ (4 * k + 1))

  below_top : {e : ℚ} {r : ℚ} → nat 5 *q e ≤q nat 4 *q P → AtMost e r → r ≤q P
  below_top {e} {r} w (most_relative h) = linq (e ∷ P ∷ r ∷ []) ((qv 2 ⊑ qv 0 ⊞ 1 ÷ (2 ^ 40) ⊠ qv 0 by 5497558138880) ∷ (## 5 ⊠ qv 0 ⊑ ## 4 ⊠ qv 1 by 1099511627777) ∷ (## 0 ⊑ qv 1 by 1099511627772) ∷ []) 5497558138879 (qv 2) (qv 1) tt h w (≤_trans (leq [] (## 0) (## 1) tt) P_one)
  below_top {e} {r} w (most_absolute h) = linq (e ∷ P ∷ r ∷ []) ((qv 2 ⊑ qv 0 ⊞ 1 ÷ (2 ^ 40) by 5) ∷ (## 5 ⊠ qv 0 ⊑ ## 4 ⊠ qv 1 by 1) ∷ (## 1 ⊑ qv 1 by 1) ∷ []) 4 (qv 2) (qv 1) tt (≤_trans h (+_mono (≤_refl e) tiny_small)) w P_one

  above_bottom : {e : ℚ} {r : ℚ} → nat 5 *q q ≤q nat 4 *q e → AtLeast e r → q ≤q r
  above_bottom {e} {r} w (least_relative h) = linq (e ∷ q ∷ r ∷ []) ((qv 0 ⊟ 1 ÷ (2 ^ 40) ⊠ qv 0 ⊑ qv 2 by 4398046511104) ∷ (## 5 ⊠ qv 1 ⊑ ## 4 ⊠ qv 0 by 1099511627775) ∷ (## 0 ⊑ qv 1 by 1099511627771) ∷ []) 4398046511103 (qv 1) (qv 2) tt h w q_nonneg
  above_bottom {e} {r} w (least_absolute h) = linq (e ∷ q ∷ r ∷ (1 // 2 ^ 1000) ∷ []) ((qv 0 ⊟ qv 3 ⊑ qv 2 by 4) ∷ (## 5 ⊠ qv 1 ⊑ ## 4 ⊠ qv 0 by 1) ∷ (## 4 ⊠ qv 3 ⊑ qv 1 by 1) ∷ []) 3 (qv 1) (qv 2) tt h w tiny_below_q

  sized : {lo hi : ℚ} {r : Float} → absq lo ≤q nat 4 *q κ → absq hi ≤q nat 4 *q κ → Between lo hi r → Sized r
  sized {lo} {hi} l h (a_number r p) = record {
    is_finite = p.is_finite;
    at_least = above_bottom (well_above lo l) (p.not_below 3999 enough);
    at_most = below_top (well_below hi h) (p.not_above 3999 enough);
  }
  sized {lo} {hi} l h (infinite f) = absurd (not-le_of_lt (lit< {m = 2 ^ 900} {n = 2 ^ 1000} tt) (le_trans (le_trans (le_of_eq (sym (mul-one (2 ^ 1000)))) (le_trans (cross_≤ (2 ^ 1000) (2 ^ J) (zero-lt-suc 0) (zero-lt-suc 0) (≤_trans (≤_of_≈ (frac_nat (2 ^ 1000))) (≤_trans too_far (≤_of_≈ (≈_sym (frac_nat (2 ^ J))))))) (le_of_eq (mul-one (2 ^ J))))) (pow_mono M)))
    where
      too_far : nat (2 ^ 1000) ≤q nat (2 ^ J)
      too_far = linq (nat (2 ^ 1000) ∷ E 3999 hi ∷ P ∷ []) ((qv 0 ⊑ qv 1 by 5) ∷ (## 5 ⊠ qv 1 ⊑ ## 4 ⊠ qv 2 by 1) ∷ (## 0 ⊑ qv 2 by 1) ∷ []) 4 (qv 0) (qv 2) tt (f 3999 enough) (well_below hi h) (≤_trans (leq [] (## 0) (## 1) tt) P_one)

  module _ (b p : Float) (fb : T (fits binary64 b)) (hb : T (+0 <f b)) (kb : T (b <f inf false)) (fp : T (fits binary64 p)) (tp : T (finite p)) (hp : absq (value p) ≤q nat 4) (bl : 1 // 2 ^ k ≤q value b) (bh : value b ≤q nat (2 ^ k)) where
    few : k ≤ 1442
    few = omega arith

    κ_size : absq κ ≤q κ
    κ_size = abs_le (≤_refl κ) (linq (κ ∷ []) ((## 0 ⊑ qv 0 by 2) ∷ []) 0 (⊝ (qv 0)) (qv 0) tt κ_nonneg)

    κ_size' : absq (negq κ) ≤q κ
    κ_size' = abs_le (linq (κ ∷ []) ((## 0 ⊑ qv 0 by 2) ∷ []) 0 (⊝ (qv 0)) (qv 0) tt κ_nonneg) (linq (κ ∷ []) [] 0 (⊝ (⊝ (qv 0))) (qv 0) tt)

    end : (x : ℚ) → absq x ≤q κ → absq (x *q value p) ≤q nat 4 *q κ
    end x h = ≤_trans (abs_*_le x (value p) h hp) (≤_of_≈ (*_comm κ (nat 4)))

    both : (s : Bool) (x y : ℚ) → absq x ≤q nat 4 *q κ → absq y ≤q nat 4 *q κ → absq (cond s x y) ≤q nat 4 *q κ
    both true x y l r = l
    both false x y l r = r

    -- the power of a base between 2^-k and 2^k
    pub pow_sized : Sized (pow_of b p)
    pow_sized =
        sized (both (lt p +0) (κ *q value p) (negq κ *q value p) (end κ κ_size) (end (negq κ) κ_size')) (both (lt p +0) (negq κ *q value p) (κ *q value p) (end (negq κ) κ_size') (end κ κ_size))
        (pow_between b p fp tp hp (negq κ) κ enough enough (≤_trans (E_small k K few enough) bl) (≤_trans bh (E_large k K few enough (≤_refl κ))) fb hb kb)
