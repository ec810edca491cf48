-- THE LAW of pow: for every two fractions that enclose the base between E, the power lies between E at the fractions times the exponent. Assumes nothing.
use mathlib.Core.Path.{◌≡◌, refl, sym, ap, ◌∙◌, subst}
use mathlib.Core.Bool.{Bool, true, false, cond, not}
use mathlib.Core.List.{[], ◌∷◌}
use Prim.Native.Nat.{ℕ, ◌+◌, ◌*◌, ◌^◌, ◌≤◌}
use native.Mathlib.Nat.{le_trans, le-add_right}
use native.Mathlib.Omega.{arith}
use lib.Dec.{T}
use lib.Ieee.{Float, nan, inf, binary64, lt, eq, neg, fits}
use lib.Ieee.Bits.{is_true}
use lib.Ieee.Scale.{finite}
use Rattle.exact.specs.Fraction.{ℚ, ◌//◌, nat, ◌+q◌, ◌-q◌, negq, ◌*q◌, absq, ◌≤q◌, ◌≈q◌}
use Rattle.exact.specs.FloatValue.{value}
use Rattle.exact.specs.Float64.{◌<f◌, +0, +1}
use Rattle.exact.proofs.FractionLaws.{≈_refl, ≈_sym, ≤_of_≈, ≤_refl, ≤_trans, *_cong, *_mono, neg_cong}
use Rattle.exact.proofs.FractionProver.{qv, ##, ◌÷◌, ◌⊞◌, ◌⊟◌, ◌⊠◌, ⊝, leq, req, linq, ◌⊑◌by◌}
use Rattle.exact.proofs.Closeness.{le_abs, neg_le_abs}
use Rattle.exact.proofs.Comparisons.{lt→≤, nlt→≤}
use Rattle.exact.proofs.Rounding.{value_neg}
use Rattle.series.specs.Series.{E, Enough}
use Rattle.series.proofs.Quotients.{◌⟫◌}
use Rattle.series.proofs.Order.{E_at_least_one, E_at_most_one, E_nonneg, E_zero, neg_neg}
use Rattle.exponential.proofs.Accuracy.{one_value}
use lib.Ieee.Fits.{neg-fits}
use Rattle.logarithm.specs.Logarithm.{log_of}
use Rattle.logarithm.specs.declared.Log.{Log}
use Rattle.logarithm.proofs.WholeBounds.{B, D}
use Rattle.logarithm.proofs.Enclosure.{δ, fixed}
use Rattle.logarithm.proofs.Enclosed.{Enclosed, Logged, one, above, below, logged}
use Rattle.logarithm.proofs.Reflects.{E_reflects_≤}
use Rattle.logarithm.proofs.Accuracy.{zero_value, zero_finite, one_finite}
use Rattle.power.specs.Power.{minus_four, power_of, product_of, raised_of, nonzero_power, pow_from, pow_of}
use Rattle.power.specs.Accuracy.{parts, Between, lower, upper}
use Rattle.power.specs.Accuracy.AtLeast.{least_relative}
use Rattle.power.specs.Accuracy.AtMost.{most_relative}
use Rattle.power.specs.Accuracy.Between.{a_number}
use Rattle.power.proofs.Exponents as exponents
use Rattle.power.proofs.Products.{scaled, product_low, product_high}
use Rattle.power.proofs.Cores.{η, target, power_between}
use Rattle.power.proofs.Signs.{not_above_four, not_below_four, equal_zero, SignOf, above_0, below_0, sign_of_exponent}

some : {N : ℕ} → Enough N → 1 ≤ N
some {N} n = omega arith

-- ---- 1, where the logarithm's ends lie about 0
one_between : {lo hi : ℚ} → lo ≤q nat 0 → nat 0 ≤q hi → Between lo hi +1
one_between {lo} {hi} l h = a_number +1 (record {
  is_finite = one_finite;
  not_negative = ≤_trans (leq [] (## 0) (## 1) tt) (≤_of_≈ (≈_sym one_value));
  not_below = λ K k. least_relative (linq (E K lo ∷ value +1 ∷ []) ((qv 0 ⊑ ## 1 by 1099511627776) ∷ (## 0 ⊑ qv 0 by 1) ∷ (## 1 ⊑ qv 1 by 1099511627776) ∷ []) 1099511627775 (qv 0 ⊟ 1 ÷ parts ⊠ qv 0) (qv 1) tt (E_at_most_one K l) (E_nonneg K lo) (≤_of_≈ (≈_sym one_value)));
  not_above = λ K k. most_relative (linq (E K hi ∷ value +1 ∷ []) ((## 1 ⊑ qv 0 by 1099511627777) ∷ (qv 1 ⊑ ## 1 by 1099511627776) ∷ []) 1099511627775 (qv 1) (qv 0 ⊞ 1 ÷ parts ⊠ qv 0) tt (E_at_least_one K h) (≤_of_≈ one_value));
})

times_zero : (x : ℚ) {π : ℚ} → π ≈q nat 0 → x *q π ≈q nat 0
times_zero x e = *_cong (≈_refl x) e ⟫ req (x ∷ []) (qv 0 ⊠ ## 0) (## 0) tt tt

-- ---- the ends of the logarithm, times the exponent
module _ (u v π ℓ z : ℚ) (hu : u ≤q ℓ +q δ) (hv : ℓ -q δ ≤q v) (up : π *q ℓ -q z ≤q 1 // 2 ^ 43) (down : z -q π *q ℓ ≤q 1 // 2 ^ 43) where
  above_low : nat 0 ≤q π → π ≤q nat 4 → u *q π ≤q z +q η
  above_low p m = linq (u ∷ π ∷ ℓ ∷ z ∷ []) ((qv 1 ⊠ qv 0 ⊑ qv 1 ⊠ (qv 2 ⊞ (2 ^ 19) ÷ (2 ^ 64)) by 35184372088832) ∷ (qv 1 ⊑ ## 4 by 1) ∷ (qv 1 ⊠ qv 2 ⊟ qv 3 ⊑ 1 ÷ (2 ^ 43) by 35184372088832) ∷ []) 35184372088831 (qv 0 ⊠ qv 1) (qv 3 ⊞ 1 ÷ (2 ^ 42)) tt (*_mono p hu) m up

  above_high : nat 0 ≤q π → π ≤q nat 4 → z +q negq η ≤q v *q π
  above_high p m = linq (v ∷ π ∷ ℓ ∷ z ∷ []) ((qv 1 ⊠ (qv 2 ⊟ (2 ^ 19) ÷ (2 ^ 64)) ⊑ qv 1 ⊠ qv 0 by 35184372088832) ∷ (qv 1 ⊑ ## 4 by 1) ∷ (qv 3 ⊟ qv 1 ⊠ qv 2 ⊑ 1 ÷ (2 ^ 43) by 35184372088832) ∷ []) 35184372088831 (qv 3 ⊞ ⊝ (1 ÷ (2 ^ 42))) (qv 0 ⊠ qv 1) tt (*_mono p hv) m down

  below_low : nat 0 ≤q negq π → negq π ≤q nat 4 → v *q π ≤q z +q η
  below_low p m = linq (v ∷ π ∷ ℓ ∷ z ∷ []) ((⊝ (qv 1) ⊠ (qv 2 ⊟ (2 ^ 19) ÷ (2 ^ 64)) ⊑ ⊝ (qv 1) ⊠ qv 0 by 35184372088832) ∷ (⊝ (qv 1) ⊑ ## 4 by 1) ∷ (qv 1 ⊠ qv 2 ⊟ qv 3 ⊑ 1 ÷ (2 ^ 43) by 35184372088832) ∷ []) 35184372088831 (qv 0 ⊠ qv 1) (qv 3 ⊞ 1 ÷ (2 ^ 42)) tt (*_mono p hv) m up

  below_high : nat 0 ≤q negq π → negq π ≤q nat 4 → z +q negq η ≤q u *q π
  below_high p m = linq (u ∷ π ∷ ℓ ∷ z ∷ []) ((⊝ (qv 1) ⊠ qv 0 ⊑ ⊝ (qv 1) ⊠ (qv 2 ⊞ (2 ^ 19) ÷ (2 ^ 64)) by 35184372088832) ∷ (⊝ (qv 1) ⊑ ## 4 by 1) ∷ (qv 3 ⊟ qv 1 ⊠ qv 2 ⊑ 1 ÷ (2 ^ 43) by 35184372088832) ∷ []) 35184372088831 (qv 3 ⊞ ⊝ (1 ÷ (2 ^ 42))) (qv 0 ⊠ qv 1) tt (*_mono p hu) m down

-- the signed logarithm
abbrev log : ℕ → Bool → ℚ
log v less = cond less (negq (fixed v)) (fixed v)

-- q L is s within 2^-43, so with the signs π ℓ is the target
module _ (q L s π : ℚ) (lo : s ≤q q *q L) (hi : q *q L ≤q s +q 1 // 2 ^ 43) where
  same_up : π ≈q q → (less : Bool) → π *q cond less (negq L) L -q cond less (negq s) s ≤q 1 // 2 ^ 43
  same_up e true = ≤_trans (linq (q ∷ L ∷ s ∷ (π *q negq L) ∷ []) ((qv 3 ⊑ qv 0 ⊠ ⊝ (qv 1) by 1) ∷ (qv 2 ⊑ qv 0 ⊠ qv 1 by 1) ∷ []) 0 (qv 3 ⊟ ⊝ (qv 2)) (## 0) tt (≤_of_≈ (*_cong e (≈_refl (negq L)))) lo) (leq [] (## 0) (1 ÷ (2 ^ 43)) tt)
  same_up e false = linq (q ∷ L ∷ s ∷ (π *q L) ∷ []) ((qv 3 ⊑ qv 0 ⊠ qv 1 by 1) ∷ (qv 0 ⊠ qv 1 ⊑ qv 2 ⊞ 1 ÷ (2 ^ 43) by 1) ∷ []) 0 (qv 3 ⊟ qv 2) (1 ÷ (2 ^ 43)) tt (≤_of_≈ (*_cong e (≈_refl L))) hi

  same_down : π ≈q q → (less : Bool) → cond less (negq s) s -q π *q cond less (negq L) L ≤q 1 // 2 ^ 43
  same_down e true = linq (q ∷ L ∷ s ∷ (π *q negq L) ∷ []) ((qv 0 ⊠ ⊝ (qv 1) ⊑ qv 3 by 1) ∷ (qv 0 ⊠ qv 1 ⊑ qv 2 ⊞ 1 ÷ (2 ^ 43) by 1) ∷ []) 0 (⊝ (qv 2) ⊟ qv 3) (1 ÷ (2 ^ 43)) tt (≤_of_≈ (≈_sym (*_cong e (≈_refl (negq L))))) hi
  same_down e false = ≤_trans (linq (q ∷ L ∷ s ∷ (π *q L) ∷ []) ((qv 0 ⊠ qv 1 ⊑ qv 3 by 1) ∷ (qv 2 ⊑ qv 0 ⊠ qv 1 by 1) ∷ []) 0 (qv 2 ⊟ qv 3) (## 0) tt (≤_of_≈ (≈_sym (*_cong e (≈_refl L)))) lo) (leq [] (## 0) (1 ÷ (2 ^ 43)) tt)

  other_up : π ≈q negq q → (less : Bool) → π *q cond less (negq L) L -q cond (not less) (negq s) s ≤q 1 // 2 ^ 43
  other_up e true = linq (q ∷ L ∷ s ∷ (π *q negq L) ∷ []) ((qv 3 ⊑ ⊝ (qv 0) ⊠ ⊝ (qv 1) by 1) ∷ (qv 0 ⊠ qv 1 ⊑ qv 2 ⊞ 1 ÷ (2 ^ 43) by 1) ∷ []) 0 (qv 3 ⊟ qv 2) (1 ÷ (2 ^ 43)) tt (≤_of_≈ (*_cong e (≈_refl (negq L)))) hi
  other_up e false = ≤_trans (linq (q ∷ L ∷ s ∷ (π *q L) ∷ []) ((qv 3 ⊑ ⊝ (qv 0) ⊠ qv 1 by 1) ∷ (qv 2 ⊑ qv 0 ⊠ qv 1 by 1) ∷ []) 0 (qv 3 ⊟ ⊝ (qv 2)) (## 0) tt (≤_of_≈ (*_cong e (≈_refl L))) lo) (leq [] (## 0) (1 ÷ (2 ^ 43)) tt)

  other_down : π ≈q negq q → (less : Bool) → cond (not less) (negq s) s -q π *q cond less (negq L) L ≤q 1 // 2 ^ 43
  other_down e true = ≤_trans (linq (q ∷ L ∷ s ∷ (π *q negq L) ∷ []) ((⊝ (qv 0) ⊠ ⊝ (qv 1) ⊑ qv 3 by 1) ∷ (qv 2 ⊑ qv 0 ⊠ qv 1 by 1) ∷ []) 0 (qv 2 ⊟ qv 3) (## 0) tt (≤_of_≈ (≈_sym (*_cong e (≈_refl (negq L))))) lo) (leq [] (## 0) (1 ÷ (2 ^ 43)) tt)
  other_down e false = linq (q ∷ L ∷ s ∷ (π *q L) ∷ []) ((⊝ (qv 0) ⊠ qv 1 ⊑ qv 3 by 1) ∷ (qv 0 ⊠ qv 1 ⊑ qv 2 ⊞ 1 ÷ (2 ^ 43) by 1) ∷ []) 0 (⊝ (qv 2) ⊟ qv 3) (1 ÷ (2 ^ 43)) tt (≤_of_≈ (≈_sym (*_cong e (≈_refl L)))) hi

neg_swap : {x y : ℚ} → x ≈q negq y → y ≈q negq x
neg_swap {x} {y} e = ≈_sym (neg_cong e ⟫ neg_neg y)

-- ---- the law
module _ (b p : Float) (fp : T (fits binary64 p)) (tp : T (finite p)) (hp : absq (value p) ≤q nat 4) (u v : ℚ) {N M : ℕ} (n : Enough N) (m : Enough M) (hu : E N u ≤q value b) (hv : value b ≤q E M v) where
  abbrev π : ℚ
  π = value p

  π_high : π ≤q nat 4
  π_high = ≤_trans (le_abs π) hp

  π_low : negq π ≤q nat 4
  π_low = ≤_trans (neg_le_abs π) hp

  u_end : {ℓ : ℚ} → Enclosed (value b) ℓ → u ≤q ℓ +q δ
  u_end e = E_reflects_≤ (some n) (≤_trans hu (e.high n))

  v_end : {ℓ : ℚ} → Enclosed (value b) ℓ → ℓ -q δ ≤q v
  v_end e = E_reflects_≤ (some m) (≤_trans (e.low m) hv)

  by_sign : {r : Float} (s : Bool) → lt p +0 ≡ s → Between (cond s (v *q π) (u *q π)) (cond s (u *q π) (v *q π)) r → Between (lower p u v) (upper p u v) r
  by_sign {r} s e h = subst (λ (t : Bool). Between (cond t (v *q π) (u *q π)) (cond t (u *q π) (v *q π)) r) (sym e) h

  module _ (w : ℕ) (small : w * 2048 + D ≤ 760 * B) (less : Bool) (enc : Enclosed (value b) (log w less)) where
    fits_in : w * 2048 ≤ 760 * 2 ^ 64
    fits_in = le_trans (le-add_right (w * 2048) D) small

    raised_above : lt +0 p ≡ true → lt p +0 ≡ false → Between (lower p u v) (upper p u v) (power_of (product_of p w) less)
    raised_above e f =
        let a = exponents.above p e (not_above_four p tp hp) in
        let t = product_of p w in
        let l = product_low p fp a.0 a.1 w fits_in in
        let h = product_high p fp a.0 a.1 w fits_in in
        let up = same_up π (fixed w) (scaled t) π l h (≈_refl π) less in
        let dn = same_down π (fixed w) (scaled t) π l h (≈_refl π) less in
        let P : nat 0 ≤q π = ≤_trans (≤_of_≈ (≈_sym zero_value)) (lt→≤ +0 p zero_finite tp (subst T (sym e) tt)) in
        by_sign false f (power_between t less (above_low u v π (log w less) (target t less) (u_end enc) (v_end enc) up dn P π_high) (above_high u v π (log w less) (target t less) (u_end enc) (v_end enc) up dn P π_high))

    raised_below : lt +0 p ≡ false → lt p +0 ≡ true → Between (lower p u v) (upper p u v) (power_of (product_of (neg p) w) (not less))
    raised_below e f =
        let a = exponents.below p f (not_below_four p tp hp) in
        let t = product_of (neg p) w in
        let q = value (neg p) in
        let l = product_low (neg p) (neg-fits binary64 p fp) a.0 a.1 w fits_in in
        let h = product_high (neg p) (neg-fits binary64 p fp) a.0 a.1 w fits_in in
        let e' : π ≈q negq q = neg_swap (value_neg p) in
        let up = other_up q (fixed w) (scaled t) π l h e' less in
        let dn = other_down q (fixed w) (scaled t) π l h e' less in
        let P : nat 0 ≤q negq π = ≤_trans (linq (π ∷ []) ((qv 0 ⊑ ## 0 by 1) ∷ []) 0 (## 0) (⊝ (qv 0)) tt (≤_trans (lt→≤ p +0 tp zero_finite (subst T (sym f) tt)) (≤_of_≈ zero_value))) (≤_refl (negq π)) in
        by_sign true f (power_between t (not less) (below_low u v π (log w less) (target t (not less)) (u_end enc) (v_end enc) up dn P π_low) (below_high u v π (log w less) (target t (not less)) (u_end enc) (v_end enc) up dn P π_low))

    raised_between : SignOf p → Between (lower p u v) (upper p u v) (raised_of w less p)
    unfolding raised_of
    raised_between (above_0 e f) = subst (λ (r : Float). Between (lower p u v) (upper p u v) r)
        (sym (ap (λ (s : Bool). cond s nan (cond (lt p minus_four) nan (cond (lt +0 p) (power_of (product_of p w) less) (cond (lt p +0) (power_of (product_of (neg p) w) (not less)) nan)))) (not_above_four p tp hp)
        ∙ ap (λ (s : Bool). cond s nan (cond (lt +0 p) (power_of (product_of p w) less) (cond (lt p +0) (power_of (product_of (neg p) w) (not less)) nan))) (not_below_four p tp hp)
        ∙ ap (λ (s : Bool). cond s (power_of (product_of p w) less) (cond (lt p +0) (power_of (product_of (neg p) w) (not less)) nan)) e))
        (raised_above e f)
    raised_between (below_0 e f) = subst (λ (r : Float). Between (lower p u v) (upper p u v) r)
        (sym (ap (λ (s : Bool). cond s nan (cond (lt p minus_four) nan (cond (lt +0 p) (power_of (product_of p w) less) (cond (lt p +0) (power_of (product_of (neg p) w) (not less)) nan)))) (not_above_four p tp hp)
        ∙ ap (λ (s : Bool). cond s nan (cond (lt +0 p) (power_of (product_of p w) less) (cond (lt p +0) (power_of (product_of (neg p) w) (not less)) nan))) (not_below_four p tp hp)
        ∙ ap (λ (s : Bool). cond s (power_of (product_of p w) less) (cond (lt p +0) (power_of (product_of (neg p) w) (not less)) nan)) e
        ∙ ap (λ (s : Bool). cond s (power_of (product_of (neg p) w) (not less)) nan) f))
        (raised_below e f)

  -- ---- a base of 1
  module _ (e : value b ≈q nat 1) where
    u_low : u ≤q nat 0
    u_low = E_reflects_≤ (some n) (≤_trans hu (≤_of_≈ (e ⟫ ≈_sym (E_zero N))))

    v_high : nat 0 ≤q v
    v_high = E_reflects_≤ (some m) (≤_trans (≤_of_≈ (E_zero M ⟫ ≈_sym e)) hv)

    base_one : Between (lower p u v) (upper p u v) +1
    base_one = by_test (lt p +0) refl
      where
        by_test : (s : Bool) → lt p +0 ≡ s → Between (lower p u v) (upper p u v) +1
        by_test true f =
            let P : nat 0 ≤q negq π = linq (π ∷ []) ((qv 0 ⊑ ## 0 by 1) ∷ []) 0 (## 0) (⊝ (qv 0)) tt (≤_trans (lt→≤ p +0 tp zero_finite (subst T (sym f) tt)) (≤_of_≈ zero_value)) in
            by_sign true f (one_between (linq (v ∷ π ∷ []) ((⊝ (qv 1) ⊠ ## 0 ⊑ ⊝ (qv 1) ⊠ qv 0 by 1) ∷ []) 0 (qv 0 ⊠ qv 1) (## 0) tt (*_mono P v_high)) (linq (u ∷ π ∷ []) ((⊝ (qv 1) ⊠ qv 0 ⊑ ⊝ (qv 1) ⊠ ## 0 by 1) ∷ []) 0 (## 0) (qv 0 ⊠ qv 1) tt (*_mono P u_low)))
        by_test false f =
            let P : nat 0 ≤q π = ≤_trans (≤_of_≈ (≈_sym zero_value)) (nlt→≤ p +0 tp zero_finite (subst (λ (t : Bool). T (not t)) (sym f) tt)) in
            by_sign false f (one_between (linq (u ∷ π ∷ []) ((qv 1 ⊠ qv 0 ⊑ qv 1 ⊠ ## 0 by 1) ∷ []) 0 (qv 0 ⊠ qv 1) (## 0) tt (*_mono P u_low)) (linq (v ∷ π ∷ []) ((qv 1 ⊠ ## 0 ⊑ qv 1 ⊠ qv 0 by 1) ∷ []) 0 (## 0) (qv 0 ⊠ qv 1) tt (*_mono P v_high)))

  nonzero : {l : Log} → Logged (value b) l → SignOf p → Between (lower p u v) (upper p u v) (nonzero_power l p)
  nonzero (one e) s = base_one e
  nonzero (above w small enc) s = raised_between w small false enc s
  nonzero (below w small enc) s = raised_between w small true enc s

  zero_exponent : eq p +0 ≡ true → Between (lower p u v) (upper p u v) +1
  zero_exponent e = by_test (lt p +0) refl
    where
      z : (x : ℚ) → x *q π ≈q nat 0
      z x = times_zero x (equal_zero p e)

      by_test : (s : Bool) → lt p +0 ≡ s → Between (lower p u v) (upper p u v) +1
      by_test true f = by_sign true f (one_between (≤_of_≈ (z v)) (≤_of_≈ (≈_sym (z u))))
      by_test false f = by_sign false f (one_between (≤_of_≈ (z u)) (≤_of_≈ (≈_sym (z v))))

  -- b to the power p, for b positive and finite and p of size at most 4
  pub pow_between : T (fits binary64 b) → T (+0 <f b) → T (b <f inf false) → Between (lower p u v) (upper p u v) (pow_of b p)
  unfolding pow_of pow_from
  pow_between fb hb kb = by_test (eq p +0) refl
    where
      by_test : (s : Bool) → eq p +0 ≡ s → Between (lower p u v) (upper p u v) (cond (eq p +0) +1 (nonzero_power (log_of b) p))
      by_test true e = subst (λ (s : Bool). Between (lower p u v) (upper p u v) (cond s +1 (nonzero_power (log_of b) p))) (sym e) (zero_exponent e)
      by_test false e = subst (λ (s : Bool). Between (lower p u v) (upper p u v) (cond s +1 (nonzero_power (log_of b) p))) (sym e) (nonzero (logged b fb (is_true (+0 <f b) hb) (is_true (b <f inf false) kb)) (sign_of_exponent p tp e))
