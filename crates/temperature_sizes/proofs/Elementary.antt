-- How large the elementary functions are at the arguments that the temperature functions hand them.
use Prim.Native.Nat.{ℕ, ◌+◌, ◌-◌, ◌^◌}
use mathlib.Core.List.{[], ◌∷◌}
use lib.Dec.{T, lit≤, lit<}
use lib.Ieee.{Float, nan, inf, fin, binary64, neg, lt, fits}
use lib.Ieee.Scale.{finite}
use lib.Ieee.Bits.{of_bits-fits}
use lib.Ieee.Fits.{neg-fits}
use Rattle.exact.specs.Fraction.{ℚ, ◌//◌, nat, ◌+q◌, ◌-q◌, negq, ◌*q◌, ◌≤q◌}
use mathlib.Core.Bool.{false}
use Rattle.exact.specs.FloatValue.{value}
use Rattle.exact.specs.Float64.{◌<f◌, +0}
use Rattle.temperature.specs.Constants.{3/2}
use Rattle.exact.specs.Size.{NonNegative}
use Rattle.exact.proofs.AbsoluteValue.{abs_between}
use Rattle.exact.proofs.Comparisons.{≤→le, <→lt}
use Rattle.exact.proofs.Constants.{value_+0}
use Rattle.exact.proofs.StrictOrder.{not_≤_of_<, ≤_<_trans, <_≤_trans, lit_<}
use Rattle.exact.proofs.FractionLaws.{≈_refl, ≈_sym, lit_≤, ≤_trans, ≤_of_≈, *_mono}
use Rattle.exact.proofs.FractionProver.{qv, ##, ◌÷◌, ◌⊟◌, ◌⊞◌, ◌⊠◌, ⊝, linq, ◌⊑◌by◌}
use Rattle.exact.proofs.Representable.{representable, representable_test}
use Rattle.exact.proofs.Rounding.{frac_nonneg}
use Rattle.elementary.specs.Functions.{sqrt_of, exp_of, ln_of, pow_of}
use Rattle.elementary.specs.Accuracy.{E, Enough, partial_sum, term, top, bot, least_normal, AtLeast, least_relative, least_absolute, AtMost, most_relative, most_absolute, IsPower, Between, a_number, infinite}
use Rattle.elementary.proofs.Series.{E_nonneg, E_reciprocal, E_terms_above, E_mono, E_above, E_one_plus, E_at_most, E_at_least, bot_pos, doubled, up_doubled, frac_≤}
use Rattle.elementary.proofs.Laws.{root_non_negative, root_≤, exp_close, ln_accurate, pow_between}
use Rattle.exact.specs.Size.{Range}
use Rattle.exact.proofs.Computing.{computing}

finite_below : (x : Float) → T (finite x) → T (x <f inf false)
unfolding lt
finite_below nan t = absurd t
finite_below (inf s) t = absurd t
finite_below (fin s m e) t = tt

-- √x ≤ b where x ≤ b b, for a b of the format
pub sqrt_range : {x : Float} {hi : ℚ} (b : ℚ) → T (representable_test binary64 b) → nat 0 ≤q b → hi ≤q b *q b → T (fits binary64 x) → Range x (nat 0) hi → Range (sqrt_of x) (nat 0) b
sqrt_range {x} b t p h f X =
    let n : NonNegative x = record { fin = X.fin; sign = X.above } in
    let r = root_non_negative x f n in
    record { fin = r.fin; above = r.sign; below = root_≤ x f n (representable t) p (≤_trans X.below h) }

-- e^46 ≤ 2^67, and the error of exp is less than a factor of 2
pub exp_range : {x : Float} → T (fits binary64 x) → Range x (negq (nat 46)) (nat 46) → Range (exp_of x) (1 // 2 ^ 68) (nat (2 ^ 68))
unfolding computing
exp_range {x} f X =
    let c = exp_close x f X.fin (≤_trans (abs_between X.above X.below) (lit_≤ tt)) in
    let w = c.within 3999 (lit≤ tt) in
    let v = value (exp_of x) in
    let e = E 3999 (value x) in
    let ρ = v ∷ e ∷ [] in
    record {
      fin = c.is_finite;
      above = linq ρ ((qv 1 ⊟ qv 0 ⊑ 1 ÷ 2 ^ 45 ⊠ qv 1 by 2 ^ 45) ∷ (1 ÷ 2 ^ 67 ⊑ qv 1 by 2 ^ 45 - 1) ∷ []) (2 ^ 45 - 1) (1 ÷ 2 ^ 68) (qv 0) tt w.below (E_at_least 67 3999 (≤_trans (lit_≤ tt) X.above));
      below = linq ρ ((qv 0 ⊟ qv 1 ⊑ 1 ÷ 2 ^ 45 ⊠ qv 1 by 2 ^ 45) ∷ (qv 1 ⊑ ## (2 ^ 67) by 2 ^ 45 + 1) ∷ []) (2 ^ 45 - 1) (qv 0) (## (2 ^ 68)) tt w.above (E_at_most 67 3999 (≤_trans X.below (lit_≤ tt)));
    }

-- 1 + z ≤ E(z), so ln x ≤ x - 1 but for the error; and E(z) E(-z) = 1
pub ln_range : {x : Float} → T (fits binary64 x) → Range x (1 // 2) (nat 2) → Range (ln_of x) (negq (101 // 100)) (101 // 100)
unfolding computing
ln_range {x} f X =
    let l = ln_accurate x f (≤→le least_normal x tt X.fin (≤_trans (lit_≤ tt) X.above)) (finite_below x X.fin) in
    let N : ℕ = 3999 in
    let n : Enough 3999 = lit≤ tt in
    let v = value (ln_of x) in
    let u = v +q 1 // 2 ^ 42 in
    let e = E N u in let g = E N (negq u) in
    record {
      fin = l.is_finite;
      above = linq (v ∷ e ∷ g ∷ []) ((qv 2 ⊠ 1 ÷ 2 ⊑ qv 2 ⊠ qv 1 by 2) ∷ (qv 1 ⊠ qv 2 ⊑ ## 1 by 2) ∷ (## 1 ⊞ ⊝ (qv 0 ⊞ 1 ÷ 2 ^ 42) ⊑ qv 2 by 1) ∷ []) 0 (⊝ (101 ÷ 100)) (qv 0) tt
          (*_mono (E_nonneg N (negq u)) (≤_trans X.above (l.not_above n))) (≤_of_≈ (E_reciprocal N u)) (E_one_plus (negq u) (lit≤ tt));
      below = linq (v ∷ value x ∷ E N (v -q 1 // 2 ^ 42) ∷ []) ((## 1 ⊞ (qv 0 ⊟ 1 ÷ 2 ^ 42) ⊑ qv 2 by 1) ∷ (qv 2 ⊑ qv 1 by 1) ∷ (qv 1 ⊑ ## 2 by 1) ∷ []) 0 (qv 0) (101 ÷ 100) tt (E_one_plus (v -q 1 // 2 ^ 42) (lit≤ tt)) (l.not_below n) X.below;
    }

-- ---- E at 0.92, and at 1.38, which is 3/2 times that
seven_terms : 2507 // 1000 ≤q E 6 (92 // 100)
unfolding computing E partial_sum term
seven_terms = lit_≤ tt

E_at_092 : 2507 // 1000 ≤q E 3999 (92 // 100)
E_at_092 = ≤_trans seven_terms (E_terms_above {N = 6} {M = 3999} {x = 92 // 100} (lit≤ tt) (frac_nonneg 92 100))

twelve_terms : doubled 10 138 100 // bot 11 100 ≤q 399 // 100
unfolding computing doubled top bot
twelve_terms = lit_≤ tt

E_at_138 : E 3999 (138 // 100) ≤q 399 // 100
E_at_138 =
    ≤_trans (≤_of_≈ (E_above 3999 138 100 (lit< tt) (≈_refl (138 // 100))))
    (≤_trans (frac_≤ (top 3999 138 100) (doubled 10 138 100) (bot_pos 3999 100 (lit< tt)) (bot_pos 11 100 (lit< tt)) ((up_doubled 10 138 100 (lit< tt) (lit≤ tt)).bound 3999)) twelve_terms)

-- 1 / 2.507 ≤ 0.399 and 1 / 3.99 ≥ 0.2506
E_at_minus_092 : E 3999 (negq (92 // 100)) ≤q 399 // 1000
E_at_minus_092 =
    let e = E 3999 (92 // 100) in let g = E 3999 (negq (92 // 100)) in
    linq (e ∷ g ∷ []) ((qv 1 ⊠ 2507 ÷ 1000 ⊑ qv 1 ⊠ qv 0 by 1000) ∷ (qv 0 ⊠ qv 1 ⊑ ## 1 by 1000) ∷ []) 2506 (qv 1) (399 ÷ 1000) tt
    (*_mono (E_nonneg 3999 (negq (92 // 100))) E_at_092) (≤_of_≈ (E_reciprocal 3999 (92 // 100)))

E_at_minus_138 : 2506 // 10000 ≤q E 3999 (negq (138 // 100))
E_at_minus_138 =
    let e = E 3999 (138 // 100) in let g = E 3999 (negq (138 // 100)) in
    linq (e ∷ g ∷ []) ((qv 1 ⊠ qv 0 ⊑ qv 1 ⊠ 399 ÷ 100 by 100) ∷ (## 1 ⊑ qv 0 ⊠ qv 1 by 100) ∷ []) 398 (2506 ÷ 10000) (qv 1) tt
    (*_mono (E_nonneg 3999 (negq (138 // 100))) E_at_138) (≤_of_≈ (≈_sym (E_reciprocal 3999 (138 // 100))))

-- ---- x ^ -1.5 for x from 0.399 to 2.501, between E at -0.92 and at 0.92
number_range : {lo hi : ℚ} {r : Float} → negq (138 // 100) ≤q lo → hi ≤q 138 // 100 → IsPower lo hi r → Range r (1 // 4) (nat 4)
number_range {lo} {hi} {r} l h P = record { fin = P.is_finite; above = at_least (P.not_below 3999 enough); below = at_most (P.not_above 3999 enough) }
  where
    enough : Enough 3999
    enough = lit≤ tt

    e : 2506 // 10000 ≤q E 3999 lo
    e = ≤_trans E_at_minus_138 (E_mono 3999 l)

    g : E 3999 hi ≤q 399 // 100
    g = ≤_trans (E_mono 3999 h) E_at_138

    at_least : AtLeast (E 3999 lo) (value r) → 1 // 4 ≤q value r
    at_least (least_relative k) = linq (E 3999 lo ∷ value r ∷ []) ((qv 0 ⊟ 1 ÷ 2 ^ 40 ⊠ qv 0 ⊑ qv 1 by 2 ^ 40) ∷ (2506 ÷ 10000 ⊑ qv 0 by 2 ^ 40 - 1) ∷ []) (2 ^ 40 - 1) (1 ÷ 4) (qv 1) tt k e
    at_least (least_absolute k) = linq (E 3999 lo ∷ value r ∷ []) ((qv 0 ⊟ 1 ÷ 2 ^ 1000 ⊑ qv 1 by 1) ∷ (2506 ÷ 10000 ⊑ qv 0 by 1) ∷ []) 0 (1 ÷ 4) (qv 1) tt k e

    at_most : AtMost (E 3999 hi) (value r) → value r ≤q nat 4
    at_most (most_relative k) = linq (E 3999 hi ∷ value r ∷ []) ((qv 1 ⊑ qv 0 ⊞ 1 ÷ 2 ^ 40 ⊠ qv 0 by 2 ^ 40) ∷ (qv 0 ⊑ 399 ÷ 100 by 2 ^ 40 + 1) ∷ []) (2 ^ 40 - 1) (qv 1) (## 4) tt k g
    at_most (most_absolute k) = linq (E 3999 hi ∷ value r ∷ []) ((qv 1 ⊑ qv 0 ⊞ 1 ÷ 2 ^ 1000 by 1) ∷ (qv 0 ⊑ 399 ÷ 100 by 1) ∷ []) 0 (qv 1) (## 4) tt k g

far : nat (2 ^ 1000) ≤q 399 // 100 → ⊥
unfolding computing
far = not_≤_of_< (lit_< tt)

power_range : {lo hi : ℚ} {r : Float} → negq (138 // 100) ≤q lo → hi ≤q 138 // 100 → Between lo hi r → Range r (1 // 4) (nat 4)
power_range l h (a_number r P) = number_range l h P
power_range {hi = hi} l h (infinite k) = absurd (far (≤_trans (k 3999 (lit≤ tt)) (≤_trans (E_mono 3999 h) E_at_138)))

-- the exponent -1.5, which is below 0
pub pow_range : {x : Float} → T (fits binary64 x) → Range x (399 // 1000) (2501 // 1000) → Range (pow_of x (neg 3/2)) (1 // 4) (nat 4)
unfolding computing neg lt
pow_range {x} f X =
    power_range (lit_≤ tt) (lit_≤ tt)
    (pow_between x (neg 3/2) (neg-fits binary64 3/2 (of_bits-fits binary64 0x3ff8_0000_0000_0000)) tt (lit_≤ tt) (negq (92 // 100)) (92 // 100) {N = 3999} {M = 3999} (lit≤ tt) (lit≤ tt)
    (≤_trans E_at_minus_092 X.above) (≤_trans X.below (≤_trans (lit_≤ tt) E_at_092)) f (<→lt +0 x tt X.fin (≤_<_trans (≤_of_≈ value_+0) (<_≤_trans (lit_< tt) X.above))) (finite_below x X.fin))
