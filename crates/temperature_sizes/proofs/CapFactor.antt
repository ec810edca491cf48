-- The factor of a junction's capacitance: finite although it has a pole. What it divides by are floats that are not 0, and such differences are not tiny.
use Prim.Native.Nat.{ℕ, suc, ◌+◌, ◌*◌, ◌^◌}
use mathlib.Core.Bool.{Bool, true, false, ◌||◌, cond}
use mathlib.Core.Path.{◌≡◌, refl, subst}
use mathlib.Core.List.{List, [], ◌∷◌}
use lib.Dec.{T}
use lib.Ieee.{Float, binary64, sub, fits}
use lib.Ieee.Bits.{of_bits-fits}
use lib.Ieee.Fits.{neg-fits, mul-fits}
use lib.Ieee.Scale.{finite}
use Rattle.exact.specs.Fraction.{ℚ, ◌//◌, nat, ◌+q◌, negq, ◌*q◌, ◌/q◌, absq, ◌≤q◌, ◌<q◌, ◌≈q◌, leqb, ltqb}
use Rattle.exact.specs.FloatValue.{value, eps, tiny}
use Rattle.exact.specs.Float64.{◌⊕◌, ◌⊖◌, ◌⊗◌, ◌⊘◌, ◌≤f◌, ◌=f◌, +0, +1}
use Rattle.exact.proofs.FractionLaws.{≈_refl, ≈_sym, ≈_trans, +_mono, ≤_trans, ≤_of_≈, lit_≤}
use Rattle.exact.proofs.StrictOrder.{not_≈_of_>, ≤_of_<, <_≤_trans, lit_<}
use Rattle.exact.proofs.AbsoluteValue.{abs_between, abs_mono_≈, le_abs, abs_of_nonneg}
use Rattle.exact.proofs.FractionDivision.{div_*, abs_div_le, abs_div_ge}
use Rattle.exact.proofs.FractionProver.{qv, ##, ◌⊠◌, req}
use Rattle.exact.proofs.Comparisons.{≈→eq}
use Rattle.exact.proofs.Constants.{value_+0}
use Rattle.exact.proofs.Rounding.{Rounded, finite_of, add_rounded, div_rounded}
use Rattle.temperature.specs.Constants.{reftemp_k, cap_slope}
use Rattle.temperature.specs.declared.Kelvin.{Kelvin}
use Rattle.temperature.specs.Temperature.{pbfact_of, phio_of, cap_term_of, junction_cap_factor_of}
use Rattle.exact.specs.Size.{Range}
use Rattle.exact.proofs.Computing.{computing}
use Rattle.exact.proofs.Ranges.{range_weaken, range_neg}
use Rattle.exact.proofs.RoundingOrder.{rounded_zero}
use Rattle.temperature_sizes.proofs.Intervals.{Away, in_⊕, in_⊖, in_⊗, size_quotient, rounded_away, constant_in, every, part}
use Rattle.temperature_sizes.proofs.Held.{pbfact_fits}
use Rattle.temperature_sizes.proofs.Multiples.{sum_not_tiny}
use Rattle.temperature_sizes.proofs.Bandgap.{Ordinary}
use Rattle.temperature_sizes.proofs.Potentials.{Nominal, pbfact_range, phio_range, scaled_phi_range, ratio_range, reftemp_range, one_range}

-- ---- 0 and not
-- 0 is rounded to 0
zero_rounded : {x : Float} {z : ℚ} → Rounded binary64 x z → z ≈q nat 0 → value x ≈q nat 0
unfolding computing
zero_rounded {x} {z} R e = rounded_zero R (finite_of binary64 x z R (≤_trans (abs_mono_≈ e) (lit_≤ tt))) e

-- a test against 0 that fails
not_zero : (x : Float) → T (finite x) → (x =f +0) ≡ false → ¬ (value x ≈q nat 0)
unfolding computing
not_zero x f e z = subst T e (≈→eq x +0 f tt (≈_trans z (≈_sym value_+0)))

abbrev top : ℚ
top = nat (2 ^ 1023)

abbrev large : ℚ
large = nat (2 ^ 1000)

-- x at least 2 ^ -k in size, and x ⊕ y not 0: then it is at least lo in size
module _ (k : ℕ) {x y : Float} {a b c d : ℚ} (lo : ℚ) (X : Range x a b) (Y : Range y c d) (f : T (fits binary64 x)) (g : T (fits binary64 y)) (h : 1 // 2 ^ k ≤q absq (value x)) where
  abbrev sum_at_least_tests : List Bool
  sum_at_least_tests = leqb (lo +q eps binary64 *q (1 // 2 ^ (suc k + 52)) +q tiny binary64) (1 // 2 ^ (suc k + 52)) ∷ leqb (negq top) (a +q c) ∷ leqb (b +q d) top ∷ []

  sum_at_least : T (every sum_at_least_tests) → ¬ (value (x ⊕ y) ≈q nat 0) → Away (x ⊕ y) lo
  sum_at_least t nz =
      let ok = part sum_at_least_tests t in
      let R = add_rounded binary64 x y X.fin Y.fin in
      let S = abs_between (≤_trans (lit_≤ (ok 1)) (+_mono X.above Y.above)) (≤_trans (+_mono X.below Y.below) (lit_≤ (ok 2))) in
      rounded_away lo (1 // 2 ^ (suc k + 52)) R S (sum_not_tiny k x y X.fin Y.fin f g h (λ e. nz (zero_rounded R e))) (lit_≤ (ok 0))

-- the quotient by what is between c and d, c above 0
module _ {x y : Float} {a b c d l : ℚ} (lo : ℚ) (X : Range x a b) (L : Away x l) (Y : Range y c d) where
  abbrev quotient_at_least_tests : List Bool
  quotient_at_least_tests = leqb (lo +q eps binary64 *q (l /q d) +q tiny binary64) (l /q d) ∷ leqb (negq large) a ∷ leqb b large ∷ leqb (large /q c) top ∷ ltqb (nat 0) c ∷ leqb (nat 0) l ∷ []

  quotient_at_least : T (every quotient_at_least_tests) → Away (x ⊘ y) lo
  quotient_at_least t =
      let ok = part quotient_at_least_tests t in
      let v = value y in
      let pos : nat 0 <q v = <_≤_trans (lit_< (ok 4)) Y.above in
      let nz = not_≈_of_> pos in
      let av : absq v ≈q v = abs_of_nonneg (≤_of_< pos) in
      let top_x = abs_between (≤_trans (lit_≤ (ok 1)) X.above) (≤_trans X.below (lit_≤ (ok 2))) in
      rounded_away lo (l /q d) (div_rounded binary64 x y (value x /q v) X.fin Y.fin nz (div_* (value x) v nz))
      (≤_trans (abs_div_le (value x) v (lit_< (ok 4)) top_x (≤_trans Y.above (le_abs v))) (lit_≤ (ok 3)))
      (abs_div_ge (value x) v (lit_≤ (ok 5)) L.size (<_≤_trans pos (le_abs v)) (≤_trans (≤_of_≈ av) Y.below)) (lit_≤ (ok 0))

-- a quotient that is not 0 has a dividend that is not 0
dividend_not_zero : (x y : Float) → T (finite x) → T (finite y) → nat 0 <q value y → ¬ (value (x ⊘ y) ≈q nat 0) → ¬ (value x ≈q nat 0)
dividend_not_zero x y p q pos nz e =
    nz (zero_rounded (div_rounded binary64 x y (nat 0) p q (not_≈_of_> pos) (≈_trans (req (value y ∷ []) (## 0 ⊠ qv 0) (## 0) tt tt) (≈_sym e))) (≈_refl (nat 0)))

-- ---- pbo: 0, or at least 2 ^ -60 in size
module _ {vj : Float} (f : T (fits binary64 vj)) (P : Nominal vj) {tnom : Kelvin} (N : Ordinary tnom) where
  pub phio_at_least : (phio_of vj tnom =f +0) ≡ false → Away (phio_of vj tnom) (1 // 2 ^ 60)
  unfolding phio_of sub computing
  phio_at_least e =
      let F = ratio_range N in
      let p = pbfact_range N in
      let D = in_⊖ (negq (116 // 100)) (112 // 10) P p tt in
      let pos = <_≤_trans (lit_< tt) F.above in
      let nz = dividend_not_zero (vj ⊖ pbfact_of tnom) (tnom.0 ⊘ reftemp_k) D.fin F.fin pos (not_zero (phio_of vj tnom) (phio_range P N).fin e) in
      let L = sum_at_least 4 (1 // 2 ^ 58) P (range_neg p) f (neg-fits binary64 (pbfact_of tnom) (pbfact_fits tnom)) (≤_trans (lit_≤ tt) (≤_trans P.above (le_abs (value vj)))) tt nz in
      quotient_at_least (1 // 2 ^ 60) D L F tt

-- ---- a term of the law: at most 34 2 ^ 60 in size, for an exponent that row 4 accepts (the f64 0.9 lies above 9 // 10) and a potential from -5 to 32
abbrev term_bound : ℚ
term_bound = nat (34 * 2 ^ 60)

module _ {vj m pbo : Float} {t : Kelvin} (P : Range vj (negq (nat 5)) (nat 32)) (M : Range m (nat 0) (91 // 100)) (Q : Range pbo (negq (18 // 10)) (nat 18)) (L : Away pbo (1 // 2 ^ 60)) (K : Ordinary t) where
  slope_term : Range (m ⊗ (cap_slope ⊗ (t.0 ⊖ reftemp_k) ⊖ (vj ⊖ pbo) ⊘ pbo)) (negq (nat (33 * 2 ^ 60))) (nat (33 * 2 ^ 60))
  unfolding computing
  slope_term =
      let slope = constant_in 0x3f3a_36e2_eb1c_432d (3 // 10000) (5 // 10000) tt in
      let warm = in_⊗ (negq (nat 1)) (nat 1) slope (in_⊖ (negq (nat 101)) (nat 200) K.range reftemp_range tt) tt in
      let gma = size_quotient (nat (35 * 2 ^ 60)) (in_⊖ (negq (nat 34)) (nat 34) P Q tt) L tt in
      in_⊗ (negq (nat (33 * 2 ^ 60))) (nat (33 * 2 ^ 60)) M (in_⊖ (negq (nat (36 * 2 ^ 60))) (nat (36 * 2 ^ 60)) warm gma tt) tt

  cap_term_range : Range (cap_term_of vj m pbo t) (negq term_bound) term_bound
  unfolding cap_term_of computing
  cap_term_range = in_⊕ (negq term_bound) term_bound one_range slope_term tt

  cap_term_at_least : (cap_term_of vj m pbo t =f +0) ≡ false → Away (cap_term_of vj m pbo t) (1 // 2 ^ 54)
  unfolding cap_term_of computing
  cap_term_at_least e =
      sum_at_least 0 (1 // 2 ^ 54) one_range slope_term (of_bits-fits binary64 0x3ff0_0000_0000_0000) (mul-fits binary64 _ _) (≤_trans (lit_≤ tt) (≤_trans one_range.above (le_abs (value +1)))) tt
      (not_zero (cap_term_of vj m pbo t) cap_term_range.fin e)

-- ---- the factor
by_test : (b : Bool) {x y : Float} {lo hi : ℚ} → (b ≡ true → Range x lo hi) → (b ≡ false → Range y lo hi) → Range (cond b x y) lo hi
by_test true f g = f refl
by_test false f g = g refl

-- at most 2 ^ 120 in size
module _ {vj m : Float} (f : T (fits binary64 vj)) (P : Nominal vj) (M : Range m (nat 0) (91 // 100)) {t tnom : Kelvin} (K : Ordinary t) (N : Ordinary tnom) where
  pub cap_factor_range : Range (junction_cap_factor_of vj m t tnom) (negq (nat (2 ^ 120))) (nat (2 ^ 120))
  unfolding junction_cap_factor_of computing
  cap_factor_range =
      let one = range_weaken one_range (lit_≤ tt) (lit_≤ tt) in
      let Q = phio_range P N in
      by_test ((t.0 ≤f +0) || (tnom.0 ≤f +0) || (vj ≤f +0)) (λ _. one)
      (λ _. by_test (phio_of vj tnom =f +0) (λ _. one)
      (λ e.
      let L = phio_at_least f P N e in
      let P' = range_weaken P (lit_≤ tt) (lit_≤ tt) in
      by_test (cap_term_of vj m (phio_of vj tnom) tnom =f +0) (λ _. one)
      (λ d. size_quotient (nat (2 ^ 120)) (cap_term_range (scaled_phi_range P N K) M Q L K) (cap_term_at_least P' M Q L N d) tt)))
