-- How large a power is whose base lies from 3/64 to 2 ^ 16, from the ends of its exponent: e ^ -3.07 ≤ 3/64 and 2 ^ 16 ≤ e ^ 11.0912.
use Prim.Native.Nat.{ℕ, suc, ◌+◌, ◌-◌, ◌*◌, ◌^◌, ◌≤◌, ◌<◌, max}
use mathlib.Core.Path.{◌≡◌}
use mathlib.Core.Bool.{Bool, true, false, cond}
use mathlib.Core.List.{List, [], ◌∷◌}
use native.Mathlib.Nat.{pow-succ', le_of_eq, zero-lt-suc, not-le_of_lt}
use native.Mathlib.Omega.{arith}
use lib.Dec.{T, leb, leb→le, lit≤, lit<}
use lib.Pow.{pow_pos, pow_mono}
use lib.Ieee.{Float, nan, inf, fin, binary64, lt, fits}
use lib.Ieee.Scale.{finite}
use Rattle.exact.specs.Fraction.{ℚ, ◌//◌, nat, negq, ◌*q◌, ◌≤q◌, leqb}
use Rattle.exact.specs.FloatValue.{value}
use Rattle.exact.specs.Float64.{◌<f◌, +0}
use Rattle.exact.specs.Size.{Range}
use Rattle.exact.proofs.AbsoluteValue.{abs_between}
use Rattle.exact.proofs.Comparisons.{<→lt}
use Rattle.exact.proofs.Computing.{computing}
use Rattle.exact.proofs.Constants.{value_+0}
use Rattle.exact.proofs.FractionLaws.{≈_sym, ≤_refl, ≤_trans, ≤_of_≈, *_mono, nat_*, max_one, lit_≤}
use Rattle.exact.proofs.FractionProver.{qv, ##, ◌÷◌, ◌⊞◌, ◌⊟◌, ◌⊠◌, linq, ◌⊑◌by◌, nat_≤}
use Rattle.exact.proofs.Ranges.{corner_≥, corner_≤}
use Rattle.exact.proofs.Rounding.{frac_nonneg}
use Rattle.exact.proofs.StrictOrder.{≤_<_trans, <_≤_trans, lit_<}
use Rattle.temperature_sizes.proofs.Intervals.{every, part}
use Rattle.elementary.specs.Functions.{pow_of}
use Rattle.elementary.specs.Accuracy.{E, Enough, partial_sum, term, AtLeast, least_relative, least_absolute, AtMost, most_relative, most_absolute, Between, a_number, infinite}
use Rattle.elementary.proofs.Series.{E_nonneg, E_reciprocal, E_terms_above, E_at_most, E_at_least, E_large, frac_≤, cross_≤, frac_nat}
use Rattle.elementary.proofs.Laws.{pow_between}

enough : Enough 3999
enough = lit≤ tt

finite_below : (x : Float) → T (finite x) → T (x <f inf false)
unfolding lt
finite_below nan t = absurd t
finite_below (inf s) t = absurd t
finite_below (fin s m e) t = tt

-- ---- the base's ends
abbrev least : ℚ
least = negq (307 // 100)

abbrev most : ℚ
most = (16 * 6932) // 10000

thirteen_terms : 64 // 3 ≤q E 12 (307 // 100)
unfolding computing E partial_sum term
thirteen_terms = lit_≤ tt

E_at_least_end : E 3999 least ≤q 3 // 64
E_at_least_end =
    let e = E 3999 (307 // 100) in let g = E 3999 least in
    linq (e ∷ g ∷ []) ((qv 1 ⊠ 64 ÷ 3 ⊑ qv 1 ⊠ qv 0 by 3) ∷ (qv 0 ⊠ qv 1 ⊑ ## 1 by 3) ∷ []) 63 (qv 1) (3 ÷ 64) tt
    (*_mono (E_nonneg 3999 least) (≤_trans thirteen_terms (E_terms_above {N = 12} {M = 3999} {x = 307 // 100} (lit≤ tt) (frac_nonneg 307 100))))
    (≤_of_≈ (E_reciprocal 3999 (307 // 100)))

E_at_most_end : nat (2 ^ 16) ≤q E 3999 most
E_at_most_end = E_large 16 (lit≤ tt) (lit≤ tt) enough (≤_refl most)

-- ---- 2 ^ (j + 1) and 2 ^ -(j + 1)
twice : (k : ℕ) → nat 2 *q nat (2 ^ k) ≤q nat (2 ^ suc k)
twice k = ≤_trans (≤_of_≈ (≈_sym (nat_* 2 (2 ^ k)))) (nat_≤ (le_of_eq (two_times (2 ^ k) (2 ^ suc k) (pow-succ' 2 k))))
  where
    two_times : (u v : ℕ) → v ≡ 2 * u → 2 * u ≡ v
    two_times u v e = omega arith

halves : (j : ℕ) → nat 2 *q (1 // 2 ^ suc j) ≤q 1 // 2 ^ j
unfolding ◌//◌ nat ◌*q◌
halves j = record { le = plain (2 ^ j) (2 ^ suc j) (pow-succ' 2 j) (pow_pos j) }
  where
    plain : (u v : ℕ) → v ≡ 2 * u → 0 < u → (2 * 1 + 0 * 0) * max u 1 + 0 * (1 * max v 1) ≤ 1 * (1 * max v 1) + (2 * 0 + 0 * 1) * max u 1
    plain u v e h = rw (max_one u h, max_one v (omega arith)) (omega arith)

tiny_one : 1 // 2 ^ 1000 ≤q nat 1
unfolding computing
tiny_one = lit_≤ tt

-- ---- a power whose logarithm lies between -j ln 2 and k ln 2 lies between 2 ^ -(j + 1) and 2 ^ (k + 1)
module _ (j k : ℕ) (J : j ≤ 900) (K : k ≤ 900) where
  abbrev half : ℚ
  half = 1 // 2 ^ suc j

  abbrev top : ℚ
  top = nat (2 ^ k)

  tiny_below : 1 // 2 ^ 1000 ≤q half
  tiny_below = frac_≤ 1 1 (pow_pos 1000) (pow_pos (suc j)) (plain (2 ^ suc j) (2 ^ 1000) (pow_mono {i = suc j} {j = 1000} (omega arith)))
    where
      plain : (u v : ℕ) → u ≤ v → 1 * u ≤ 1 * v
      plain u v h = omega arith

  at_least : {e r : ℚ} → 1 // 2 ^ j ≤q e → AtLeast e r → half ≤q r
  at_least {e} {r} h (least_relative l) =
      linq (half ∷ (1 // 2 ^ j) ∷ e ∷ r ∷ []) ((## 2 ⊠ qv 0 ⊑ qv 1 by 2 ^ 40 - 1) ∷ (qv 1 ⊑ qv 2 by 2 ^ 40 - 1) ∷ (qv 2 ⊟ 1 ÷ 2 ^ 40 ⊠ qv 2 ⊑ qv 3 by 2 ^ 40) ∷ (## 0 ⊑ qv 0 by 2 ^ 40 - 2) ∷ []) (2 ^ 40 - 1) (qv 0) (qv 3) tt
      (halves j) h l (frac_nonneg 1 (2 ^ suc j))
  at_least {e} {r} h (least_absolute l) =
      linq (half ∷ (1 // 2 ^ j) ∷ e ∷ r ∷ (1 // 2 ^ 1000) ∷ []) ((## 2 ⊠ qv 0 ⊑ qv 1 by 1) ∷ (qv 1 ⊑ qv 2 by 1) ∷ (qv 2 ⊟ qv 4 ⊑ qv 3 by 1) ∷ (qv 4 ⊑ qv 0 by 1) ∷ []) 0 (qv 0) (qv 3) tt
      (halves j) h l tiny_below

  at_most : {e r : ℚ} → e ≤q top → AtMost e r → r ≤q nat (2 ^ suc k)
  at_most {e} {r} h (most_relative l) =
      ≤_trans (linq (top ∷ e ∷ r ∷ []) ((qv 1 ⊑ qv 0 by 2 ^ 40 + 1) ∷ (qv 2 ⊑ qv 1 ⊞ 1 ÷ 2 ^ 40 ⊠ qv 1 by 2 ^ 40) ∷ (## 1 ⊑ qv 0 by 2 ^ 40 - 1) ∷ []) (2 ^ 40 - 1) (qv 2) (## 2 ⊠ qv 0) tt h l (nat_≤ (pow_pos k))) (twice k)
  at_most {e} {r} h (most_absolute l) =
      ≤_trans (linq (top ∷ e ∷ r ∷ (1 // 2 ^ 1000) ∷ []) ((qv 1 ⊑ qv 0 by 1) ∷ (qv 2 ⊑ qv 1 ⊞ qv 3 by 1) ∷ (qv 3 ⊑ ## 1 by 1) ∷ (## 1 ⊑ qv 0 by 1) ∷ []) 0 (qv 2) (## 2 ⊠ qv 0) tt h l tiny_one (nat_≤ (pow_pos k))) (twice k)

  too_large : nat (2 ^ 1000) ≤q top → ⊥
  too_large h =
      let c = cross_≤ (2 ^ 1000) (2 ^ k) (zero-lt-suc 0) (zero-lt-suc 0) (≤_trans (≤_of_≈ (frac_nat (2 ^ 1000))) (≤_trans h (≤_of_≈ (≈_sym (frac_nat (2 ^ k)))))) in
      not-le_of_lt (lit< {m = 2 ^ 900} {n = 2 ^ 1000} tt) (plain (2 ^ 1000) (2 ^ k) (2 ^ 900) c (pow_mono K))
    where
      plain : (u v w : ℕ) → u * 1 ≤ v * 1 → v ≤ w → u ≤ w
      plain u v w p q = omega arith

  between_range : {lo hi : ℚ} {r : Float} → negq ((j * 6931) // 10000) ≤q lo → hi ≤q (k * 6931) // 10000 → Between lo hi r → Range r half (nat (2 ^ suc k))
  between_range l h (a_number r p) = record {
    fin = p.is_finite;
    above = at_least (E_at_least j 3999 l) (p.not_below 3999 enough);
    below = at_most (E_at_most k 3999 h) (p.not_above 3999 enough);
  }
  between_range l h (infinite f) = absurd (too_large (≤_trans (f 3999 enough) (E_at_most k 3999 h)))

-- ---- the power, by tests of closed numbers
module _ {x p : Float} {a b : ℚ} (j k : ℕ) (f : T (fits binary64 x)) (X : Range x (3 // 64) (nat (2 ^ 16))) (g : T (fits binary64 p)) (P : Range p a b) where
  abbrev low : ℚ
  low = negq ((j * 6931) // 10000)

  abbrev high : ℚ
  high = (k * 6931) // 10000

  -- the exponent is at most 4 in size; its ends times the base's logarithm's
  abbrev pub power_tests : List Bool
  power_tests =
      leb j 900 ∷ leb k 900 ∷ leqb (negq (nat 4)) a ∷ leqb b (nat 4)
      ∷ leqb low (least *q a) ∷ leqb low (least *q b) ∷ leqb low (most *q a) ∷ leqb low (most *q b)
      ∷ leqb (least *q a) high ∷ leqb (least *q b) high ∷ leqb (most *q a) high ∷ leqb (most *q b) high ∷ []

  either : (Q : ℚ → Type 0) (t : Bool) {u v : ℚ} → Q u → Q v → Q (cond t u v)
  either Q true q r = q
  either Q false q r = r

  pub power_range : T (every power_tests) → Range (pow_of x p) (1 // 2 ^ suc j) (nat (2 ^ suc k))
  unfolding computing
  power_range t =
      let ok = part power_tests t in
      let v = value p in
      let from_least : low ≤q least *q v = corner_≥ least v P.above P.below (lit_≤ (ok 4)) (lit_≤ (ok 5)) in
      let from_most : low ≤q most *q v = corner_≥ most v P.above P.below (lit_≤ (ok 6)) (lit_≤ (ok 7)) in
      let to_least : least *q v ≤q high = corner_≤ least v P.above P.below (lit_≤ (ok 8)) (lit_≤ (ok 9)) in
      let to_most : most *q v ≤q high = corner_≤ most v P.above P.below (lit_≤ (ok 10)) (lit_≤ (ok 11)) in
      between_range j k (leb→le j 900 (ok 0)) (leb→le k 900 (ok 1))
      (either (λ (z : ℚ). low ≤q z) (p <f +0) from_most from_least)
      (either (λ (z : ℚ). z ≤q high) (p <f +0) to_least to_most)
      (pow_between x p g P.fin (abs_between (≤_trans (lit_≤ (ok 2)) P.above) (≤_trans P.below (lit_≤ (ok 3)))) least most {N = 3999} {M = 3999} enough enough
      (≤_trans E_at_least_end X.above) (≤_trans X.below E_at_most_end) f (<→lt +0 x tt X.fin (≤_<_trans (≤_of_≈ value_+0) (<_≤_trans (lit_< tt) X.above))) (finite_below x X.fin))
