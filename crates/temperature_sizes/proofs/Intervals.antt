-- Ranges with decimal ends: where two floats lie between exact fractions, so does the result of each operation, by tests that compute.
-- (The laws of `exact` on ranges ask for ends that the format holds. Here the ends are any fractions, and each result has a margin for its rounding.)
use Prim.Native.Nat.{ℕ, zero, suc, ◌-◌, ◌^◌}
use mathlib.Core.Bool.{Bool, true, ◌&&◌}
use mathlib.Core.List.{List, [], ◌∷◌}
use lib.Dec.{T}
use lib.Ieee.{Float, binary64, of_bits}
use lib.Ieee.Scale.{finite}
use Rattle.exact.specs.Fraction.{ℚ, nat, ◌+q◌, negq, ◌-q◌, ◌*q◌, ◌/q◌, absq, ◌≤q◌, ◌<q◌, leqb, ltqb}
use Rattle.exact.specs.FloatValue.{value, eps, tiny, err}
use Rattle.exact.specs.Float64.{◌⊕◌, ◌⊖◌, ◌⊗◌, ◌⊘◌}
use Rattle.exact.specs.Size.{Range}
use Rattle.exact.proofs.NatProver.{and_l, and_r}
use Rattle.exact.proofs.FractionLaws.{≤_trans, ≤_of_≈, +_mono, *_mono, *_comm, lit_≤}
use Rattle.exact.proofs.FractionProver.{qv, ##, ◌÷◌, ◌⊞◌, ◌⊟◌, ◌⊠◌, ⊝, leq, linq, ◌⊑◌by◌}
use Rattle.exact.proofs.FractionDivision.{div_*, div_≤, ≤_div, abs_div_le}
use Rattle.exact.proofs.StrictOrder.{lit_<, <_≤_trans, not_≈_of_>}
use Rattle.exact.proofs.AbsoluteValue.{le_abs, neg_le_abs, abs_nonneg, abs_le, abs_between, le_of_abs, neg_le_of_abs, not_zero_of_abs}
use Rattle.exact.proofs.Rounding.{Rounded, rounds, frac_nonneg, add_rounded, sub_rounded, mul_rounded, div_rounded}
use Rattle.exact.proofs.Ranges.{corner_≥, corner_≤}

-- ---- rounding: what is at least a margin inside lo and hi stays between them
-- 2 ^ -53 (|lo| + |hi|) + 2 ^ -1075
abbrev margin : ℚ → ℚ → ℚ
margin lo hi = eps binary64 *q (absq lo +q absq hi) +q tiny binary64

rounded_in : {x : Float} {z : ℚ} (lo hi : ℚ) → Rounded binary64 x z → lo +q margin lo hi ≤q z → z +q margin lo hi ≤q hi → absq lo +q absq hi ≤q nat (2 ^ 1023) → Range x lo hi
rounded_in {x} {z} lo hi R l h top =
    let s = absq lo +q absq hi in
    let ε = eps binary64 in let τ = tiny binary64 in
    let ρ = lo ∷ hi ∷ z ∷ absq lo ∷ absq hi ∷ (ε *q s) ∷ τ ∷ [] in
    let s₀ : nat 0 ≤q s = linq ρ ((## 0 ⊑ qv 3 by 1) ∷ (## 0 ⊑ qv 4 by 1) ∷ []) 0 (## 0) (qv 3 ⊞ qv 4) tt (abs_nonneg lo) (abs_nonneg hi) in
    let δ : nat 0 ≤q ε *q s = ≤_trans (leq (ε ∷ []) (## 0) (qv 0 ⊠ ## 0) tt) (*_mono (frac_nonneg 1 (2 ^ 53)) s₀) in
    let τ₀ : nat 0 ≤q τ = frac_nonneg 1 (2 ^ 1075) in
    let size : absq z ≤q s =
    abs_le
    (linq ρ ((qv 2 ⊞ (qv 5 ⊞ qv 6) ⊑ qv 1 by 1) ∷ (qv 1 ⊑ qv 4 by 1) ∷ (## 0 ⊑ qv 3 by 1) ∷ (## 0 ⊑ qv 5 by 1) ∷ (## 0 ⊑ qv 6 by 1) ∷ []) 0 (qv 2) (qv 3 ⊞ qv 4) tt h (le_abs hi) (abs_nonneg lo) δ τ₀)
    (linq ρ ((qv 0 ⊞ (qv 5 ⊞ qv 6) ⊑ qv 2 by 1) ∷ (⊝ (qv 0) ⊑ qv 3 by 1) ∷ (## 0 ⊑ qv 4 by 1) ∷ (## 0 ⊑ qv 5 by 1) ∷ (## 0 ⊑ qv 6 by 1) ∷ []) 0 (⊝ (qv 2)) (qv 3 ⊞ qv 4) tt l (neg_le_abs lo) (abs_nonneg hi) δ τ₀)
    in
    let (t, w) = rounds binary64 x z R (≤_trans size top) in
    let e : ε *q absq z ≤q ε *q s = *_mono (frac_nonneg 1 (2 ^ 53)) size in
    let σ = lo ∷ hi ∷ z ∷ value x ∷ (ε *q absq z) ∷ (ε *q s) ∷ τ ∷ [] in
    record {
      fin = t;
      above = linq σ ((qv 0 ⊞ (qv 5 ⊞ qv 6) ⊑ qv 2 by 1) ∷ (qv 2 ⊟ qv 3 ⊑ qv 4 ⊞ qv 6 by 1) ∷ (qv 4 ⊑ qv 5 by 1) ∷ []) 0 (qv 0) (qv 3) tt l w.below e;
      below = linq σ ((qv 2 ⊞ (qv 5 ⊞ qv 6) ⊑ qv 1 by 1) ∷ (qv 3 ⊟ qv 2 ⊑ qv 4 ⊞ qv 6 by 1) ∷ (qv 4 ⊑ qv 5 by 1) ∷ []) 0 (qv 3) (qv 1) tt h w.above e;
    }

-- the ends with the margin taken off
abbrev inner_lo : ℚ → ℚ → ℚ
inner_lo lo hi = lo +q margin lo hi

abbrev inner_hi : ℚ → ℚ → ℚ
inner_hi lo hi = hi -q margin lo hi

abbrev in_range : (lo hi : ℚ) → Bool
in_range lo hi = leqb (absq lo +q absq hi) (nat (2 ^ 1023))

module _ {x : Float} {z : ℚ} (lo hi : ℚ) (R : Rounded binary64 x z) (t : T (in_range lo hi)) where
  inside : inner_lo lo hi ≤q z → z ≤q inner_hi lo hi → Range x lo hi
  inside l h = rounded_in lo hi R l (linq (z ∷ hi ∷ margin lo hi ∷ []) ((qv 0 ⊑ qv 1 ⊟ qv 2 by 1) ∷ []) 0 (qv 0 ⊞ qv 2) (qv 1) tt h) (lit_≤ t)

-- ---- several tests at once
abbrev pub every : List Bool → Bool
every [] = true
every (b ∷ bs) = b && every bs

abbrev pub test : ℕ → List Bool → Bool
test i [] = true
test zero (b ∷ bs) = b
test (suc i) (b ∷ bs) = test i bs

pub part : (bs : List Bool) → T (every bs) → (i : ℕ) → T (test i bs)
part [] t i = tt
part (b ∷ bs) t zero = and_l b (every bs) t
part (b ∷ bs) t (suc i) = part bs (and_r b (every bs) t) i

-- ---- the operations, with the new ends lo and hi
abbrev pub sum_tests : (lo hi a b c d : ℚ) → List Bool
sum_tests lo hi a b c d = in_range lo hi ∷ leqb (inner_lo lo hi) (a +q c) ∷ leqb (b +q d) (inner_hi lo hi) ∷ []

abbrev pub difference_tests : (lo hi a b c d : ℚ) → List Bool
difference_tests lo hi a b c d = in_range lo hi ∷ leqb (inner_lo lo hi) (a -q d) ∷ leqb (b -q c) (inner_hi lo hi) ∷ []

-- the product at each pair of ends
abbrev pub product_tests : (lo hi a b c d : ℚ) → List Bool
product_tests lo hi a b c d =
    let l = inner_lo lo hi in
    let h = inner_hi lo hi in
    in_range lo hi ∷ leqb l (a *q c) ∷ leqb l (a *q d) ∷ leqb l (b *q c) ∷ leqb l (b *q d) ∷ leqb (a *q c) h ∷ leqb (a *q d) h ∷ leqb (b *q c) h ∷ leqb (b *q d) h ∷ []

-- a divisor above 0: the ends times each of its ends, against the dividend's
abbrev pub quotient_tests : (lo hi a b c d : ℚ) → List Bool
quotient_tests lo hi a b c d =
    let l = inner_lo lo hi in
    let h = inner_hi lo hi in
    in_range lo hi ∷ ltqb (nat 0) c ∷ leqb (l *q c) a ∷ leqb (l *q d) a ∷ leqb b (h *q c) ∷ leqb b (h *q d) ∷ []

module _ {x y : Float} {a b c d : ℚ} (lo hi : ℚ) (X : Range x a b) (Y : Range y c d) where
  pub in_⊕ : T (every (sum_tests lo hi a b c d)) → Range (x ⊕ y) lo hi
  in_⊕ t =
      let ok = part (sum_tests lo hi a b c d) t in
      inside lo hi (add_rounded binary64 x y X.fin Y.fin) (ok 0) (≤_trans (lit_≤ (ok 1)) (+_mono X.above Y.above)) (≤_trans (+_mono X.below Y.below) (lit_≤ (ok 2)))

  pub in_⊖ : T (every (difference_tests lo hi a b c d)) → Range (x ⊖ y) lo hi
  in_⊖ t =
      let ok = part (difference_tests lo hi a b c d) t in
      let ρ = value x ∷ value y ∷ a ∷ b ∷ c ∷ d ∷ [] in
      inside lo hi (sub_rounded binary64 x y X.fin Y.fin) (ok 0)
      (≤_trans (lit_≤ (ok 1)) (linq ρ ((qv 2 ⊑ qv 0 by 1) ∷ (qv 1 ⊑ qv 5 by 1) ∷ []) 0 (qv 2 ⊟ qv 5) (qv 0 ⊟ qv 1) tt X.above Y.below))
      (≤_trans (linq ρ ((qv 0 ⊑ qv 3 by 1) ∷ (qv 4 ⊑ qv 1 by 1) ∷ []) 0 (qv 0 ⊟ qv 1) (qv 3 ⊟ qv 4) tt X.below Y.above) (lit_≤ (ok 2)))

  -- v e for c ≤ v ≤ d, by the ends
  at_least : {l : ℚ} (e : ℚ) → l ≤q e *q c → l ≤q e *q d → l ≤q value y *q e
  at_least e p q = ≤_trans (corner_≥ e (value y) Y.above Y.below p q) (≤_of_≈ (*_comm e (value y)))

  at_most : {h : ℚ} (e : ℚ) → e *q c ≤q h → e *q d ≤q h → value y *q e ≤q h
  at_most e p q = ≤_trans (≤_of_≈ (*_comm (value y) e)) (corner_≤ e (value y) Y.above Y.below p q)

  pub in_⊗ : T (every (product_tests lo hi a b c d)) → Range (x ⊗ y) lo hi
  in_⊗ t =
      let ok = part (product_tests lo hi a b c d) t in
      let u = value x in let v = value y in
      inside lo hi (mul_rounded binary64 x y X.fin Y.fin) (ok 0)
      (≤_trans (corner_≥ v u X.above X.below (at_least a (lit_≤ (ok 1)) (lit_≤ (ok 2))) (at_least b (lit_≤ (ok 3)) (lit_≤ (ok 4)))) (≤_of_≈ (*_comm v u)))
      (≤_trans (≤_of_≈ (*_comm u v)) (corner_≤ v u X.above X.below (at_most a (lit_≤ (ok 5)) (lit_≤ (ok 6))) (at_most b (lit_≤ (ok 7)) (lit_≤ (ok 8)))))

  pub in_⊘ : T (every (quotient_tests lo hi a b c d)) → Range (x ⊘ y) lo hi
  in_⊘ t =
      let ok = part (quotient_tests lo hi a b c d) t in
      let v = value y in
      let pos : nat 0 <q v = <_≤_trans (lit_< (ok 1)) Y.above in
      let nz = not_≈_of_> pos in
      inside lo hi (div_rounded binary64 x y (value x /q v) X.fin Y.fin nz (div_* (value x) v nz)) (ok 0)
      (≤_div pos (≤_trans (corner_≤ (inner_lo lo hi) v Y.above Y.below (lit_≤ (ok 2)) (lit_≤ (ok 3))) X.above))
      (div_≤ pos (≤_trans X.below (corner_≥ (inner_hi lo hi) v Y.above Y.below (lit_≤ (ok 4)) (lit_≤ (ok 5)))))

-- ---- a constant of the program's text
abbrev pub constant_tests : ℕ → ℚ → ℚ → List Bool
constant_tests n lo hi = finite (of_bits binary64 n) ∷ leqb lo (value (of_bits binary64 n)) ∷ leqb (value (of_bits binary64 n)) hi ∷ []

pub constant_in : (n : ℕ) (lo hi : ℚ) → T (every (constant_tests n lo hi)) → Range (of_bits binary64 n) lo hi
constant_in n lo hi t = let ok = part (constant_tests n lo hi) t in record { fin = ok 0; above = lit_≤ (ok 1); below = lit_≤ (ok 2) }

-- ---- away from 0: at least lo in size
pub record Away (x : Float) (lo : ℚ) : Type 0 where
  pub fin : T (finite x)
  pub size : lo ≤q absq (value x)

-- what is lo' or more in size is lo or more once rounded
pub rounded_away : {x : Float} {z : ℚ} (lo lo' : ℚ) → Rounded binary64 x z → absq z ≤q nat (2 ^ 1023) → lo' ≤q absq z → lo +q eps binary64 *q lo' +q tiny binary64 ≤q lo' → Away x lo
rounded_away {x} {z} lo lo' R top h t =
    let (f, w) = rounds binary64 x z R top in
    let a = absq z in let v = absq (value x) in
    let d : a -q v ≤q err binary64 z =
    let ρ = z ∷ value x ∷ a ∷ v ∷ err binary64 z ∷ [] in
    linq (a ∷ v ∷ err binary64 z ∷ []) ((qv 0 ⊑ qv 1 ⊞ qv 2 by 1) ∷ []) 0 (qv 0 ⊟ qv 1) (qv 2) tt
    (abs_le
    (linq ρ ((qv 0 ⊟ qv 1 ⊑ qv 4 by 1) ∷ (qv 1 ⊑ qv 3 by 1) ∷ []) 0 (qv 0) (qv 3 ⊞ qv 4) tt w.below (le_abs (value x)))
    (linq ρ ((qv 1 ⊟ qv 0 ⊑ qv 4 by 1) ∷ (⊝ (qv 1) ⊑ qv 3 by 1) ∷ []) 0 (⊝ (qv 0)) (qv 3 ⊞ qv 4) tt w.above (neg_le_abs (value x))))
    in
    record {
      fin = f;
      size = linq (lo ∷ lo' ∷ a ∷ v ∷ tiny binary64 ∷ []) ((qv 0 ⊞ 1 ÷ 2 ^ 53 ⊠ qv 1 ⊞ qv 4 ⊑ qv 1 by 2 ^ 53) ∷ (qv 1 ⊑ qv 2 by 2 ^ 53 - 1) ∷ (qv 2 ⊟ qv 3 ⊑ 1 ÷ 2 ^ 53 ⊠ qv 2 ⊞ qv 4 by 2 ^ 53) ∷ []) (2 ^ 53 - 1) (qv 0) (qv 3) tt t h d;
    }

-- a divisor of either sign that is lo or more in size
abbrev pub size_quotient_tests : (B A lo : ℚ) → List Bool
size_quotient_tests B A lo = in_range (negq B) B ∷ ltqb (nat 0) lo ∷ leqb (A /q lo) (inner_hi (negq B) B) ∷ leqb (inner_lo (negq B) B) (negq (inner_hi (negq B) B)) ∷ []

module _ {x y : Float} {A lo : ℚ} (B : ℚ) (X : Range x (negq A) A) (Y : Away y lo) (t : T (every (size_quotient_tests B A lo))) where
  pub size_quotient : Range (x ⊘ y) (negq B) B
  size_quotient =
      let ok = part (size_quotient_tests B A lo) t in
      let pos = lit_< (ok 1) in
      let nz = not_zero_of_abs (<_≤_trans pos Y.size) in
      let b : absq (value x /q value y) ≤q inner_hi (negq B) B = ≤_trans (abs_div_le (value x) (value y) pos (abs_between X.above X.below) Y.size) (lit_≤ (ok 2)) in
      inside (negq B) B (div_rounded binary64 x y (value x /q value y) X.fin Y.fin nz (div_* (value x) (value y) nz)) (ok 0) (≤_trans (lit_≤ (ok 3)) (neg_le_of_abs b)) (le_of_abs b)
