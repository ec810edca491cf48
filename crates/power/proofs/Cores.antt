-- e to a fixed-point number, or its reciprocal, is a power for every pair of ends near that number. Assumes nothing.
use mathlib.Core.Path.{◌≡◌, refl}
use mathlib.Core.Bool.{Bool, true, false, cond}
use mathlib.Core.List.{[], ◌∷◌}
use Prim.Native.Nat.{ℕ, ◌+◌, ◌*◌, ◌^◌, ◌≤◌, ◌<◌}
use native.Mathlib.Nat.{zero-lt-suc, le_trans, le_of_eq, mul-le-mul_right, le-add_right}
use native.Mathlib.Omega.{arith}
use lib.Dec.{T, ltb, lit≤}
use lib.Pow.{pow_pos}
use lib.Ieee.{Float, inf}
use lib.Ieee.Scale.{finite}
use borrow.Author.Tests.{ltb-true, ltb-false}
use Rattle.exact.specs.Fraction.{ℚ, ◌//◌, nat, ◌+q◌, negq, ◌*q◌, absq, ◌≤q◌, Within, leqb}
use Rattle.exact.specs.FloatValue.{value}
use Rattle.exact.specs.Float64.{◌⊘◌, +0, +1}
use Rattle.exact.proofs.FractionLaws.{≈_sym, ≤_of_≈, ≤_refl, ≤_trans, *_comm, *_mono, lit_≤}
use Rattle.exact.proofs.FractionProver.{qv, ##, ◌÷◌, ◌⊞◌, ◌⊟◌, ◌⊠◌, ⊝, leq, linq, ◌⊑◌by◌}
use Rattle.exact.proofs.Closeness.{le_abs, neg_le_abs, abs_le, within_mono}
use Rattle.exact.proofs.Rounding.{frac_nonneg}
use Rattle.series.specs.Series.{E, Enough}
use Rattle.series.proofs.Quotients.{frac_≤, frac_nat}
use Rattle.series.proofs.Order.{E_mono, E_nonneg, E_reciprocal}
use Rattle.series.proofs.TailLaws.{Moderate}
use Rattle.series.proofs.ProductLaws.{tails}
use Rattle.series.proofs.Shifts.{E_shift}
use Rattle.series.proofs.Sizes.{E_large}
use Rattle.exponential.specs.Exponential.{exp_fixed}
use Rattle.exponential.proofs.FixedPoint.{fixed_finite, fixed_close}
use Rattle.exponential.proofs.Reciprocal.{fixed_inverse_finite, fixed_inverse_close}
use Rattle.logarithm.proofs.Accuracy.{zero_value, zero_finite}
use Rattle.power.specs.Power.{power_of}
use Rattle.power.specs.Accuracy.{parts, AtLeast, AtMost, Between}
use Rattle.power.specs.Accuracy.AtLeast.{least_relative, least_absolute}
use Rattle.power.specs.Accuracy.AtMost.{most_relative, most_absolute}
use Rattle.power.specs.Accuracy.Between.{a_number, infinite}
use Rattle.power.proofs.Products.{scaled}

abbrev pub η : ℚ
η = 1 // 2 ^ 42

shift_small : nat 2 *q absq η +q nat 4 *q tails ≤q 9 // 2 ^ 44
unfolding leqb nat ◌//◌ absq ◌*q◌ ◌+q◌
shift_small = lit_≤ tt

shift_small' : nat 2 *q absq (negq η) +q nat 4 *q tails ≤q 9 // 2 ^ 44
unfolding leqb nat ◌//◌ absq ◌*q◌ ◌+q◌ negq
shift_small' = lit_≤ tt

quarter : absq η ≤q 1 // 4
unfolding leqb ◌//◌ absq
quarter = lit_≤ tt

quarter' : absq (negq η) ≤q 1 // 4
unfolding leqb ◌//◌ absq negq
quarter' = lit_≤ tt

scale_mono : {c d : ℚ} (e : ℚ) → nat 0 ≤q e → c ≤q d → c *q e ≤q d *q e
scale_mono {c} {d} e p h = ≤_trans (≤_of_≈ (*_comm c e)) (≤_trans (*_mono p h) (≤_of_≈ (*_comm e d)))

moderate : (z d : ℚ) → absq z ≤q nat 700 → absq d ≤q 1 // 4 → Moderate (z +q d)
moderate z d m h = record {
  size = abs_le
      (linq (z ∷ d ∷ absq z ∷ absq d ∷ []) ((qv 0 ⊑ qv 2 by 1) ∷ (qv 2 ⊑ ## 700 by 1) ∷ (qv 1 ⊑ qv 3 by 1) ∷ (qv 3 ⊑ 1 ÷ 4 by 1) ∷ []) 0 (qv 0 ⊞ qv 1) (## 1000) tt (le_abs z) m (le_abs d) h)
      (linq (z ∷ d ∷ absq z ∷ absq d ∷ []) ((⊝ (qv 0) ⊑ qv 2 by 1) ∷ (qv 2 ⊑ ## 700 by 1) ∷ (⊝ (qv 1) ⊑ qv 3 by 1) ∷ (qv 3 ⊑ 1 ÷ 4 by 1) ∷ []) 0 (⊝ (qv 0 ⊞ qv 1)) (## 1000) tt (neg_le_abs z) m (neg_le_abs d) h);
}

-- r is near E at z, which the ends leave by at most 2^-42
module _ {lo hi : ℚ} (z : ℚ) (r : Float) (r_finite : T (finite r)) (m : absq z ≤q nat 700) (close : (K : ℕ) → Enough K → Within (value r) (E K z) (1 // 2 ^ 45 *q E K z)) (l : lo ≤q z +q η) (u : z +q negq η ≤q hi) where
  z_moderate : Moderate z
  z_moderate = record { size = ≤_trans m (leq [] (## 700) (## 1000) tt) }

  nonneg : nat 0 ≤q value r
  nonneg = let e = E 3999 z in linq (value r ∷ e ∷ []) ((qv 1 ⊟ qv 0 ⊑ 1 ÷ (2 ^ 45) ⊠ qv 1 by 35184372088832) ∷ (## 0 ⊑ qv 1 by 35184372088831) ∷ []) 35184372088831 (## 0) (qv 0) tt (close 3999 (lit≤ tt)).below (E_nonneg 3999 z)

  least : {K : ℕ} → Enough K → AtLeast (E K lo) (value r)
  least {K} k =
      let g = E K lo in let f = E K (z +q η) in let e = E K z in
      least_relative
      (linq (g ∷ f ∷ e ∷ value r ∷ []) ((qv 0 ⊑ qv 1 by 19342813113816474609254400) ∷ (qv 1 ⊟ qv 2 ⊑ 9 ÷ (2 ^ 44) ⊠ qv 2 by 19342813113816474609254400) ∷ (qv 2 ⊟ qv 3 ⊑ 1 ÷ (2 ^ 45) ⊠ qv 2 by 19342813113834066795298816) ∷ (## 0 ⊑ qv 2 by 7146825580553) ∷ []) 19342813113834066795298815 (qv 0 ⊟ 1 ÷ parts ⊠ qv 0) (qv 3) tt
      (E_mono K l) (≤_trans (E_shift η k k z_moderate (moderate z η m quarter) quarter).above (scale_mono e (E_nonneg K z) shift_small)) (close K k).below (E_nonneg K z))

  most : {K : ℕ} → Enough K → AtMost (E K hi) (value r)
  most {K} k =
      let h = E K hi in let f = E K (z +q negq η) in let e = E K z in
      most_relative
      (linq (h ∷ f ∷ e ∷ value r ∷ []) ((qv 1 ⊑ qv 0 by 19342813113851658981343232) ∷ (qv 2 ⊟ qv 1 ⊑ 9 ÷ (2 ^ 44) ⊠ qv 2 by 19342813113851658981343232) ∷ (qv 3 ⊟ qv 2 ⊑ 1 ÷ (2 ^ 45) ⊠ qv 2 by 19342813113834066795298816) ∷ (## 0 ⊑ qv 2 by 7146825580535) ∷ []) 19342813113834066795298815 (qv 3) (qv 0 ⊞ 1 ÷ parts ⊠ qv 0) tt
      (E_mono K u) (≤_trans (E_shift (negq η) k k z_moderate (moderate z (negq η) m quarter') quarter').below (scale_mono e (E_nonneg K z) shift_small')) (close K k).above (E_nonneg K z))

  near_is_between : Between lo hi r
  near_is_between = a_number r (record { is_finite = r_finite; not_negative = nonneg; not_below = λ K k. least k; not_above = λ K k. most k })

-- the number whose exponential it is
abbrev pub target : ℕ → Bool → ℚ
target t down = cond down (negq (scaled t)) (scaled t)

in_range : (t : ℕ) → t ≤ 700 * 2 ^ 50 → scaled t ≤q nat 700
in_range t h = ≤_trans (frac_≤ (8 * t) 700 (pow_pos 53) (zero-lt-suc 0) (le_trans (le_of_eq (one (8 * t))) (room t h))) (≤_of_≈ (frac_nat 700))
  where
    one : (x : ℕ) → x * 1 ≡ x
    one x = omega arith

    room : (t : ℕ) → t ≤ 700 * 2 ^ 50 → 8 * t ≤ 700 * 2 ^ 53
    room t h = omega arith

beyond : (t : ℕ) → 700 * 2 ^ 50 < t → nat 700 ≤q scaled t
beyond t h = ≤_trans (≤_of_≈ (≈_sym (frac_nat 700))) (frac_≤ 700 (8 * t) (zero-lt-suc 0) (pow_pos 53) (le_trans (room t h) (le_of_eq (one (8 * t)))))
  where
    one : (x : ℕ) → x ≡ x * 1
    one x = omega arith

    room : (t : ℕ) → 700 * 2 ^ 50 < t → 700 * 2 ^ 53 ≤ 8 * t
    room t h = omega arith

eight : (t : ℕ) → t ≤ 700 * 2 ^ 50 → 8 * t ≤ 700 * 2 ^ 53
eight t h = omega arith

next : (X : ℕ) → X // 2 ^ 53 ≤q (X + 1) // 2 ^ 53
next X = frac_≤ X (X + 1) (pow_pos 53) (pow_pos 53) (mul-le-mul_right (2 ^ 53) (le-add_right X 1))

size : (t : ℕ) (down : Bool) → t ≤ 700 * 2 ^ 50 → absq (target t down) ≤q nat 700
size t true h = abs_le (linq (scaled t ∷ []) ((## 0 ⊑ qv 0 by 1) ∷ []) 0 (⊝ (qv 0)) (## 700) tt (frac_nonneg (8 * t) (2 ^ 53))) (linq (scaled t ∷ []) ((qv 0 ⊑ ## 700 by 1) ∷ []) 0 (⊝ (⊝ (qv 0))) (## 700) tt (in_range t h))
size t false h = abs_le (in_range t h) (linq (scaled t ∷ []) ((## 0 ⊑ qv 0 by 1) ∷ []) 0 (⊝ (qv 0)) (## 700) tt (frac_nonneg (8 * t) (2 ^ 53)))

wider : 1 // 2 ^ 47 ≤q 1 // 2 ^ 45
unfolding leqb ◌//◌
wider = lit_≤ tt

inside : (t : ℕ) (down : Bool) {lo hi : ℚ} → t ≤ 700 * 2 ^ 50 → lo ≤q target t down +q η → target t down +q negq η ≤q hi → Between lo hi (cond down (+1 ⊘ exp_fixed (8 * t)) (exp_fixed (8 * t)))
inside t true h l u = near_is_between (negq (scaled t)) (+1 ⊘ exp_fixed (8 * t)) (fixed_inverse_finite (8 * t) (eight t h)) (size t true h) (λ K k. fixed_inverse_close (8 * t) (eight t h) K k (≤_refl (scaled t)) (next (8 * t))) l u
inside t false h l u = near_is_between (scaled t) (exp_fixed (8 * t)) (fixed_finite (8 * t) (eight t h)) (size t false h) (λ K k. within_mono (fixed_close (8 * t) (eight t h) K k (≤_refl (scaled t)) (next (8 * t))) (scale_mono (E K (scaled t)) (E_nonneg K (scaled t)) wider)) l u

-- E at -693.2 and below is at most 2^-1000
abbrev far : ℚ
far = (1000 * 6932) // 10000

far_near : far +q η ≤q nat 700
unfolding leqb nat ◌//◌ ◌+q◌
far_near = lit_≤ tt

tiny_power : {K : ℕ} (x : ℚ) → Enough K → far ≤q negq x → E K x ≤q 1 // 2 ^ 1000
tiny_power {K} x k h =
    let e = E K x in let e' = E K (negq x) in
    let b : e *q nat (2 ^ 1000) ≤q e *q e' = *_mono (E_nonneg K x) (E_large 1000 (lit≤ tt) (lit≤ tt) k h) in
    linq (e ∷ e' ∷ []) ((qv 0 ⊠ ## (2 ^ 1000) ⊑ qv 0 ⊠ qv 1 by 1) ∷ (qv 0 ⊠ qv 1 ⊑ ## 1 by 1) ∷ []) 10715086071862673209484250490600018105614048117055336074437503883703510511249361224931983788156958581275946729175531468251871452856923140435984577574698574803934567774824230985421074605062371141877954182153046474983581941267398767559165543946077062914571196477686542167660429831652624386837205668069375 (qv 0) (1 ÷ (2 ^ 1000)) tt b (≤_of_≈ (E_reciprocal K x))

outside : (t : ℕ) (down : Bool) {lo hi : ℚ} → 700 * 2 ^ 50 < t → lo ≤q target t down +q η → target t down +q negq η ≤q hi → Between lo hi (cond down +0 (inf false))
outside t true {lo} {hi} h l u =
    a_number +0 (record { is_finite = zero_finite; not_negative = ≤_of_≈ (≈_sym zero_value); not_below = low; not_above = high })
  where
    low : (K : ℕ) → Enough K → AtLeast (E K lo) (value +0)
    low K k = least_absolute (≤_trans (linq (E K lo ∷ (1 // 2 ^ 1000) ∷ []) ((qv 0 ⊑ qv 1 by 1) ∷ []) 0 (qv 0 ⊟ qv 1) (## 0) tt (tiny_power lo k
        (linq (lo ∷ scaled t ∷ far ∷ η ∷ []) ((qv 0 ⊑ ⊝ (qv 1) ⊞ qv 3 by 1) ∷ (## 700 ⊑ qv 1 by 1) ∷ (qv 2 ⊞ qv 3 ⊑ ## 700 by 1) ∷ []) 0 (qv 2) (⊝ (qv 0)) tt l (beyond t h) far_near))) (≤_of_≈ (≈_sym zero_value)))

    high : (K : ℕ) → Enough K → AtMost (E K hi) (value +0)
    high K k = most_absolute (≤_trans (≤_of_≈ zero_value) (linq (E K hi ∷ (1 // 2 ^ 1000) ∷ []) ((## 0 ⊑ qv 0 by 1) ∷ (## 0 ⊑ qv 1 by 1) ∷ []) 0 (## 0) (qv 0 ⊞ qv 1) tt (E_nonneg K hi) (frac_nonneg 1 (2 ^ 1000))))
outside t false {lo} {hi} h l u =
    infinite (λ K k. E_large 1000 (lit≤ tt) (lit≤ tt) k (linq (hi ∷ scaled t ∷ far ∷ η ∷ []) ((qv 1 ⊞ ⊝ (qv 3) ⊑ qv 0 by 1) ∷ (## 700 ⊑ qv 1 by 1) ∷ (qv 2 ⊞ qv 3 ⊑ ## 700 by 1) ∷ []) 0 (qv 2) (qv 0) tt u (beyond t h) far_near))

pub power_between : (t : ℕ) (down : Bool) {lo hi : ℚ} → lo ≤q target t down +q η → target t down +q negq η ≤q hi → Between lo hi (power_of t down)
unfolding power_of
power_between t down {lo} {hi} l u = by_test (ltb (700 * 2 ^ 50) t) refl
  where
    by_test : (b : Bool) → ltb (700 * 2 ^ 50) t ≡ b → Between lo hi (cond b (cond down +0 (inf false)) (cond down (+1 ⊘ exp_fixed (8 * t)) (exp_fixed (8 * t))))
    by_test true e = outside t down (ltb-true (700 * 2 ^ 50) t e) l u
    by_test false e = inside t down (ltb-false (700 * 2 ^ 50) t e) l u
