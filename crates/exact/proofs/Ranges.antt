-- Ranges: from lo ≤ x ≤ hi and the like for y, the range of each operation's result, and that it is finite. The ends are numbers that binary64 holds;
-- rounding does not cross them, so a range grows by no error.
use Prim.Native.Nat.{ℕ}
use mathlib.Core.Logic.{inl, inr}
use mathlib.Core.List.{[], ◌∷◌}
use lib.Dec.{T}
use lib.IntN.{ℤ}
use lib.Ieee.{Float, Format, binary64, neg, le, of_bits}
use lib.Ieee.Scale.{finite}
use Rattle.exact.specs.Fraction.{ℚ, nat, ◌+q◌, negq, ◌-q◌, ◌*q◌, absq, maxq, ◌≤q◌, ◌<q◌, ◌≈q◌}
use Rattle.exact.specs.FloatValue.{value}
use Rattle.exact.specs.Float64.{◌⊕◌, ◌⊖◌, ◌⊗◌, ◌⊘◌, absolute, maximum}
use Rattle.exact.specs.Size.{exp2, AtMost, AtLeast, NonNegative, Positive, Range}
use Rattle.exact.proofs.FractionLaws.{≈_sym, *_comm, ≤_of_≈, ≤_refl, ≤_trans, +_mono, *_mono, neg_mono}
use Rattle.exact.proofs.FractionProver.{qv, ##, ◌⊠◌, ⊝, linq, ◌⊑◌by◌}
use Rattle.exact.proofs.StrictOrder.{<_≤_trans, ≤_or_≤}
use Rattle.exact.proofs.AbsoluteValue.{le_abs, neg_le_abs, abs_cases, abs_nonneg, abs_between, neg_le_of_abs, le_of_abs, not_zero_of_pos}
use Rattle.exact.proofs.FractionDivision.{div_≤, ≤_div}
use Rattle.exact.proofs.Maximum.{max_mono}
use Rattle.exact.proofs.Closeness.{*_mono₂}
use Rattle.exact.proofs.Rounding.{Rounded, add_rounded, sub_rounded, mul_rounded, div_rounded_q, value_neg, neg_finite}
use Rattle.exact.proofs.Comparisons.{le→≤, le_between_finite}
use Rattle.exact.proofs.Constants.{constant_test, constant_finite, constant_is}
use Rattle.exact.proofs.Representable.{Representable}
use Rattle.exact.proofs.RoundingOrder.{rounded_finite, rounded_≤, rounded_≥}
use Rattle.exact.proofs.FloatFunctions.{absolute_finite, value_absolute, maximum_finite, value_maximum}

-- ---- given ranges
-- by two tests of the program
pub range_between : (lo x hi : Float) → T (finite lo) → T (finite hi) → T (le lo x) → T (le x hi) → Range x (value lo) (value hi)
range_between lo x hi p q a b = let t = le_between_finite lo x hi p q a b in record { fin = t; above = le→≤ lo x p t a; below = le→≤ x hi t q b }

-- by two constants: lo and hi are their numbers
pub range_constants : (x : Float) (m n : ℕ) (lo hi : ℚ) → T (constant_test m lo) → T (constant_test n hi) → T (le (of_bits binary64 m) x) → T (le x (of_bits binary64 n)) → Range x lo hi
range_constants x m n lo hi p q a b =
    let r = range_between (of_bits binary64 m) x (of_bits binary64 n) (constant_finite m lo p) (constant_finite n hi q) a b in
    record { fin = r.fin; above = ≤_trans (≤_of_≈ (≈_sym (constant_is m lo p))) r.above; below = ≤_trans r.below (≤_of_≈ (constant_is n hi q)) }

pub range_point : (x : Float) → T (finite x) → Range x (value x) (value x)
range_point x t = record { fin = t; above = ≤_refl (value x); below = ≤_refl (value x) }

pub range_weaken : {x : Float} {a b lo hi : ℚ} → Range x a b → lo ≤q a → b ≤q hi → Range x lo hi
range_weaken X f g = record { fin = X.fin; above = ≤_trans f X.above; below = ≤_trans X.below g }

-- ---- a rounded result
pub rounded_range : {f : Format} {x : Float} {z lo hi : ℚ} → Rounded f x z → Representable f lo → Representable f hi → lo ≤q z → z ≤q hi → Range x lo hi
rounded_range {f} {x} {z} {lo} {hi} r L H a b = record { fin = t; above = rounded_≥ r t L a; below = rounded_≤ r t H b }
  where
    t : T (finite x)
    t = elim (abs_cases z) [
      | inl e ↦ rounded_finite r H (≤_trans (≤_of_≈ e.1) (≤_trans b (le_abs hi)))
      | inr e ↦ rounded_finite r L (≤_trans (≤_of_≈ e.1) (≤_trans (neg_mono a) (neg_le_abs lo)))
    ]

-- ---- c ≤ y ≤ d: what x y is at least, and at most, by the ends
pub corner_≥ : {lo c d : ℚ} (x y : ℚ) → c ≤q y → y ≤q d → lo ≤q x *q c → lo ≤q x *q d → lo ≤q x *q y
corner_≥ {lo} {c} {d} x y f g h k = elim (≤_or_≤ (nat 0) x) [ inl p ↦ ≤_trans h (*_mono p f) | inr p ↦ ≤_trans k (below p) ]
  where
    below : x ≤q nat 0 → x *q d ≤q x *q y
    below p = linq (x ∷ y ∷ d ∷ []) ((⊝ (qv 0) ⊠ qv 1 ⊑ ⊝ (qv 0) ⊠ qv 2 by 1) ∷ []) 0 (qv 0 ⊠ qv 2) (qv 0 ⊠ qv 1) tt (*_mono (linq (x ∷ []) ((qv 0 ⊑ ## 0 by 1) ∷ []) 0 (## 0) (⊝ (qv 0)) tt p) g)

pub corner_≤ : {hi c d : ℚ} (x y : ℚ) → c ≤q y → y ≤q d → x *q c ≤q hi → x *q d ≤q hi → x *q y ≤q hi
corner_≤ {hi} {c} {d} x y f g h k = elim (≤_or_≤ (nat 0) x) [ inl p ↦ ≤_trans (*_mono p g) k | inr p ↦ ≤_trans (below p) h ]
  where
    below : x ≤q nat 0 → x *q y ≤q x *q c
    below p = linq (x ∷ y ∷ c ∷ []) ((⊝ (qv 0) ⊠ qv 2 ⊑ ⊝ (qv 0) ⊠ qv 1 by 1) ∷ []) 0 (qv 0 ⊠ qv 1) (qv 0 ⊠ qv 2) tt (*_mono (linq (x ∷ []) ((qv 0 ⊑ ## 0 by 1) ∷ []) 0 (## 0) (⊝ (qv 0)) tt p) f)

turn_≤ : (x y : ℚ) {e : ℚ} → x *q y ≤q e → y *q x ≤q e
turn_≤ x y h = ≤_trans (≤_of_≈ (*_comm y x)) h

turn_≥ : (x y : ℚ) {e : ℚ} → e ≤q x *q y → e ≤q y *q x
turn_≥ x y h = ≤_trans h (≤_of_≈ (*_comm x y))

-- ---- each operation
module _ {x y : Float} {a b c d lo hi : ℚ} (X : Range x a b) (Y : Range y c d) (L : Representable binary64 lo) (H : Representable binary64 hi) where
  pub range_⊕ : lo ≤q a +q c → b +q d ≤q hi → Range (x ⊕ y) lo hi
  range_⊕ f g = rounded_range (add_rounded binary64 x y X.fin Y.fin) L H (≤_trans f (+_mono X.above Y.above)) (≤_trans (+_mono X.below Y.below) g)

  pub range_⊖ : lo ≤q a -q d → b -q c ≤q hi → Range (x ⊖ y) lo hi
  unfolding ◌-q◌
  range_⊖ f g = rounded_range (sub_rounded binary64 x y X.fin Y.fin) L H (≤_trans f (+_mono X.above (neg_mono Y.below))) (≤_trans (+_mono X.below (neg_mono Y.above)) g)

  -- the four corners of the rectangle
  pub range_⊗ : lo ≤q a *q c → lo ≤q a *q d → lo ≤q b *q c → lo ≤q b *q d → a *q c ≤q hi → a *q d ≤q hi → b *q c ≤q hi → b *q d ≤q hi → Range (x ⊗ y) lo hi
  range_⊗ l₁ l₂ l₃ l₄ h₁ h₂ h₃ h₄ =
      let v = value x in let w = value y in
      let at_c : lo ≤q v *q c = turn_≥ c v (corner_≥ c v X.above X.below (turn_≥ a c l₁) (turn_≥ b c l₃)) in
      let at_d : lo ≤q v *q d = turn_≥ d v (corner_≥ d v X.above X.below (turn_≥ a d l₂) (turn_≥ b d l₄)) in
      let to_c : v *q c ≤q hi = turn_≤ c v (corner_≤ c v X.above X.below (turn_≤ a c h₁) (turn_≤ b c h₃)) in
      let to_d : v *q d ≤q hi = turn_≤ d v (corner_≤ d v X.above X.below (turn_≤ a d h₂) (turn_≤ b d h₄)) in
      rounded_range (mul_rounded binary64 x y X.fin Y.fin) L H (corner_≥ v w Y.above Y.below at_c at_d) (corner_≤ v w Y.above Y.below to_c to_d)

  -- of two that are not negative
  pub range_⊗_nonneg : nat 0 ≤q a → nat 0 ≤q c → lo ≤q a *q c → b *q d ≤q hi → Range (x ⊗ y) lo hi
  range_⊗_nonneg A C l h =
      let v = ≤_trans A X.above in let w = ≤_trans C Y.above in
      rounded_range (mul_rounded binary64 x y X.fin Y.fin) L H (≤_trans l (*_mono₂ A C X.above Y.above)) (≤_trans (*_mono₂ v w X.below Y.below) h)

  -- by a y above 0: lo ≤ x / y is lo y ≤ x
  pub range_⊘ : nat 0 <q c → lo *q c ≤q a → lo *q d ≤q a → b ≤q hi *q c → b ≤q hi *q d → Range (x ⊘ y) lo hi
  range_⊘ C l₁ l₂ h₁ h₂ =
      let P : nat 0 <q value y = <_≤_trans C Y.above in
      rounded_range (div_rounded_q binary64 x y X.fin Y.fin (not_zero_of_pos P)) L H
      (≤_div P (≤_trans (corner_≤ lo (value y) Y.above Y.below l₁ l₂) X.above))
      (div_≤ P (≤_trans X.below (corner_≥ hi (value y) Y.above Y.below h₁ h₂)))

pub range_neg : {x : Float} {a b : ℚ} → Range x a b → Range (neg x) (negq b) (negq a)
range_neg {x} X = record { fin = neg_finite x X.fin; above = ≤_trans (neg_mono X.below) (≤_of_≈ (≈_sym (value_neg x))); below = ≤_trans (≤_of_≈ (value_neg x)) (neg_mono X.above) }

pub range_maximum : {x y : Float} {a b c d : ℚ} → Range x a b → Range y c d → Range (maximum x y) (maxq a c) (maxq b d)
range_maximum {x} {y} X Y =
    let e = value_maximum x y X.fin Y.fin in
    record { fin = maximum_finite x y X.fin Y.fin; above = ≤_trans (max_mono X.above Y.above) (≤_of_≈ (≈_sym e)); below = ≤_trans (≤_of_≈ e) (max_mono X.below Y.below) }

-- a size e: from 0 to e
pub range_absolute : {x : Float} {a b : ℚ} (e : ℚ) → Range x a b → negq e ≤q a → b ≤q e → Range (absolute x) (nat 0) e
range_absolute {x} e X f g = record { fin = absolute_finite x X.fin; above = ≤_trans (abs_nonneg (value x)) (≤_of_≈ (≈_sym (value_absolute x))); below = ≤_trans (≤_of_≈ (value_absolute x)) (abs_between (≤_trans f X.above) (≤_trans X.below g)) }

-- a number that is known
pub range_is : {x : Float} {z : ℚ} → T (finite x) → value x ≈q z → Range x z z
range_is t e = record { fin = t; above = ≤_of_≈ (≈_sym e); below = ≤_of_≈ e }

-- ---- to sizes and signs
pub range_at_most : {x : Float} {a b : ℚ} → Range x a b → (k : ℤ) → negq (exp2 k) ≤q a → b ≤q exp2 k → AtMost x k
range_at_most X k f g = record { fin = X.fin; size = abs_between (≤_trans f X.above) (≤_trans X.below g) }

pub range_at_least : {x : Float} {a b : ℚ} → Range x a b → (k : ℤ) → exp2 k ≤q a → AtLeast x k
range_at_least {x} X k f = record { fin = X.fin; size = ≤_trans (≤_trans f X.above) (le_abs (value x)) }

pub range_non_negative : {x : Float} {a b : ℚ} → Range x a b → nat 0 ≤q a → NonNegative x
range_non_negative X h = record { fin = X.fin; sign = ≤_trans h X.above }

pub range_positive : {x : Float} {a b : ℚ} → Range x a b → nat 0 <q a → Positive x
range_positive X h = record { fin = X.fin; sign = <_≤_trans h X.above }

pub range_abs : {x : Float} {a b : ℚ} (e : ℚ) → Range x a b → negq e ≤q a → b ≤q e → absq (value x) ≤q e
range_abs e X f g = abs_between (≤_trans f X.above) (≤_trans X.below g)

pub at_most_range : {x : Float} {k : ℤ} → AtMost x k → Range x (negq (exp2 k)) (exp2 k)
at_most_range {x} X = record { fin = X.fin; above = neg_le_of_abs X.size; below = le_of_abs X.size }
