-- Where m and 1 - m are from 2^-53 on, both are at most 1.
use mathlib.Core.Bool.{true, false}
use mathlib.Core.Logic.{inl, inr}
use mathlib.Core.List.{[], ◌∷◌}
use lib.Dec.{T}
use lib.Ieee.{Float, nan, inf, fin, binary64, fits, le, lt, eq, add, sub, neg, of_bits}
use lib.Ieee.Scale.{finite}
use Rattle.exact.specs.Fraction.{◌//◌, nat, ◌-q◌, negq, ◌≤q◌, ◌<q◌, ◌≈q◌}
use Rattle.exact.specs.FloatValue.{value}
use Rattle.exact.specs.Float64.{◌⊖◌, +1}
use Rattle.exact.specs.Size.{Range}
use Rattle.exact.proofs.Computing.{computing}
use Rattle.exact.proofs.Constants.{constant_is, constant_finite}
use Rattle.exact.proofs.FractionLaws.{≈_sym, ≤_of_≈, ≤_trans}
use Rattle.exact.proofs.FractionProver.{qv, ##, ◌⊟◌, ⊝, linq, ◌⊑◌by◌}
use Rattle.exact.proofs.StrictOrder.{≤_or_<, ≤_of_<, <_≤_trans, not_≤_of_<, lit_<}
use Rattle.exact.proofs.Comparisons.{le→≤, ≤→le}
use Rattle.exact.proofs.Rounding.{Rounded, sub_rounded}
use Rattle.exact.proofs.Representable.{representable, representable_neg, fits_representable}
use Rattle.exact.proofs.Ranges.{rounded_range}
use Rattle.exponential.specs.Exponential.{least}
use Rattle.power.specs.Power.{Fractional}

one_finite : T (finite +1)
unfolding computing
one_finite = constant_finite 0x3ff0_0000_0000_0000 (nat 1) tt

one_value : value +1 ≈q nat 1
unfolding computing
one_value = constant_is 0x3ff0_0000_0000_0000 (nat 1) tt

least_finite : T (finite least)
unfolding computing
least_finite = constant_finite 0x3ca0_0000_0000_0000 (1 // 9007199254740992) tt

least_positive : nat 0 <q value least
unfolding computing
least_positive = lit_< tt

module _ (m : Float) (t : T (finite m)) (f : T (fits binary64 m)) (a : T (le least m)) (b : T (le least (+1 ⊖ m))) where
  rounded : Rounded binary64 (+1 ⊖ m) (value +1 -q value m)
  rounded = sub_rounded binary64 +1 m one_finite t

  positive : nat 0 ≤q value m
  positive = ≤_of_< (<_≤_trans least_positive (le→≤ least m least_finite t a))

  up_to_one : value m ≤q value +1 → Range (+1 ⊖ m) (nat 0) (nat 1)
  unfolding computing
  up_to_one h =
      rounded_range rounded (representable tt) (representable tt)
      (linq (value m ∷ value +1 ∷ []) ((qv 0 ⊑ qv 1 by 1) ∷ []) 0 (## 0) (qv 1 ⊟ qv 0) tt h)
      (linq (value m ∷ value +1 ∷ []) ((## 0 ⊑ qv 0 by 1) ∷ (qv 1 ⊑ ## 1 by 1) ∷ []) 0 (qv 1 ⊟ qv 0) (## 1) tt positive (≤_of_≈ one_value))

  -- beyond 1 the difference is not positive
  beyond_one : value +1 ≤q value m → Range (+1 ⊖ m) (negq (value m)) (nat 0)
  unfolding computing
  beyond_one h =
      rounded_range rounded (representable_neg (fits_representable binary64 m t f)) (representable tt)
      (linq (value m ∷ value +1 ∷ []) ((## 1 ⊑ qv 1 by 1) ∷ []) 0 (⊝ (qv 0)) (qv 1 ⊟ qv 0) tt (≤_of_≈ (≈_sym one_value)))
      (linq (value m ∷ value +1 ∷ []) ((qv 1 ⊑ qv 0 by 1) ∷ []) 0 (qv 1 ⊟ qv 0) (## 0) tt h)

  finite_fractional : Fractional m × Fractional (+1 ⊖ m)
  finite_fractional = elim (≤_or_< (value m) (value +1)) [
    | inl h ↦
        let r = up_to_one h in
        (record { at_least = a; at_most = ≤→le m +1 t one_finite h }, record { at_least = b; at_most = ≤→le (+1 ⊖ m) +1 r.fin one_finite (≤_trans r.below (≤_of_≈ (≈_sym one_value))) })
    | inr h ↦ let r = beyond_one (≤_of_< h) in absurd (not_≤_of_< (<_≤_trans least_positive (le→≤ least (+1 ⊖ m) least_finite r.fin b)) r.below)
  ]

pub both_fractional : (m : Float) → T (fits binary64 m) → T (le least m) → T (le least (+1 ⊖ m)) → Fractional m × Fractional (+1 ⊖ m)
unfolding le lt eq sub add neg of_bits
both_fractional nan f a b = absurd a
both_fractional (inf true) f a b = absurd a
both_fractional (inf false) f a b = absurd b
both_fractional (fin s n e) f a b = finite_fractional (fin s n e) tt f a b
