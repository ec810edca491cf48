-- From signs and powers of two to the ranges of `ParameterBounds`.
use mathlib.Core.Path.{◌≡◌, sym, subst}
use mathlib.Core.Logic.{◌⊎◌, inl, inr}
use lib.IntN.{ℤ}
use lib.Ieee.{Float, neg}
use Rattle.exact.specs.Fraction.{nat, negq}
use Rattle.exact.specs.Float64.{+1}
use Rattle.exact.specs.Size.{exp2, Range, AtMost, NonNegative}
use Rattle.exact.proofs.AbsoluteValue.{le_of_abs}
use Rattle.exact.proofs.Computing.{computing}
use Rattle.exact.proofs.FractionLaws.{lit_≤}
use Rattle.exact.proofs.Ranges.{range_neg, range_weaken}
use Rattle.temperature_sizes.proofs.Potentials.{one_range}

pub non_negative_range : {x : Float} {a : ℤ} → NonNegative x → AtMost x a → Range x (nat 0) (exp2 a)
non_negative_range X A = record { fin = X.fin; above = X.sign; below = le_of_abs A.size }

pub polarity_range : {pol : Float} → (pol ≡ +1) ⊎ (pol ≡ neg +1) → Range pol (negq (nat 1)) (nat 1)
unfolding computing
polarity_range e = elim e [
  | inl p ↦ subst (λ (z : Float). Range z (negq (nat 1)) (nat 1)) (sym p) (range_weaken one_range (lit_≤ tt) (lit_≤ tt))
  | inr p ↦ subst (λ (z : Float). Range z (negq (nat 1)) (nat 1)) (sym p) (range_weaken (range_neg one_range) (lit_≤ tt) (lit_≤ tt))
]
