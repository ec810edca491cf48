-- A polarity, 1 or -1: a product with it is exact, and twice the polarity is the number itself.
use mathlib.Core.Path.{◌≡◌, sym, subst}
use mathlib.Core.Logic.{◌⊎◌, inl, inr}
use mathlib.Core.List.{[], ◌∷◌}
use lib.Dec.{T}
use lib.IntN.{pos}
use lib.Ieee.{Float, binary64, fits, neg}
use lib.Ieee.Scale.{finite}
use Rattle.exact.specs.Fraction.{nat, negq, ◌*q◌, ◌≈q◌}
use Rattle.exact.specs.FloatValue.{value}
use Rattle.exact.specs.Float64.{◌⊗◌, +1}
use Rattle.exact.specs.Size.{AtMost}
use Rattle.exact.proofs.FractionLaws.{≈_trans, *_cong, neg_cong}
use Rattle.exact.proofs.FractionProver.{qv, ##, ◌⊠◌, ⊝, req}
use Rattle.exact.proofs.Rounding.{value_neg, neg_finite}
use Rattle.exact.proofs.Representable.{one_mul_exact, minus_one_mul_exact}
use Rattle.exact.proofs.Constants.{value_+1}
use Rattle.exact.proofs.Sizes.{constant_at_most, at_most_neg}
use Rattle.exact.proofs.Computing.{computing}

one_at_most : AtMost +1 (pos 0)
unfolding computing
one_at_most = constant_at_most 0x3ff0_0000_0000_0000 (pos 0) tt

pub polarity_at_most : {pol : Float} → (pol ≡ +1) ⊎ (pol ≡ neg +1) → AtMost pol (pos 0)
polarity_at_most (inl e) = subst (λ (c : Float). AtMost c (pos 0)) (sym e) one_at_most
polarity_at_most (inr e) = subst (λ (c : Float). AtMost c (pos 0)) (sym e) (at_most_neg one_at_most)

-- the product is finite, and the polarity times it is x again
pub record TurnedBack (pol x : Float) : Type 0 where
  pub fin : T (finite (pol ⊗ x))
  pub is : value pol *q value (pol ⊗ x) ≈q value x

module _ (x : Float) (t : T (finite x)) (f : T (fits binary64 x)) where
  by_one : TurnedBack +1 x
  by_one =
      let r = one_mul_exact binary64 x +1 t f one_at_most.fin value_+1 in
      record { fin = r.0; is = ≈_trans (*_cong value_+1 r.1) (req (value x ∷ []) (## 1 ⊠ qv 0) (qv 0) tt tt) }

  by_minus_one : TurnedBack (neg +1) x
  by_minus_one =
      let m : value (neg +1) ≈q negq (nat 1) = ≈_trans (value_neg +1) (neg_cong value_+1) in
      let r = minus_one_mul_exact binary64 x (neg +1) t f (neg_finite +1 one_at_most.fin) m in
      record { fin = r.0; is = ≈_trans (*_cong m r.1) (req (value x ∷ []) (⊝ (## 1) ⊠ ⊝ (qv 0)) (qv 0) tt tt) }

  pub turned_back : {pol : Float} → (pol ≡ +1) ⊎ (pol ≡ neg +1) → TurnedBack pol x
  turned_back (inl e) = subst (λ (c : Float). TurnedBack c x) (sym e) by_one
  turned_back (inr e) = subst (λ (c : Float). TurnedBack c x) (sym e) by_minus_one
