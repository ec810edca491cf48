-- The polarity is 1 or -1: its square is 1, and flipping a voltage twice leaves its size.
use Prim.Native.Nat.{◌-◌, ◌^◌}
use mathlib.Core.Path.{◌≡◌, sym, subst}
use mathlib.Core.Logic.{◌⊎◌, inl, inr}
use mathlib.Core.List.{[], ◌∷◌}
use lib.IntN.{pos}
use lib.Ieee.{Float, neg}
use Rattle.exact.specs.Fraction.{◌//◌, nat, ◌+q◌, ◌*q◌, absq, ◌≤q◌, ◌≈q◌}
use Rattle.exact.specs.FloatValue.{value}
use Rattle.exact.specs.Float64.{◌⊗◌, +1}
use Rattle.exact.specs.Size.{AtMost}
use Rattle.exact.proofs.Computing.{computing}
use Rattle.exact.proofs.FractionLaws.{≈_refl, ≈_sym, ≈_trans, *_cong, ≤_refl, ≤_trans, lit_≤}
use Rattle.exact.proofs.FractionProver.{qv, ##, ◌÷◌, ◌⊞◌, ◌⊠◌, ⊝, req, linq, ◌⊑◌by◌}
use Rattle.exact.proofs.AbsoluteValue.{abs_nonneg, abs_mono_≈}
use Rattle.exact.proofs.Closeness.{abs_*_le, abs_of_within, within_sym}
use Rattle.exact.proofs.Constants.{value_+1}
use Rattle.exact.proofs.Rounding.{value_neg}
use Rattle.exact.proofs.Sizes.{at_most_neg, constant_at_most}
use Rattle.exact.proofs.RelativeErrors.{Rel, rel_at_most, rel_scale, rel_⊗}

module _ {pol : Float} (P : (pol ≡ +1) ⊎ (pol ≡ neg +1)) where
  one_square : value +1 *q value +1 ≈q nat 1
  one_square = ≈_trans (*_cong value_+1 value_+1) (req [] (## 1 ⊠ ## 1) (## 1) tt tt)

  minus_square : value (neg +1) *q value (neg +1) ≈q nat 1
  minus_square = ≈_trans (*_cong (value_neg +1) (value_neg +1)) (≈_trans (req (value +1 ∷ []) (⊝ (qv 0) ⊠ ⊝ (qv 0)) (qv 0 ⊠ qv 0) tt tt) one_square)

  pub pol_square : value pol *q value pol ≈q nat 1
  pol_square = elim P [
    | inl e ↦ subst (λ (x : Float). value x *q value x ≈q nat 1) (sym e) one_square
    | inr e ↦ subst (λ (x : Float). value x *q value x ≈q nat 1) (sym e) minus_square
  ]

  pub pol_size : AtMost pol (pos 0)
  unfolding computing
  pol_size = elim P [
    | inl e ↦ subst (λ (x : Float). AtMost x (pos 0)) (sym e) (constant_at_most 0x3ff0_0000_0000_0000 (pos 0) tt)
    | inr e ↦ subst (λ (x : Float). AtMost x (pos 0)) (sym e) (at_most_neg (constant_at_most 0x3ff0_0000_0000_0000 (pos 0) tt))
  ]

  pub pol_≤_1 : absq (value pol) ≤q nat 1
  unfolding computing
  pol_≤_1 = ≤_trans pol_size.size (lit_≤ tt)

  pub pol_given : Rel pol (value pol) (nat 1) (nat 1) (nat 0) (nat 0)
  pol_given = rel_scale (rel_at_most pol_size) (≤_refl (nat 0)) pol_≤_1 (≤_refl (nat 1))

  -- ---- a flipped node voltage
  module _ {x : Float} (X : AtMost x (pos 11)) where
    pub flipped_near : Rel (pol ⊗ x) (value pol *q value x) (nat 1 *q absq (value x)) (nat (2 ^ 11)) (1 // 2 ^ 53) (1 // 2 ^ 1075)
    unfolding computing
    flipped_near = rel_⊗ pol_given (rel_at_most X) (nat (2 ^ 11)) (1 // 2 ^ 53) (1 // 2 ^ 1075) tt

    unflipped_≤ : absq (value x) ≤q nat 1 *q absq (value pol *q value x)
    unflipped_≤ =
        ≤_trans (abs_mono_≈ (≈_sym (≈_trans (req (value pol ∷ value x ∷ []) (qv 0 ⊠ (qv 0 ⊠ qv 1)) (qv 0 ⊠ qv 0 ⊠ qv 1) tt tt) (≈_trans (*_cong pol_square (≈_refl (value x))) (req (value x ∷ []) (## 1 ⊠ qv 0) (qv 0) tt tt)))))
        (abs_*_le (value pol) (value pol *q value x) pol_≤_1 (≤_refl (absq (value pol *q value x))))

    -- |x| ≤ 2 |pol ⊗ x| but for underflow
    pub node_size_lem : absq (value x) ≤q nat 2 *q absq (value (pol ⊗ x)) +q nat 2 *q (1 // 2 ^ 1075)
    node_size_lem =
        linq (absq (value x) ∷ absq (value pol *q value x) ∷ absq (value (pol ⊗ x)) ∷ (1 // 2 ^ 1075) ∷ [])
        ((qv 0 ⊑ ## 1 ⊠ qv 1 by 2 ^ 54) ∷ (qv 1 ⊑ qv 2 ⊞ (1 ÷ 2 ^ 53 ⊠ (## 1 ⊠ qv 0) ⊞ qv 3) by 2 ^ 54) ∷ (## 0 ⊑ qv 0 by 2 ^ 53 - 2) ∷ [])
        (2 ^ 53 - 1)
        (qv 0)
        (## 2 ⊠ qv 2 ⊞ ## 2 ⊠ qv 3)
        tt
        unflipped_≤
        (abs_of_within (within_sym flipped_near.est.close) (≤_refl (absq (value (pol ⊗ x)))))
        (abs_nonneg (value x))
