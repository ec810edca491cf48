-- The bases and the exponents of the depletion law's powers.
use Prim.Native.Nat.{◌^◌}
use mathlib.Core.List.{[], ◌∷◌}
use lib.Dec.{T}
use lib.Ieee.{Float, binary64, neg}
use Rattle.exact.specs.Fraction.{◌//◌, nat, negq, ◌*q◌, absq, ◌≤q◌, ◌<q◌}
use Rattle.exact.specs.FloatValue.{value, tiny, err}
use Rattle.exact.specs.Float64.{◌⊕◌, ◌⊖◌, ◌⊗◌, ◌⊘◌, ◌<f◌, +1}
use Rattle.exact.specs.Size.{Range}
use Rattle.exact.proofs.AbsoluteValue.{abs_of_upto, not_zero_of_pos}
use Rattle.exact.proofs.Closeness.{*_mono₂}
use Rattle.exact.proofs.Comparisons.{lt→≤}
use Rattle.exact.proofs.Computing.{computing}
use Rattle.exact.proofs.FractionDivision.{div_≤, ≤_div}
use Rattle.exact.proofs.FractionLaws.{≤_refl, ≤_trans, ≤_of_≈, *_comm, *_mono, +_mono, lit_≤}
use Rattle.exact.proofs.FractionProver.{qv, ##, ◌÷◌, ◌⊟◌, ◌⊠◌, ⊝, linq, ◌⊑◌by◌}
use Rattle.exact.proofs.Ranges.{rounded_range, range_⊕, range_⊖, range_⊗_nonneg, range_neg}
use Rattle.exact.proofs.Representable.{representable}
use Rattle.exact.proofs.Rounding.{mul_near, div_rounded_q, frac_nonneg}
use Rattle.exact.proofs.StrictOrder.{≤_of_<, <_≤_trans, *_nonneg, lit_<}
use Rattle.temperature_sizes.proofs.Potentials.{one_range}
use Rattle.depletion_sizes.specs.DepletionSizes.{Coefficient, Potential, GradingExponent, NodeDifference, Base}

-- ---- exponents
pub minus_m_range : {m : Float} → GradingExponent m → Range (neg m) (negq (91 // 100)) (negq (nat 0))
minus_m_range M = range_neg M

pub one_plus_m_range : {m : Float} → GradingExponent m → Range (+1 ⊕ m) (nat 1) (nat 2)
unfolding computing
one_plus_m_range M = range_⊕ one_range M (representable tt) (representable tt) (lit_≤ tt) (lit_≤ tt)

pub one_minus_m_range : {m : Float} → GradingExponent m → Range (+1 ⊖ m) (5 // 64) (nat 1)
unfolding computing
one_minus_m_range M = range_⊖ one_range M (representable tt) (representable tt) (lit_≤ tt) (lit_≤ tt)

-- ---- 1 - fc
pub one_minus_fc_base : {fc : Float} → Coefficient fc → Base (+1 ⊖ fc)
unfolding computing
one_minus_fc_base F = range_⊖ one_range F (representable tt) (representable tt) (lit_≤ tt) (lit_≤ tt)

-- ---- fc pb
module _ {fc pb : Float} (F : Coefficient fc) (P : Potential pb) where
  pub corner_range : Range (fc ⊗ pb) (nat 0) (nat 32)
  unfolding computing
  corner_range = range_⊗_nonneg F P (representable tt) (representable tt) (lit_≤ tt) (lit_≤ tt) (lit_≤ tt) (lit_≤ tt)

  pb_positive : nat 0 <q value pb
  unfolding computing
  pb_positive = <_≤_trans (lit_< tt) P.above

  -- the rounded product is below 61/64 pb
  error_small : err binary64 (value fc *q value pb) ≤q 1 // 2 ^ 20
  unfolding computing
  error_small =
      let z = value fc *q value pb in
      let size : absq z ≤q nat 32 = abs_of_upto (*_nonneg F.above (≤_of_< pb_positive)) (≤_trans (*_mono₂ F.above (≤_of_< pb_positive) F.below P.below) (lit_≤ tt)) in
      ≤_trans (+_mono (*_mono (frac_nonneg 1 (2 ^ 53)) size) (≤_refl (tiny binary64))) (lit_≤ tt)

  corner_below : value (fc ⊗ pb) ≤q 61 // 64 *q value pb
  corner_below =
      let z = value fc *q value pb in
      let product : z ≤q (951 // 1000) *q value pb = ≤_trans (≤_of_≈ (*_comm (value fc) (value pb))) (≤_trans (*_mono (≤_of_< pb_positive) F.below) (≤_of_≈ (*_comm (value pb) (951 // 1000)))) in
      linq (value (fc ⊗ pb) ∷ z ∷ value pb ∷ err binary64 z ∷ []) ((qv 0 ⊟ qv 1 ⊑ qv 3 by 8000) ∷ (qv 3 ⊑ 1 ÷ 2 ^ 20 by 8000) ∷ (qv 1 ⊑ 951 ÷ 1000 ⊠ qv 2 by 8000) ∷ (49 ÷ 1000 ⊑ qv 2 by 17) ∷ []) 7999 (qv 0) (61 ÷ 64 ⊠ qv 2) tt
      (mul_near binary64 fc pb F.fin P.fin corner_range.fin).above error_small product P.above

  -- ---- 1 - v / pb for a v below fc pb
  module _ {v : Float} (U : NodeDifference v) (below : T (v <f fc ⊗ pb)) where
    quotient_range : Range (v ⊘ pb) (negq (nat 65535)) (61 // 64)
    unfolding computing
    quotient_range =
        rounded_range (div_rounded_q binary64 v pb U.fin P.fin (not_zero_of_pos pb_positive)) (representable tt) (representable tt)
        (≤_div pb_positive (linq (value v ∷ value pb ∷ []) ((⊝ (## 2000) ⊑ qv 0 by 1) ∷ (49 ÷ 1000 ⊑ qv 1 by 65535) ∷ []) 0 (⊝ (## 65535) ⊠ qv 1) (qv 0) tt U.above P.above))
        (div_≤ pb_positive (≤_trans (lt→≤ v (fc ⊗ pb) U.fin corner_range.fin below) corner_below))

    pub below_base : Base (+1 ⊖ v ⊘ pb)
    unfolding computing
    below_base = range_⊖ one_range quotient_range (representable tt) (representable tt) (lit_≤ tt) (lit_≤ tt)
