-- The limiter keeps the channel's voltages below 2 ^ 11 in size however often it is applied: a cut step goes from the predecessor towards the new
-- voltage by at most 13 V, and a new voltage is at most 2000 V in size.
use Prim.Native.Nat.{◌^◌}
use mathlib.Core.Path.{sym, subst}
use mathlib.Core.Bool.{◌&&◌}
use mathlib.Core.List.{[], ◌∷◌}
use mathlib.Core.Logic.{inl, inr}
use lib.Dec.{T, lit≤}
use lib.IntN.{pos}
use lib.Ieee.{Float, binary64}
use lib.Ieee.Fits.{sub-fits}
use Rattle.exact.specs.Fraction.{◌//◌, nat, negq, ◌≤q◌, ◌<q◌}
use Rattle.exact.specs.FloatValue.{value}
use Rattle.exact.specs.Float64.{◌⊕◌, ◌⊖◌, ◌⊗◌, ◌<f◌, ◌>f◌, +0, +1, -1, absolute}
use Rattle.exact.specs.Size.{Range, AtMost, minus}
use Rattle.exact.proofs.Computing.{computing}
use Rattle.exact.proofs.FractionLaws.{≈_sym, ≤_of_≈, ≤_trans, lit_≤}
use Rattle.exact.proofs.FractionProver.{qv, ##, ◌⊟◌, ◌⊞◌, ⊝, linq, ◌⊑◌by◌}
use Rattle.exact.proofs.StrictOrder.{≤_or_≤, ≤_of_<, <_≤_trans, ≤_<_trans, not_≤_of_<, lit_<}
use Rattle.exact.proofs.AbsoluteValue.{abs_of_nonneg, abs_of_nonpos}
use Rattle.exact.proofs.Comparisons.{≤→le, lt→<}
use Rattle.exact.proofs.Constants.{value_+0, value_+1}
use Rattle.exact.proofs.FloatFunctions.{value_absolute, signum_of_pos, signum_of_neg}
use Rattle.exact.proofs.NatProver.{and_r}
use Rattle.exact.proofs.Ranges.{range_⊕, range_⊖, range_⊗, range_absolute, range_at_most, at_most_range}
use Rattle.exact.proofs.Representable.{representable}
use Rattle.exact.proofs.Rounding.{sub_rounded}
use Rattle.exact.proofs.RoundingOrder.{rounded_nonneg, rounded_nonpos}
use Rattle.exact.proofs.Sizes.{at_most_⊗, at_most_weaken, constant_at_most}
use Rattle.exact.proofs.Tests.{holds}
use Rattle.temperature_sizes.proofs.Intervals.{constant_in}
use Rattle.temperature_sizes.proofs.Potentials.{one_range}
use Rattle.elementary.proofs.Laws.{ln_1p_accurate, ln_1p_at_least, ln_1p_at_most_k}
use Rattle.elementary.specs.Functions.{ln1p_of}
use Rattle.depletion_sizes.specs.DepletionSizes.{NodeDifference}
use Rattle.depletion_sizes.proofs.Branches.{by_test}
use Rattle.float.specs.Constants.{vds_floor}
use Rattle.threshold.specs.Limiter.{cut_step_of, limited_vgs_of, limited_vds_of}

pub difference_at_most : {v : Float} → NodeDifference v → AtMost v (pos 11)
unfolding computing
difference_at_most X = range_at_most X (pos 11) (lit_≤ tt) (lit_≤ tt)

-- ---- a step of more than 1 V is cut to one from 0 to 13 V
module _ {d : Float} (D : Range d (negq (nat 4096)) (nat 4096)) (far : T (absolute d >f +1)) where
  size_above : nat 1 ≤q value (absolute d)
  unfolding computing
  size_above = ≤_trans (≤_of_≈ (≈_sym value_+1)) (≤_of_< (lt→< +1 (absolute d) tt (range_absolute (nat 4096) D (lit_≤ tt) (lit_≤ tt)).fin far))

  beyond : Range (absolute d ⊖ +1) (nat 0) (nat 4095)
  unfolding computing
  beyond =
      let a = range_absolute (nat 4096) D (lit_≤ tt) (lit_≤ tt) in
      let s : Range (absolute d) (nat 1) (nat 4096) = record { fin = a.fin; above = size_above; below = a.below } in
      range_⊖ s one_range (representable tt) (representable tt) (lit_≤ tt) (lit_≤ tt)

  cut_range : Range (+1 ⊕ ln1p_of (absolute d ⊖ +1)) (nat 0) (nat 13)
  unfolding computing
  cut_range =
      let a = absolute d ⊖ +1 in
      let f = sub-fits binary64 (absolute d) +1 in
      let t = beyond.fin in
      let h = ≤→le +0 a tt t (≤_trans (≤_of_≈ value_+0) beyond.above) in
      let top = linq (value a ∷ []) ((qv 0 ⊑ ## 4095 by 1) ∷ []) 0 (## 1 ⊞ qv 0) (## 4096) tt beyond.below in
      let log : Range (ln1p_of a) (negq (1 // 2 ^ 42)) (nat 12) = record { fin = (ln_1p_accurate a f t h).is_finite; above = ln_1p_at_least a f t h; below = ln_1p_at_most_k a f t h 12 (lit≤ tt) (lit≤ tt) top } in
      range_⊕ one_range log (representable tt) (representable tt) (lit_≤ tt) (lit_≤ tt)

-- ---- from the predecessor towards the new voltage
module _ {vgs prev : Float} (G : NodeDifference vgs) (P : AtMost prev (pos 11)) where
  step_range : Range (vgs ⊖ prev) (negq (nat 4096)) (nat 4096)
  unfolding computing
  step_range = range_⊖ G (at_most_range P) (representable tt) (representable tt) (lit_≤ tt) (lit_≤ tt)

  module _ (far : T (absolute (vgs ⊖ prev) >f +1)) where
    abbrev step : Float
    step = vgs ⊖ prev

    abbrev cut : Float
    cut = +1 ⊕ ln1p_of (absolute step ⊖ +1)

    upwards : nat 0 ≤q value step → Range (cut_step_of prev step) (negq (nat 2048)) (nat 2048)
    unfolding cut_step_of computing
    upwards h =
        let above : nat 0 <q value step = <_≤_trans (lit_< tt) (≤_trans (size_above step_range far) (≤_trans (≤_of_≈ (value_absolute step)) (≤_of_≈ (abs_of_nonneg h)))) in
        let less : value prev ≤q value vgs = elim (≤_or_≤ (value prev) (value vgs)) [
          | inl l ↦ l
          | inr l ↦ absurd (not_≤_of_< above (rounded_nonpos (sub_rounded binary64 vgs prev G.fin P.fin) step_range.fin (linq (value vgs ∷ value prev ∷ []) ((qv 0 ⊑ qv 1 by 1) ∷ []) 0 (qv 0 ⊟ qv 1) (## 0) tt l)))
        ] in
        let start : Range prev (negq (nat 2048)) (nat 2000) = record { fin = P.fin; above = ≤_trans (lit_≤ tt) (at_most_range P).above; below = ≤_trans less G.below } in
        let move : Range (+1 ⊗ cut) (nat 0) (nat 13) = range_⊗ one_range (cut_range step_range far) (representable tt) (representable tt) (lit_≤ tt) (lit_≤ tt) (lit_≤ tt) (lit_≤ tt) (lit_≤ tt) (lit_≤ tt) (lit_≤ tt) (lit_≤ tt) in
        subst (λ (s : Float). Range (prev ⊕ s ⊗ cut) (negq (nat 2048)) (nat 2048)) (sym (signum_of_pos step step_range.fin above))
        (range_⊕ start move (representable tt) (representable tt) (lit_≤ tt) (lit_≤ tt))

    downwards : value step ≤q nat 0 → Range (cut_step_of prev step) (negq (nat 2048)) (nat 2048)
    unfolding cut_step_of computing
    downwards h =
        let size = ≤_trans (size_above step_range far) (≤_trans (≤_of_≈ (value_absolute step)) (≤_of_≈ (abs_of_nonpos h))) in
        let below : value step <q nat 0 = ≤_<_trans (linq (value step ∷ []) ((## 1 ⊑ ⊝ (qv 0) by 1) ∷ []) 0 (qv 0) (⊝ (## 1)) tt size) (lit_< tt) in
        let more : value vgs ≤q value prev = elim (≤_or_≤ (value vgs) (value prev)) [
          | inl l ↦ l
          | inr l ↦ absurd (not_≤_of_< below (rounded_nonneg (sub_rounded binary64 vgs prev G.fin P.fin) step_range.fin (linq (value vgs ∷ value prev ∷ []) ((qv 1 ⊑ qv 0 by 1) ∷ []) 0 (## 0) (qv 0 ⊟ qv 1) tt l)))
        ] in
        let start : Range prev (negq (nat 2000)) (nat 2048) = record { fin = P.fin; above = ≤_trans G.above more; below = ≤_trans (at_most_range P).below (lit_≤ tt) } in
        let minus_one = constant_in 0xbff0_0000_0000_0000 (negq (nat 1)) (negq (nat 1)) tt in
        let move : Range (-1 ⊗ cut) (negq (nat 13)) (nat 0) = range_⊗ minus_one (cut_range step_range far) (representable tt) (representable tt) (lit_≤ tt) (lit_≤ tt) (lit_≤ tt) (lit_≤ tt) (lit_≤ tt) (lit_≤ tt) (lit_≤ tt) (lit_≤ tt) in
        subst (λ (s : Float). Range (prev ⊕ s ⊗ cut) (negq (nat 2048)) (nat 2048)) (sym (signum_of_neg step step_range.fin below))
        (range_⊕ start move (representable tt) (representable tt) (lit_≤ tt) (lit_≤ tt))

    cut_step_range : Range (cut_step_of prev step) (negq (nat 2048)) (nat 2048)
    cut_step_range = elim (≤_or_≤ (nat 0) (value step)) [ inl h ↦ upwards h | inr h ↦ downwards h ]

  pub limited_vgs_at_most : (vto : Float) → AtMost (limited_vgs_of vto vgs prev) (pos 11)
  unfolding limited_vgs_of computing
  limited_vgs_at_most vto =
      by_test (λ (z : Float). AtMost z (pos 11)) ((vgs >f vto) && (absolute (vgs ⊖ prev) >f +1))
      (λ e. range_at_most (cut_step_range (and_r (vgs >f vto) (absolute (vgs ⊖ prev) >f +1) (holds e))) (pos 11) (lit_≤ tt) (lit_≤ tt))
      (λ _. difference_at_most G)

pub limited_vds_at_most : {vds prev : Float} → NodeDifference vds → AtMost prev (pos 11) → AtMost (limited_vds_of vds prev) (pos 11)
unfolding limited_vds_of computing
limited_vds_at_most {vds} {prev} D P =
    by_test (λ (z : Float). AtMost z (pos 11)) ((absolute prev >f vds_floor) && (prev ⊗ vds <f +0))
    (λ _. at_most_weaken (at_most_⊗ (constant_at_most 0x3fb9_9999_9999_999a (minus 3) tt) P tt) (pos 11) tt)
    (λ _. difference_at_most D)
