-- The depletion capacitance is at most 2 ^ 160 in size and the charge at most 2 ^ 170, for zero-bias capacitances of at most 2 ^ 131 (of either sign: a
-- capacitance's temperature factor has a pole).
use lib.Dec.{T}
use lib.IntN.{pos}
use lib.Ieee.{Float, binary64, neg, fits}
use lib.Ieee.Fits.{neg-fits, add-fits, sub-fits}
use Rattle.exact.specs.Fraction.{◌//◌, nat, negq}
use Rattle.exact.specs.Float64.{◌⊕◌, ◌⊖◌, ◌⊗◌, ◌⊘◌, ◌<f◌, ◌=f◌, +0, +1}
use Rattle.exact.specs.Size.{Range, AtMost, AtLeast, minus}
use Rattle.exact.proofs.Computing.{computing}
use Rattle.exact.proofs.FractionLaws.{lit_≤}
use Rattle.exact.proofs.Ranges.{range_⊕, range_⊖, range_⊗, range_⊗_nonneg, range_⊘, range_at_most, range_at_least}
use Rattle.exact.proofs.Representable.{representable}
use Rattle.exact.proofs.Sizes.{at_most_⊕, at_most_⊖, at_most_⊗, at_most_⊘, at_most_weaken, constant_at_most}
use Rattle.exact.proofs.StrictOrder.{lit_<}
use Rattle.exact.proofs.Tests.{holds}
use Rattle.temperature_sizes.proofs.Intervals.{constant_in}
use Rattle.temperature_sizes.proofs.Potentials.{one_range}
use Rattle.elementary.specs.Functions.{pow_of}
use Rattle.float.specs.Constants.{two}
use Rattle.capacitance.specs.Depletion.{cj_below_of, cj_above_of, cj_depl_mOf, q_below_of, q_above_of, q_depl_mOf, cj_depl_of, q_depl_of}
use Rattle.capacitance.specs.declared.Grading.{Grading}
use Rattle.depletion_sizes.specs.DepletionSizes.{Coefficient, Potential, GradingExponent, NodeDifference, Base, GradingSizes}
use Rattle.depletion_sizes.proofs.Branches.{by_test}
use Rattle.depletion_sizes.proofs.Powers.{power_range}
use Rattle.depletion_sizes.proofs.Bases.{minus_m_range, one_plus_m_range, one_minus_m_range, one_minus_fc_base, corner_range, below_base}

module _ {pb c0 m : Float} (P : Potential pb) (C : AtMost c0 (pos 131)) (M : GradingExponent m) where
  pb_at_least : AtLeast pb (minus 5)
  unfolding computing
  pb_at_least = range_at_least P (minus 5) (lit_≤ tt)

  -- c0 x ^ -m
  pub cj_below_at_most : {x : Float} → T (fits binary64 m) → Base x → T (fits binary64 x) → AtMost (c0 ⊗ pow_of x (neg m)) (pos 137)
  unfolding computing
  cj_below_at_most g X f = at_most_⊗ C (range_at_most (power_range 16 5 f X (neg-fits binary64 m g) (minus_m_range M) tt) (pos 6) (lit_≤ tt) (lit_≤ tt)) tt

  -- c0 pb / (1 - m) (1 - x ^ (1 - m))
  pub q_below_at_most : {x : Float} → Base x → T (fits binary64 x) → AtMost (q_below_of pb c0 x m) (pos 159)
  unfolding q_below_of computing
  q_below_at_most X f =
      let power = range_at_most (power_range 5 17 f X (sub-fits binary64 +1 m) (one_minus_m_range M) tt) (pos 18) (lit_≤ tt) (lit_≤ tt) in
      let factor = at_most_⊘ (at_most_⊗ C (range_at_most P (pos 5) (lit_≤ tt) (lit_≤ tt)) tt) (range_at_least (one_minus_m_range M) (minus 4) (lit_≤ tt)) tt in
      at_most_⊗ factor (at_most_⊖ (constant_at_most 0x3ff0_0000_0000_0000 (pos 0) tt) power tt) tt

  module _ {fc v : Float} (F : Coefficient fc) (U : NodeDifference v) where
    -- c0 / (1 - fc) ^ (1 + m): the power is at least 2 ^ -10
    slope_at_most : AtMost (c0 ⊘ pow_of (+1 ⊖ fc) (+1 ⊕ m)) (pos 141)
    unfolding computing
    slope_at_most =
        at_most_⊘ C (range_at_least (power_range 9 33 (sub-fits binary64 +1 fc) (one_minus_fc_base F) (add-fits binary64 +1 m) (one_plus_m_range M) tt) (minus 10) (lit_≤ tt)) tt

    -- 1 - fc (1 + m)
    intercept_range : Range (+1 ⊖ fc ⊗ (+1 ⊕ m)) (negq (nat 1)) (nat 1)
    unfolding computing
    intercept_range =
        range_⊖ one_range (range_⊗_nonneg {lo = nat 0} {hi = nat 2} F (one_plus_m_range M) (representable tt) (representable tt) (lit_≤ tt) (lit_≤ tt) (lit_≤ tt) (lit_≤ tt)) (representable tt) (representable tt) (lit_≤ tt) (lit_≤ tt)

    pub cj_above_at_most : AtMost (cj_above_of fc pb c0 v m) (pos 158)
    unfolding cj_above_of computing
    cj_above_at_most =
        let line = at_most_⊘ (at_most_⊗ (range_at_most M (pos 0) (lit_≤ tt) (lit_≤ tt)) (range_at_most U (pos 11) (lit_≤ tt) (lit_≤ tt)) tt) pb_at_least tt in
        at_most_⊗ slope_at_most (at_most_⊕ (range_at_most intercept_range (pos 0) (lit_≤ tt) (lit_≤ tt)) line tt) tt

    -- (1 - fc (1 + m)) (v - fc pb)
    linear_range : Range ((+1 ⊖ fc ⊗ (+1 ⊕ m)) ⊗ (v ⊖ fc ⊗ pb)) (negq (nat 2080)) (nat 2080)
    unfolding computing
    linear_range =
        let w = range_⊖ {lo = negq (nat 2080)} {hi = nat 2048} U (corner_range F P) (representable tt) (representable tt) (lit_≤ tt) (lit_≤ tt) in
        range_⊗ intercept_range w (representable tt) (representable tt) (lit_≤ tt) (lit_≤ tt) (lit_≤ tt) (lit_≤ tt) (lit_≤ tt) (lit_≤ tt) (lit_≤ tt) (lit_≤ tt)

    -- m / (2 pb) (v² - (fc pb)²)
    square_range : Range (m ⊘ (two ⊗ pb) ⊗ (v ⊗ v ⊖ fc ⊗ pb ⊗ (fc ⊗ pb))) (negq (nat 41953280)) (nat 41953280)
    unfolding computing
    square_range =
        let two_range = constant_in 0x4000_0000_0000_0000 (nat 2) (nat 2) tt in
        let double = range_⊗_nonneg {lo = 3 // 32} {hi = nat 64} two_range P (representable tt) (representable tt) (lit_≤ tt) (lit_≤ tt) (lit_≤ tt) (lit_≤ tt) in
        let ratio = range_⊘ {lo = nat 0} {hi = nat 10} M double (representable tt) (representable tt) (lit_< tt) (lit_≤ tt) (lit_≤ tt) (lit_≤ tt) (lit_≤ tt) in
        let vv = range_⊗ {lo = negq (nat 4194304)} {hi = nat 4194304} U U (representable tt) (representable tt) (lit_≤ tt) (lit_≤ tt) (lit_≤ tt) (lit_≤ tt) (lit_≤ tt) (lit_≤ tt) (lit_≤ tt) (lit_≤ tt) in
        let corner = corner_range F P in
        let corner_square = range_⊗_nonneg {lo = nat 0} {hi = nat 1024} corner corner (representable tt) (representable tt) (lit_≤ tt) (lit_≤ tt) (lit_≤ tt) (lit_≤ tt) in
        let d = range_⊖ {lo = negq (nat 4195328)} {hi = nat 4195328} vv corner_square (representable tt) (representable tt) (lit_≤ tt) (lit_≤ tt) in
        range_⊗ ratio d (representable tt) (representable tt) (lit_≤ tt) (lit_≤ tt) (lit_≤ tt) (lit_≤ tt) (lit_≤ tt) (lit_≤ tt) (lit_≤ tt) (lit_≤ tt)

    pub q_above_at_most : AtMost (q_above_of fc pb c0 v m) (pos 168)
    unfolding q_above_of computing
    q_above_at_most =
        let integral = range_⊕ {lo = negq (nat 67108864)} {hi = nat 67108864} linear_range square_range (representable tt) (representable tt) (lit_≤ tt) (lit_≤ tt) in
        at_most_⊕ (q_below_at_most (one_minus_fc_base F) (sub-fits binary64 +1 fc)) (at_most_⊗ slope_at_most (range_at_most integral (pos 26) (lit_≤ tt) (lit_≤ tt)) tt) tt

    -- ---- one grading coefficient
    pub cj_depl_m_at_most : T (fits binary64 m) → AtMost (cj_depl_mOf fc pb c0 v m) (pos 158)
    unfolding cj_depl_mOf cj_below_of computing
    cj_depl_m_at_most g =
        by_test (λ (z : Float). AtMost z (pos 158)) (c0 =f +0) (λ _. constant_at_most 0 (pos 158) tt)
        (λ _. by_test (λ (z : Float). AtMost z (pos 158)) (v <f fc ⊗ pb)
        (λ e. at_most_weaken (cj_below_at_most g (below_base F P U (holds e)) (sub-fits binary64 +1 (v ⊘ pb))) (pos 158) tt)
        (λ _. cj_above_at_most))

    pub q_depl_m_at_most : AtMost (q_depl_mOf fc pb c0 v m) (pos 168)
    unfolding q_depl_mOf computing
    q_depl_m_at_most =
        by_test (λ (z : Float). AtMost z (pos 168)) (c0 =f +0) (λ _. constant_at_most 0 (pos 168) tt)
        (λ _. by_test (λ (z : Float). AtMost z (pos 168)) (v <f fc ⊗ pb)
        (λ e. at_most_weaken (q_below_at_most (below_base F P U (holds e)) (sub-fits binary64 +1 (v ⊘ pb))) (pos 168) tt)
        (λ _. q_above_at_most))

-- ---- a whole junction: the bottom and the sidewall, at most 2 ^ 10 each before their temperature factors
module _ {g : Grading} (G : GradingSizes g) {bot sw v : Float} (B : AtMost bot (pos 10)) (S : AtMost sw (pos 10)) (U : NodeDifference v) where
  bottom : AtMost (bot ⊗ g.cj_t_factor) (pos 131)
  unfolding computing
  bottom = at_most_weaken (at_most_⊗ B G.cj_t_factor tt) (pos 131) tt

  sidewall : AtMost (sw ⊗ g.cjsw_t_factor) (pos 131)
  unfolding computing
  sidewall = at_most_weaken (at_most_⊗ S G.cjsw_t_factor tt) (pos 131) tt

  pub cj_depl_at_most : AtMost (cj_depl_of g bot sw v) (pos 160)
  unfolding cj_depl_of computing
  cj_depl_at_most =
      at_most_weaken
      (at_most_⊕ (cj_depl_m_at_most G.pb_t bottom G.mj G.fc U G.mj_fits) (cj_depl_m_at_most G.pb_t sidewall G.mjsw G.fc U G.mjsw_fits) tt) (pos 160) tt

  pub q_depl_at_most : AtMost (q_depl_of g bot sw v) (pos 170)
  unfolding q_depl_of computing
  q_depl_at_most =
      at_most_weaken (at_most_⊕ (q_depl_m_at_most G.pb_t bottom G.mj G.fc U) (q_depl_m_at_most G.pb_t sidewall G.mjsw G.fc U) tt) (pos 170) tt
