-- The gate's capacitances are from 0 to 4 F and its charges at most 2 ^ 14 C in size.
use lib.IntN.{pos}
use lib.Ieee.{Float}
use Rattle.exact.specs.Fraction.{nat, negq}
use Rattle.exact.specs.Float64.{◌⊕◌, ◌⊗◌, ◌⊘◌, +0}
use Rattle.exact.specs.Size.{Range, AtMost, NonNegative}
use Rattle.exact.proofs.Computing.{computing}
use Rattle.exact.proofs.FractionLaws.{lit_≤}
use Rattle.exact.proofs.Ranges.{range_⊕, range_⊗, range_⊗_nonneg, range_⊘, range_at_most, range_non_negative}
use Rattle.exact.proofs.Representable.{representable}
use Rattle.exact.proofs.StrictOrder.{lit_<}
use Rattle.temperature_sizes.proofs.Intervals.{constant_in}
use Rattle.float.specs.Constants.{half, two, three}
use Rattle.capacitance.specs.Meyer.{meyer_of}
use Rattle.channel.specs.declared.Region.{Region}
use Rattle.channel.specs.declared.Region.TheVariants.{Cutoff, Triode, Saturation}
use Rattle.depletion_sizes.specs.DepletionSizes.{NodeDifference}
use Rattle.evaluation_sizes.specs.EvaluationSizes.{GateCapacitance, EvaluatedGate, SharesSizes}

nothing : GateCapacitance +0
unfolding computing
nothing = constant_in 0 (nat 0) (nat 2) tt

-- a factor from 0 to 1 of the channel's capacitance
share : {k cox : Float} → Range k (nat 0) (nat 1) → GateCapacitance cox → GateCapacitance (k ⊗ cox)
unfolding computing
share K C = range_⊗_nonneg K C (representable tt) (representable tt) (lit_≤ tt) (lit_≤ tt) (lit_≤ tt) (lit_≤ tt)

half_range : Range half (nat 0) (nat 1)
unfolding computing
half_range = constant_in 0x3fe0_0000_0000_0000 (nat 0) (nat 1) tt

two_thirds : Range (two ⊘ three) (nat 0) (nat 1)
unfolding computing
two_thirds =
    range_⊘ (constant_in 0x4000_0000_0000_0000 (nat 2) (nat 2) tt) (constant_in 0x4008_0000_0000_0000 (nat 3) (nat 3) tt) (representable tt) (representable tt) (lit_< tt) (lit_≤ tt) (lit_≤ tt) (lit_≤ tt) (lit_≤ tt)

-- ---- Meyer's shares, in any region
pub meyer_sizes : (r : Region) {cox : Float} → GateCapacitance cox → SharesSizes (meyer_of r cox)
unfolding meyer_of
meyer_sizes Cutoff C = record { gs = nothing; gd = nothing; gb = C }
meyer_sizes Triode C = record { gs = share half_range C; gd = share half_range C; gb = nothing }
meyer_sizes Saturation C = record { gs = share two_thirds C; gd = nothing; gb = nothing }

-- ---- overlap and share; times a voltage between two nodes
pub gate_capacitance_range : {overlap s : Float} → GateCapacitance overlap → GateCapacitance s → EvaluatedGate (overlap ⊕ s)
unfolding computing
gate_capacitance_range O S = range_⊕ O S (representable tt) (representable tt) (lit_≤ tt) (lit_≤ tt)

pub gate_charge_at_most : {c v : Float} → EvaluatedGate c → NodeDifference v → AtMost (c ⊗ v) (pos 14)
unfolding computing
gate_charge_at_most C D =
    range_at_most (range_⊗ {lo = negq (nat 8000)} {hi = nat 8000} C D (representable tt) (representable tt) (lit_≤ tt) (lit_≤ tt) (lit_≤ tt) (lit_≤ tt) (lit_≤ tt) (lit_≤ tt) (lit_≤ tt) (lit_≤ tt)) (pos 14) (lit_≤ tt) (lit_≤ tt)

pub gate_non_negative : {c : Float} → EvaluatedGate c → NonNegative c
unfolding computing
gate_non_negative C = range_non_negative C (lit_≤ tt)

pub gate_at_most : {c : Float} → EvaluatedGate c → AtMost c (pos 2)
unfolding computing
gate_at_most C = range_at_most C (pos 2) (lit_≤ tt) (lit_≤ tt)
