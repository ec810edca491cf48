-- The sizes and signs of the temperature functions' results, by powers of two, for temperatures from 200 to 500 K and nominal values in their ranges.
use mathlib.Core.Bool.{Bool}
use lib.Dec.{T}
use lib.IntN.{pos}
use lib.Ieee.{Float, binary64, fits}
use Rattle.exact.specs.Fraction.{◌//◌, nat, negq}
use Rattle.exact.specs.Size.{Range, AtMost, AtLeast, Positive, minus}
use Rattle.exact.proofs.FractionLaws.{lit_≤}
use Rattle.exact.proofs.StrictOrder.{lit_<}
use Rattle.exact.proofs.Computing.{computing}
use Rattle.exact.proofs.Ranges.{range_at_most, range_at_least, range_positive}
use Rattle.temperature.specs.declared.Kelvin.{Kelvin}
use Rattle.temperature.specs.Temperature.{bandgap_ev_of, mos_junction_is_factor_of, pbfact_of, mobility_factor_of, scaled_phi_of, junction_cap_factor_of, scaled_vto_of}
use Rattle.temperature_sizes.proofs.Bandgap.{Ordinary, bandgap_range}
use Rattle.temperature_sizes.proofs.Potentials.{Nominal, pbfact_range, scaled_phi_range}
use Rattle.temperature_sizes.proofs.Factors.{is_factor_range, mobility_factor_range}
use Rattle.temperature_sizes.proofs.CapFactor.{cap_factor_range}
use Rattle.temperature_sizes.proofs.Threshold.{scaled_vto_range}

module _ {t : Kelvin} (K : Ordinary t) where
  pub bandgap_positive : Positive (bandgap_ev_of t)
  unfolding computing
  bandgap_positive = range_positive (bandgap_range K) (lit_< tt)

  pub bandgap_at_most : AtMost (bandgap_ev_of t) (pos 1)
  unfolding computing
  bandgap_at_most = range_at_most (bandgap_range K) (pos 1) (lit_≤ tt) (lit_≤ tt)

  pub pbfact_at_most : AtMost (pbfact_of t) (pos 1)
  unfolding computing
  pbfact_at_most = range_at_most (pbfact_range K) (pos 1) (lit_≤ tt) (lit_≤ tt)

  module _ {tnom : Kelvin} (N : Ordinary tnom) where
    pub is_factor_positive : Positive (mos_junction_is_factor_of t tnom)
    unfolding computing
    is_factor_positive = range_positive (is_factor_range K N) (lit_< tt)

    pub is_factor_at_most : AtMost (mos_junction_is_factor_of t tnom) (pos 68)
    unfolding computing
    is_factor_at_most = range_at_most (is_factor_range K N) (pos 68) (lit_≤ tt) (lit_≤ tt)

    pub is_factor_at_least : AtLeast (mos_junction_is_factor_of t tnom) (minus 68)
    unfolding computing
    is_factor_at_least = range_at_least (is_factor_range K N) (minus 68) (lit_≤ tt)

    pub mobility_factor_positive : Positive (mobility_factor_of t tnom)
    unfolding computing
    mobility_factor_positive = range_positive (mobility_factor_range K N) (lit_< tt)

    pub mobility_factor_at_most : AtMost (mobility_factor_of t tnom) (pos 2)
    unfolding computing
    mobility_factor_at_most = range_at_most (mobility_factor_range K N) (pos 2) (lit_≤ tt) (lit_≤ tt)

    pub mobility_factor_at_least : AtLeast (mobility_factor_of t tnom) (minus 2)
    unfolding computing
    mobility_factor_at_least = range_at_least (mobility_factor_range K N) (minus 2) (lit_≤ tt)

    -- phi and pb
    pub scaled_potential_at_most : {phi : Float} → Nominal phi → AtMost (scaled_phi_of phi t tnom) (pos 5)
    unfolding computing
    scaled_potential_at_most P = range_at_most (scaled_phi_range P N K) (pos 5) (lit_≤ tt) (lit_≤ tt)

    -- finite though it has a pole
    pub cap_factor_at_most : {vj m : Float} → T (fits binary64 vj) → Nominal vj → Range m (nat 0) (91 // 100) → AtMost (junction_cap_factor_of vj m t tnom) (pos 120)
    unfolding computing
    cap_factor_at_most f P M = range_at_most (cap_factor_range f P M K N) (pos 120) (lit_≤ tt) (lit_≤ tt)

    pub scaled_vto_at_most : (is_pmos : Bool) {vto gamma phi phi_t : Float} → Range vto (negq (nat 100)) (nat 100) → Range gamma (nat 0) (nat 100) → T (fits binary64 phi) → Nominal phi → T (fits binary64 phi_t) → Range phi_t (nat 0) (nat 32) → AtMost (scaled_vto_of vto gamma phi phi_t t tnom is_pmos) (pos 10)
    unfolding computing
    scaled_vto_at_most is_pmos U G f P g Q = range_at_most (scaled_vto_range is_pmos U G f P g Q K N) (pos 10) (lit_≤ tt) (lit_≤ tt)
