-- The format holds each result, whatever the temperatures.
use mathlib.Core.Bool.{Bool, ◌||◌}
use lib.Dec.{T}
use lib.Ieee.{Float, binary64, fits}
use lib.Ieee.Bits.{of_bits-fits}
use lib.Ieee.Fits.{add-fits, mul-fits, div-fits, cond-fits}
use Rattle.exact.specs.Float64.{◌≤f◌, ◌=f◌, +0, +1}
use Rattle.temperature.specs.declared.Kelvin.{Kelvin}
use Rattle.temperature.specs.Temperature.{pbfact_of, phio_of, scaled_phi_of, cap_term_of, junction_cap_factor_of, scaled_vto_of}

pub pbfact_fits : (t : Kelvin) → T (fits binary64 (pbfact_of t))
unfolding pbfact_of
pbfact_fits t = mul-fits binary64 _ _

pub scaled_phi_fits : (phi : Float) (t tnom : Kelvin) → T (fits binary64 phi) → T (fits binary64 (scaled_phi_of phi t tnom))
unfolding scaled_phi_of
scaled_phi_fits phi t tnom f = cond-fits binary64 ((t.0 ≤f +0) || (tnom.0 ≤f +0)) phi _ f (add-fits binary64 _ _)

pub scaled_vto_fits : (vto gamma phi phi_t : Float) (t tnom : Kelvin) (is_pmos : Bool) → T (fits binary64 (scaled_vto_of vto gamma phi phi_t t tnom is_pmos))
unfolding scaled_vto_of
scaled_vto_fits vto gamma phi phi_t t tnom is_pmos = add-fits binary64 _ _

pub cap_factor_fits : (vj m : Float) (t tnom : Kelvin) → T (fits binary64 (junction_cap_factor_of vj m t tnom))
unfolding junction_cap_factor_of
cap_factor_fits vj m t tnom =
    let one = of_bits-fits binary64 0x3ff0_0000_0000_0000 in
    cond-fits binary64 ((t.0 ≤f +0) || (tnom.0 ≤f +0) || (vj ≤f +0)) +1 _ one
    (cond-fits binary64 (phio_of vj tnom =f +0) +1 _ one
    (cond-fits binary64 (cap_term_of vj m (phio_of vj tnom) tnom =f +0) +1 _ one (div-fits binary64 _ _)))
