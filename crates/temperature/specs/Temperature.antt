-- How device parameters move with temperature: the formulas of temperature.rs in its order of operations, one rounding each.
-- T below stands for t, TNOM for tnom; both are in kelvin.
use Rattle.std.specs.Prelude.{Bool, ◌||◌, cond, Float}
use Rattle.std.specs.Float.Ieee.{neg}
use Rattle.exact.specs.Float64.{◌⊕◌, ◌⊖◌, ◌⊗◌, ◌⊘◌, ◌≤f◌, ◌=f◌, +0, +1, maximum}
use Rattle.elementary.specs.Functions.{sqrt_of, exp_of, ln_of, pow_of}
use Rattle.temperature.specs.Constants.{ice, boltz, charge, reftemp_k, gap0, gap_slope, gap_offset, gap_ref, cap_slope, half, 3/2, two, +27}
use Rattle.temperature.specs.declared.Celsius.{Celsius}
use Rattle.temperature.specs.declared.Kelvin.{Kelvin}

-- kelvin from degrees Celsius, the one place where these become those: the sum with 273.15, rounded
abbrev pub kelvin_of : Celsius → Kelvin
kelvin_of c = record { 0 = c.0 ⊕ ice }

-- a card's nominal temperature where it gives none, 27 °C
abbrev pub tnom_default : Celsius
tnom_default = record { 0 = +27 }

-- silicon's bandgap in eV: 1.16 - 7.02e-4 T² / (T + 1108)
unfoldable pub bandgap_ev_of : Kelvin → Float
bandgap_ev_of t = gap0 ⊖ gap_slope ⊗ t.0 ⊗ t.0 ⊘ (t.0 ⊕ gap_offset)

-- the thermal voltage: T BOLTZ / CHARGE
unfoldable pub vt_of : Kelvin → Float
vt_of t = t.0 ⊗ boltz ⊘ charge

-- the early return where a temperature is not above 0 (a NaN goes on)
abbrev pub unless_above0 : Kelvin → Kelvin → Float → Float → Float
unless_above0 t tnom early r = cond ((t.0 ≤f +0) || (tnom.0 ≤f +0)) early r

-- Eg(TNOM) / vt(TNOM) - Eg(T) / vt(T)
unfoldable pub is_exponent_of : Kelvin → Kelvin → Float
is_exponent_of t tnom = bandgap_ev_of tnom ⊘ vt_of tnom ⊖ bandgap_ev_of t ⊘ vt_of t

-- the factor of a bulk junction's saturation current: exp(Eg(TNOM) / vt(TNOM) - Eg(T) / vt(T))
unfoldable pub mos_junction_is_factor_of : Kelvin → Kelvin → Float
mos_junction_is_factor_of t tnom = unless_above0 t tnom +1 (exp_of (is_exponent_of t tnom))

-- -Eg(T) / (2 BOLTZ T) + 1.1150877 / (BOLTZ 2 REFTEMP_K)
unfoldable pub pbfact_arg_of : Kelvin → Float
pbfact_arg_of t = neg (bandgap_ev_of t) ⊘ (two ⊗ boltz ⊗ t.0) ⊕ gap_ref ⊘ (boltz ⊗ two ⊗ reftemp_k)

-- the built-in potential's temperature term: -2 vt (1.5 ln(T / REFTEMP_K) + CHARGE arg)
unfoldable pub pbfact_of : Kelvin → Float
pbfact_of t = neg two ⊗ vt_of t ⊗ (3/2 ⊗ ln_of (t.0 ⊘ reftemp_k) ⊕ charge ⊗ pbfact_arg_of t)

-- the factor of KP: (T / TNOM) ^ -1.5
unfoldable pub mobility_factor_of : Kelvin → Kelvin → Float
mobility_factor_of t tnom = unless_above0 t tnom +1 (pow_of (t.0 ⊘ tnom.0) (neg 3/2))

-- the part of a potential that does not move with temperature: (PHI - pbfact(TNOM)) / (TNOM / REFTEMP_K)
unfoldable pub phio_of : Float → Kelvin → Float
phio_of phi tnom = (phi ⊖ pbfact_of tnom) ⊘ (tnom.0 ⊘ reftemp_k)

-- the surface potential: T / REFTEMP_K phio + pbfact(T)
unfoldable pub scaled_phi_of : Float → Kelvin → Kelvin → Float
scaled_phi_of phi t tnom = unless_above0 t tnom phi (t.0 ⊘ reftemp_k ⊗ phio_of phi tnom ⊕ pbfact_of t)

-- a junction's built-in potential moves by the same law
abbrev pub scaled_junction_potential_of : Float → Kelvin → Kelvin → Float
scaled_junction_potential_of vj t tnom = scaled_phi_of vj t tnom

-- 1 + M (4e-4 (T - REFTEMP_K) - (VJ - pbo) / pbo), at TNOM with the nominal VJ and at T with VJ(T)
unfoldable pub cap_term_of : Float → Float → Float → Kelvin → Float
cap_term_of vj m pbo t = +1 ⊕ m ⊗ (cap_slope ⊗ (t.0 ⊖ reftemp_k) ⊖ (vj ⊖ pbo) ⊘ pbo)

-- the factor of a zero-bias junction capacitance: the term at T by the term at TNOM; 1 where pbo or the divisor is 0
unfoldable pub junction_cap_factor_of : Float → Float → Kelvin → Kelvin → Float
junction_cap_factor_of vj m t tnom =
    let pbo = phio_of vj tnom in
    let denom = cap_term_of vj m pbo tnom in
    cond ((t.0 ≤f +0) || (tnom.0 ≤f +0) || (vj ≤f +0)) +1 (cond (pbo =f +0) +1 (cond (denom =f +0) +1 (cap_term_of (scaled_junction_potential_of vj t tnom) m pbo t ⊘ denom)))

-- TYPE: -1 for PMOS, 1 for NMOS
abbrev pub type_of : Bool → Float
type_of is_pmos = cond is_pmos (neg +1) +1

-- TYPE GAMMA √PHI, with PHI at least 0
unfoldable pub body_term_of : Float → Float → Float → Float
body_term_of ty gamma phi = ty ⊗ gamma ⊗ sqrt_of (maximum phi +0)

-- the threshold: VTO - TYPE GAMMA √PHI + ½ (Eg(TNOM) - Eg(T)) + TYPE ½ (PHI(T) - PHI) + TYPE GAMMA √PHI(T)
unfoldable pub scaled_vto_of : Float → Float → Float → Float → Kelvin → Kelvin → Bool → Float
scaled_vto_of vto gamma phi phi_t t tnom is_pmos =
    let ty = type_of is_pmos in
    vto ⊖ body_term_of ty gamma phi ⊕ half ⊗ (bandgap_ev_of tnom ⊖ bandgap_ev_of t) ⊕ ty ⊗ half ⊗ (phi_t ⊖ phi) ⊕ body_term_of ty gamma phi_t
