-- The constants of temperature.rs.
use Rattle.std.specs.Prelude.{Float}
use Rattle.std.specs.Float.{binary64}
use Rattle.std.specs.Float.Ieee.{of_bits}

-- 273.15, degrees Celsius to kelvin
abbrev pub ice : Float
ice = of_bits binary64 0x4071_1266_6666_6666

-- BOLTZ, 1.3806226e-23 J/K: SPICE3's Boltzmann constant, not device.rs's
abbrev pub boltz : Float
boltz = of_bits binary64 0x3b30_b0d1_ead0_0599

-- CHARGE, 1.6021918e-19 C: SPICE3's electron charge
abbrev pub charge : Float
charge = of_bits binary64 0x3c07_a4e8_d3f7_8991

-- REFTEMP_K, 300.15 K: the reference of the fits
abbrev pub reftemp_k : Float
reftemp_k = of_bits binary64 0x4072_c266_6666_6666

-- 27, in degrees Celsius: TNOM_DEFAULT_K, 300.15 K, less 273.15 is exactly this
abbrev pub +27 : Float
+27 = of_bits binary64 0x403b_0000_0000_0000

-- the bandgap fit's 1.16 eV, 7.02e-4 eV/K and 1108 K
abbrev pub gap0 : Float
gap0 = of_bits binary64 0x3ff2_8f5c_28f5_c28f

abbrev pub gap_slope : Float
gap_slope = of_bits binary64 0x3f47_00cd_8559_70b5

abbrev pub gap_offset : Float
gap_offset = of_bits binary64 0x4091_5000_0000_0000

-- 1.1150877 eV, the fits' bandgap at REFTEMP_K
abbrev pub gap_ref : Float
gap_ref = of_bits binary64 0x3ff1_d766_333a_bfef

-- 4e-4 1/K, the junction capacitance's temperature coefficient
abbrev pub cap_slope : Float
cap_slope = of_bits binary64 0x3f3a_36e2_eb1c_432d

-- 0.5, 1.5, 2
abbrev pub half : Float
half = of_bits binary64 0x3fe0_0000_0000_0000

abbrev pub 3/2 : Float
3/2 = of_bits binary64 0x3ff8_0000_0000_0000

abbrev pub two : Float
two = of_bits binary64 0x4000_0000_0000_0000
