-- The constants of the model.
use Rattle.std.specs.Prelude.{Float}
use Rattle.std.specs.Float.{binary64}
use Rattle.std.specs.Float.Ieee.{of_bits}

-- device.rs's Boltzmann constant and electron charge, 1.380649e-23 J/K and 1.602176634e-19 C; temperature.rs has others
abbrev pub k_boltzmann : Float
k_boltzmann = of_bits binary64 0x3b30_b0e6_d55e_647c

abbrev pub q_electron : Float
q_electron = of_bits binary64 0x3c07_a4da_290c_1653

-- 0.1, 0.5, 2, 3, 8
abbrev pub tenth : Float
tenth = of_bits binary64 0x3fb9_9999_9999_999a

abbrev pub half : Float
half = of_bits binary64 0x3fe0_0000_0000_0000

abbrev pub two : Float
two = of_bits binary64 0x4000_0000_0000_0000

abbrev pub three : Float
three = of_bits binary64 0x4008_0000_0000_0000

abbrev pub eight : Float
eight = of_bits binary64 0x4020_0000_0000_0000

-- 1e-6 V: the limiter leaves a vds of a smaller predecessor alone
abbrev pub vds_floor : Float
vds_floor = of_bits binary64 0x3eb0_c6f7_a0b5_ed8d

-- 1e-10 V, the least phi - vbs
abbrev pub potential_floor : Float
potential_floor = of_bits binary64 0x3ddb_7cdf_d9d7_bdbb

-- 1e-30 F, the least capacitance of `conductance`
abbrev pub capacitance_floor : Float
capacitance_floor = of_bits binary64 0x39b4_484b_feeb_c2a0

-- 1e-18 S: a smaller gm has no thermal noise
abbrev pub gm_floor : Float
gm_floor = of_bits binary64 0x3c32_725d_d1d2_43ac
