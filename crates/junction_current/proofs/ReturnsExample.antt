-- The premises can be met: a junction of 1e-14 A at 1 V and 300 K, with gmin 1e-12 S. It breaks if the theorem stops applying.
use mathlib.Core.Path.{refl}
use mathlib.Core.Logic.{inl}
use mathlib.Core.List.{[], ◌∷◌}
use lib.IntN.{pos}
use lib.Ieee.{Float, binary64, of_bits}
use Rattle.exact.specs.Fraction.{nat}
use Rattle.exact.specs.FloatValue.{value}
use Rattle.exact.specs.Float64.{+1}
use Rattle.exact.specs.Size.{Range}
use Rattle.exact.proofs.FractionLaws.{≤_trans, lit_≤}
use Rattle.exact.proofs.FractionProver.{qv, ##, ◌÷◌, ◌⊠◌, linq, ◌⊑◌by◌}
use Rattle.exact.proofs.AbsoluteValue.{abs_mono_≈}
use Rattle.exact.proofs.Constants.{value_+1, constant_fits}
use Rattle.exact.proofs.Representable.{one_mul_exact}
use Rattle.exact.proofs.Sizes.{constant_at_most}
use Rattle.exact.proofs.Computing.{computing}
use Rattle.temperature.specs.declared.Kelvin.{Kelvin}
use Rattle.junction.specs.Junction.{thermal_voltage_of}
use Rattle.junction_current.specs.JunctionCurrent.{junction_at, offset_at, JunctionSizes, WithinThermalVoltages, JunctionReturns}
use Rattle.junction_current.proofs.ThermalVoltage.{thermal_voltage_range}
use Rattle.junction_current.proofs.Returns.{junction_returns}

-- 1e-14, 300, 1e-12
abbrev isat : Float
isat = of_bits binary64 0x3d06_849b_86a1_2b9b

abbrev t : Kelvin
t = record { 0 = of_bits binary64 0x4072_c000_0000_0000 }

abbrev gmin : Float
gmin = of_bits binary64 0x3d71_9799_812d_ea11

room : Range t.0 (nat 200) (nat 500)
unfolding computing
room = record { fin = tt; above = lit_≤ tt; below = lit_≤ tt }

sizes : JunctionSizes isat +1 +1 t gmin
unfolding computing
sizes = record {
  isat_sign = record { fin = tt; sign = lit_≤ tt };
  isat_size = constant_at_most 0x3d06_849b_86a1_2b9b (pos 89) tt;
  polarity = inl refl;
  v0_size = constant_at_most 0x3ff0_0000_0000_0000 (pos 11) tt;
  t_range = room;
  gmin_range = record { fin = tt; above = lit_≤ tt; below = lit_≤ tt };
}

-- 1 ≤ 500 * 17 / 1024
within : WithinThermalVoltages +1 +1 t
unfolding computing
within = record {
  size =
      ≤_trans (abs_mono_≈ (one_mul_exact binary64 +1 +1 tt (constant_fits 0x3ff0_0000_0000_0000) tt value_+1).1)
      (≤_trans (lit_≤ {y = nat 1} tt) (linq (value (thermal_voltage_of t) ∷ []) ((17 ÷ 1024 ⊑ qv 0 by 500) ∷ []) 0 (## 1) (## 500 ⊠ qv 0) tt (thermal_voltage_range t room).above));
}

example : JunctionReturns (junction_at isat +1 +1 t gmin).g (offset_at isat +1 +1 t gmin) isat +1 +1 t gmin
example = junction_returns sizes within
