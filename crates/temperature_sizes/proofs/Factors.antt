-- The factors of the saturation current and of the mobility, from 200 to 500 K.
use Prim.Native.Nat.{◌^◌}
use mathlib.Core.Path.{sym, subst}
use lib.Ieee.{Float, binary64}
use lib.Ieee.Fits.{sub-fits, div-fits}
use Rattle.exact.specs.Fraction.{◌//◌, nat}
use Rattle.temperature.specs.Temperature.{mos_junction_is_factor_of, is_exponent_of, mobility_factor_of}
use Rattle.temperature.specs.declared.Kelvin.{Kelvin}
use Rattle.exact.specs.Size.{Range}
use Rattle.exact.proofs.Computing.{computing}
use Rattle.temperature_sizes.proofs.Intervals.{in_⊘}
use Rattle.temperature_sizes.proofs.Bandgap.{Ordinary, is_exponent_range}
use Rattle.temperature_sizes.proofs.Potentials.{both_above_0}
use Rattle.temperature_sizes.proofs.Elementary.{exp_range, pow_range}

module _ {t tnom : Kelvin} (K : Ordinary t) (N : Ordinary tnom) where
  -- from 2 ^ -68 to 2 ^ 68, so above 0
  pub is_factor_range : Range (mos_junction_is_factor_of t tnom) (1 // 2 ^ 68) (nat (2 ^ 68))
  unfolding mos_junction_is_factor_of is_exponent_of computing
  is_factor_range =
      subst (λ (r : Float). Range r (1 // 2 ^ 68) (nat (2 ^ 68))) (sym (both_above_0 _ _ K N))
      (exp_range (sub-fits binary64 _ _) (is_exponent_range K N))

  -- from 1/4 to 4
  pub mobility_factor_range : Range (mobility_factor_of t tnom) (1 // 4) (nat 4)
  unfolding mobility_factor_of computing
  mobility_factor_range =
      subst (λ (r : Float). Range r (1 // 4) (nat 4)) (sym (both_above_0 _ _ K N)) (pow_range (div-fits binary64 _ _) (in_⊘ (399 // 1000) (2501 // 1000) K.range N.range tt))
