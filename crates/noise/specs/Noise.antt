-- The channel's noise densities.
use Rattle.std.specs.Prelude.{◌&&◌, cond, Float}
use Rattle.exact.specs.Float64.{◌⊗◌, ◌⊘◌, ◌<f◌, ◌>f◌, +0, absolute}
use Rattle.elementary.specs.Functions.{pow_of}
use Rattle.temperature.specs.declared.Kelvin.{Kelvin}
use Rattle.float.specs.Constants.{k_boltzmann, three, eight, gm_floor}

-- 8/3 k T |gm|, with 8/3 rounded first
unfoldable pub thermal_noise_of : Float → Kelvin → Float
thermal_noise_of gm t = cond (absolute gm <f gm_floor) +0 (eight ⊘ three ⊗ k_boltzmann ⊗ t.0 ⊗ absolute gm)

-- kf |ids| ^ af / (f W L COX); none at a frequency that is not above 0, or NaN
unfoldable pub flicker_noise_of : Float → Float → Float → Float → Float → Float
flicker_noise_of kf af ids freq norm = cond ((kf >f +0) && (freq >f +0)) (kf ⊗ pow_of (absolute ids) af ⊘ (freq ⊗ norm)) +0
