-- The channel after Shichman and Hodges: the current and its slopes in each region, with beta = kp W/L, vdsat = vgs - vth and the
-- channel-length modulation 1 + lambda vds. Voltages and current are flipped by polarity.
use Rattle.std.specs.Prelude.{cond, Float}
use Rattle.std.specs.Float.Ieee.{neg}
use Rattle.exact.specs.Float64.{◌⊕◌, ◌⊖◌, ◌⊗◌, ◌<f◌, +0, +1}
use Rattle.float.specs.Constants.{half}
use Rattle.channel.specs.declared.Region.{Region}
use Rattle.channel.specs.declared.Region.TheVariants.{Cutoff, Triode, Saturation}
use Rattle.channel.specs.declared.Channel.{Channel}

-- vgs < vth is cutoff, so equality conducts; vds < vdsat is triode, for a negative vds too, and equality is saturation
unfoldable pub region_of : Float → Float → Float → Float → Region
region_of vgs vth vds vdsat = cond (vgs <f vth) Cutoff (cond (vds <f vdsat) Triode Saturation)

unfoldable pub modulation_of : Float → Float → Float
modulation_of lambda vds = +1 ⊕ lambda ⊗ vds

-- vdsat vds - vds² / 2
unfoldable pub triode_charge_of : Float → Float → Float
triode_charge_of vdsat vds = vdsat ⊗ vds ⊖ half ⊗ vds ⊗ vds

-- a slope by vbs from the one by vgs: -gm dvth/dvbs
unfoldable pub body_transconductance_of : Float → Float → Float
body_transconductance_of gm slope = neg gm ⊗ slope

-- ids = beta (vdsat vds - vds² / 2) (1 + lambda vds)
unfoldable pub triode_of : Float → Float → Float → Float → Float → Channel
triode_of beta vdsat vds lambda slope = record {
  ids = beta ⊗ triode_charge_of vdsat vds ⊗ modulation_of lambda vds;
  gm = beta ⊗ vds ⊗ modulation_of lambda vds;
  gds = beta ⊗ (vdsat ⊖ vds) ⊗ modulation_of lambda vds ⊕ beta ⊗ triode_charge_of vdsat vds ⊗ lambda;
  gmbs = body_transconductance_of (beta ⊗ vds ⊗ modulation_of lambda vds) slope;
}

-- ids = beta / 2 vdsat² (1 + lambda vds)
unfoldable pub saturation_of : Float → Float → Float → Float → Float → Channel
saturation_of beta vdsat vds lambda slope = record {
  ids = half ⊗ beta ⊗ vdsat ⊗ vdsat ⊗ modulation_of lambda vds;
  gm = beta ⊗ vdsat ⊗ modulation_of lambda vds;
  gds = half ⊗ beta ⊗ vdsat ⊗ vdsat ⊗ lambda;
  gmbs = body_transconductance_of (beta ⊗ vdsat ⊗ modulation_of lambda vds) slope;
}

unfoldable pub cutoff_of : Channel
cutoff_of = record { ids = +0; gm = +0; gds = +0; gmbs = +0 }

unfoldable pub in_region_of : Region → Float → Float → Float → Float → Float → Channel
in_region_of Cutoff beta vdsat vds lambda slope = cutoff_of
in_region_of Triode beta vdsat vds lambda slope = triode_of beta vdsat vds lambda slope
in_region_of Saturation beta vdsat vds lambda slope = saturation_of beta vdsat vds lambda slope

-- `slope` is dvth/dvbs
unfoldable pub shichman_hodges_of : Float → Float → Float → Float → Float → Float → Channel
shichman_hodges_of beta vgs vds vth lambda slope = in_region_of (region_of vgs vth vds (vgs ⊖ vth)) beta (vgs ⊖ vth) vds lambda slope

-- jeq = ids - gm vgs - gds vds - gmbs vbs, from left to right
unfoldable pub norton_current_of : Float → Float → Float → Float → Float → Float → Float → Float
norton_current_of ids gm vgs gds vds gmbs vbs = ids ⊖ gm ⊗ vgs ⊖ gds ⊗ vds ⊖ gmbs ⊗ vbs
