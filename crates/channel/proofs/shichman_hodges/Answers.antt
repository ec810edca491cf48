use mathlib.Core.Path.{◌≡◌}
use mathlib.Core.Bool.{true, false}
use lib.Ieee.{Float}
use Rattle.exact.specs.Float64.{◌⊖◌, ◌<f◌}
use Rattle.channel.specs.Channel.{shichman_hodges_of, in_region_of, region_of, cutoff_of, triode_of, saturation_of}
use Rattle.channel.specs.declared.Channel.{Channel}
use Rattle.channel.proofs.shichman_hodges.Goals as goal

-- the definition by its tests
module _ (beta vgs vds vth lambda slope : Float) where
  cutoff : (vgs <f vth) ≡ true → cutoff_of ≡ shichman_hodges_of beta vgs vds vth lambda slope
  unfolding shichman_hodges_of in_region_of region_of
  cutoff h = rw h

  in_triode : (vgs <f vth) ≡ false → (vds <f vgs ⊖ vth) ≡ true → {r : Channel} → r ≡ triode_of beta (vgs ⊖ vth) vds lambda slope → r ≡ shichman_hodges_of beta vgs vds vth lambda slope
  unfolding shichman_hodges_of in_region_of region_of
  in_triode h k e = rw (h, k) e

  saturated : (vgs <f vth) ≡ false → (vds <f vgs ⊖ vth) ≡ false → {r : Channel} → r ≡ saturation_of beta (vgs ⊖ vth) vds lambda slope → r ≡ shichman_hodges_of beta vgs vds vth lambda slope
  unfolding shichman_hodges_of in_region_of region_of
  saturated h k e = rw (h, k) e

pub returns-then-vth-vgs : goal.returns-then-vth-vgs
unfolding cutoff_of
returns-then-vth-vgs c = let a = c.args in cutoff a.beta a.vgs a.vds a.vth a.lambda a.slope c.if-vth-vgs.true

pub returns-then-vdsat-vds : goal.returns-then-vdsat-vds
returns-then-vdsat-vds c =
    let a = c.args in
    in_triode a.beta a.vgs a.vds a.vth a.lambda a.slope c.if-vth-vgs.false c.if-vdsat-vds.true c.triode.ensures

pub returns : goal.returns
returns c =
    let a = c.args in
    saturated a.beta a.vgs a.vds a.vth a.lambda a.slope c.if-vth-vgs.false c.if-vdsat-vds.false c.saturation.ensures
