-- A junction's stamp is the stamp at its exponential.
-- Assumes nothing.
use mathlib.Core.Path.{◌≡◌, ap}
use lib.Ieee.{Float}
use Rattle.exact.specs.Float64.{◌⊗◌}
use Rattle.junction.specs.Junction.{junction_exponential_of}
use Rattle.junction.proofs.OverExponential.{over_exponential}
use Rattle.bias.specs.Bias.{stamp_from_of, junction_stamp_of, junction_stamp_at_of}

pub stamp_over_exponential : (isat pol v vt gmin : Float) → junction_stamp_of isat pol v vt gmin ≡ junction_stamp_at_of isat (junction_exponential_of isat (pol ⊗ v) vt) pol v vt gmin
unfolding junction_stamp_of junction_stamp_at_of
stamp_over_exponential isat pol v vt gmin = ap (stamp_from_of pol (pol ⊗ v)) (over_exponential isat (pol ⊗ v) vt gmin)
