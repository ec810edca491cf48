-- The threshold voltage with the body effect: vth = vto + gamma (√(phi - vbs) - √phi).
use Rattle.std.specs.Prelude.{cond, Float}
use Rattle.std.specs.Float.Ieee.{neg}
use Rattle.exact.specs.Float64.{◌⊕◌, ◌⊖◌, ◌⊗◌, ◌⊘◌, ◌>f◌, +0, maximum}
use Rattle.elementary.specs.Functions.{sqrt_of}
use Rattle.float.specs.Constants.{two, potential_floor}

-- phi - vbs, at least 1e-10
unfoldable pub body_potential_of : Float → Float → Float
body_potential_of phi vbs = maximum (phi ⊖ vbs) potential_floor

-- `body` is the potential above
unfoldable pub threshold_of : Float → Float → Float → Float → Float
threshold_of vto gamma phi body = vto ⊕ gamma ⊗ (sqrt_of body ⊖ sqrt_of phi)

-- dvth/dvbs = -gamma / (2 √(phi - vbs)); 0 without a body effect
unfoldable pub body_slope_of : Float → Float → Float
body_slope_of gamma body = cond (gamma >f +0) (neg gamma ⊘ (two ⊗ sqrt_of body)) +0
