-- The limiter (fetlim): how far a Newton step may carry the channel's voltages. All voltages are flipped by polarity.
use Rattle.std.specs.Prelude.{◌&&◌, cond, Float}
use Rattle.exact.specs.Float64.{◌⊕◌, ◌⊖◌, ◌⊗◌, ◌<f◌, ◌>f◌, +0, +1, absolute, signum}
use Rattle.elementary.specs.Functions.{ln1p_of}
use Rattle.float.specs.Constants.{tenth, vds_floor}

-- a step dvg from prev of more than 1 V becomes sign(dvg) (1 + ln(1 + (|dvg| - 1)))
unfoldable pub cut_step_of : Float → Float → Float
cut_step_of prev dvg = prev ⊕ signum dvg ⊗ (+1 ⊕ ln1p_of (absolute dvg ⊖ +1))

-- only above the zero-bias threshold vto: the body effect has no part in it
unfoldable pub limited_vgs_of : Float → Float → Float → Float
limited_vgs_of vto vgs prev = cond ((vgs >f vto) && (absolute (vgs ⊖ prev) >f +1)) (cut_step_of prev (vgs ⊖ prev)) vgs

-- a change of vds's sign, told by a rounded product, leaves a tenth of the previous value
unfoldable pub limited_vds_of : Float → Float → Float
limited_vds_of vds prev = cond ((absolute prev >f vds_floor) && (prev ⊗ vds <f +0)) (tenth ⊗ prev) vds
