-- What `curve` makes of a line.
use Rattle.std.specs.Prelude.{ℕ, false, cond, List, [], ◌∷◌, eqb, length, get_or, Float, Option, Some, None}
use Rattle.std.specs.Float.{binary64}
use Rattle.std.specs.Float.Ieee.{of_bits}
use Rattle.hex_text.specs.Hex.{bits_at}
use Rattle.model.specs.Calls.{eval_of}
use Rattle.device.specs.Refusals.{Outcome, done, refused}
use Rattle.mosfet1.specs.declared.steps.Evaluated.{Evaluated}
use Rattle.device.specs.declared.OperatingPoint.{OperatingPoint}
use Rattle.channel_curve.specs.Reference.{the_device, the_conditions}

-- the operating point that an evaluation leaves; a refused one (row 9) is bad
unfoldable pub answered : Outcome Evaluated → Option OperatingPoint
answered (done e) = Some e.device.point
answered (refused n) = None

-- the reference device with its gate at vgs and its drain at vds
unfoldable pub point_at : Float → Float → Option OperatingPoint
point_at vgs vds = answered (eval_of the_device (vds ∷ vgs ∷ []) false the_conditions)

unfoldable pub both_read : Option ℕ → Option ℕ → Option OperatingPoint
both_read (Some g) (Some d) = point_at (of_bits binary64 g) (of_bits binary64 d)
both_read (Some g) None = None
both_read None d = None

-- sixteen digits, one space, sixteen digits; any other line is bad
unfoldable pub point_of : List ℕ → Option OperatingPoint
point_of line = cond (eqb (length line) 33) (cond (eqb (get_or line 16 0) 32) (both_read (bits_at line 0) (bits_at line 17)) None) None
