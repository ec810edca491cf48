-- One name under which the elementary functions compute on literals.
use mathlib.Core.Bool.{Bool, true}
use Rattle.square_root.specs.SquareRoot as root
use Rattle.exponential.specs.Exponential as exponential
use Rattle.logarithm.specs.Logarithm as logarithm
use Rattle.power.specs.Power as power

unfoldable pub functions : Bool
unfolding root.sqrt_of exponential.exp_of logarithm.ln_of logarithm.ln1p_of power.raised_of power.pow_of
functions = true
