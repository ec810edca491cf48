-- The elementary functions by the names that the layers above use: each is the definition of the crate that holds it.
use Rattle.std.specs.Prelude.{Float}

-- √x, correctly rounded
abbrev pub sqrt_of : Float → Float
sqrt_of x = Rattle.square_root.specs.SquareRoot.sqrt_of x

-- e^x
abbrev pub exp_of : Float → Float
exp_of x = Rattle.exponential.specs.Exponential.exp_of x

-- ln x
abbrev pub ln_of : Float → Float
ln_of x = Rattle.logarithm.specs.Logarithm.ln_of x

-- ln(1 + a)
abbrev pub ln1p_of : Float → Float
ln1p_of a = Rattle.logarithm.specs.Logarithm.ln1p_of a

-- b^p
abbrev pub pow_of : Float → Float → Float
pow_of b p = Rattle.power.specs.Power.pow_of b p
