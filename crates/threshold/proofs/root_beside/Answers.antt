use mathlib.Core.Path.{◌≡◌, sym, ap, ◌∙◌, subst}
use lib.Dec.{T}
use lib.Ieee.{Float, binary64, fits, of_bits, to_bits}
use lib.Ieee.Bits.{of_bits-to_bits}
use Rattle.exact.proofs.PositivePatterns.{above_no_nan}
use Rattle.elementary.specs.Functions.{sqrt_of}
use Rattle.threshold.proofs.root_beside.Goals as goal

-- two numbers with one pattern are one
by_pattern : (x y : Float) → T (fits binary64 x) → T (fits binary64 y) → to_bits binary64 x ≡ to_bits binary64 y → y ≡ x
by_pattern x y f g e = sym (of_bits-to_bits binary64 y g) ∙ ap (of_bits binary64) (sym e) ∙ of_bits-to_bits binary64 x f

pub float_to_bits-x : goal.float_to_bits-x
unfolding of_bits
float_to_bits-x c = above_no_nan c.args.x c.if-x.true

pub float_to_bits-y : goal.float_to_bits-y
unfolding of_bits
float_to_bits-y c = above_no_nan c.args.y c.if-y.true

pub returns-then-x-y : goal.returns-then-x-y
returns-then-x-y c =
    c.requires ∙ ap sqrt_of (by_pattern c.args.x c.args.y (subst T (sym c.well_formed.0.1) tt) (subst T (sym c.well_formed.1.0.1) tt) c.if-x-y.true)

pub returns-else-x : goal.returns-else-x
returns-else-x c = c.sqrt.ensures
