use lib.Ieee.{Float, binary64, fits, of_bits}
use lib.Ieee.Bits.{of_bits-to_bits}
use Rattle.exact.proofs.PositivePatterns.{no_nan, above_no_nan, bits_above}
use Rattle.square_root.specs.SquareRoot.{sqrt_of}
use Rattle.square_root.proofs.Cases.{infinite, is_zero, otherwise}
use Rattle.square_root.proofs.sqrt.Goals as goal
-- `square_root::sqrt` meets its contract.
use Rattle.std.proofs.Common.{◌≡◌, true, T, sym, ap, ◌∙◌, subst}

-- what owning an `f64` tells: the format holds it
held : (x : Float) → fits binary64 x ≡ true → T (fits binary64 x)
held x e = subst T (sym e) tt

pub float_to_bits-x : goal.float_to_bits-x
unfolding of_bits
float_to_bits-x c = above_no_nan c.args.x c.if-x.true

pub positive_root-requires : goal.positive_root-requires
unfolding of_bits
positive_root-requires c = bits_above c.args.x (held _ c.well_formed.0.1) c.if-x.true c.if-x-2.true

pub float_from_bits-result : goal.float_from_bits-result
float_from_bits-result c = no_nan _ c.positive_root.ensures.1

pub returns-then-x-2 : goal.returns-then-x-2
returns-then-x-2 c = c.positive_root.ensures.0 ∙ ap sqrt_of (of_bits-to_bits binary64 c.args.x (held _ c.well_formed.0.1))

pub returns-then-x : goal.returns-then-x
unfolding of_bits
returns-then-x c = infinite c.args.x c.if-x.true c.if-x-2.false

pub returns-then-x-3 : goal.returns-then-x-3
unfolding of_bits
returns-then-x-3 c = is_zero c.args.x c.if-x-3.true

pub returns : goal.returns
unfolding of_bits
returns c = otherwise c.args.x c.if-x.false c.if-x-3.false
