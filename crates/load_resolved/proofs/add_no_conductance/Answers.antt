use Rattle.std.proofs.Common.{false}
use native.Mathlib.Omega.{arith}
use Rattle.load_resolved.proofs.NoConductance.{four_zeros, three_zeros, marked_pair}
use Rattle.load_resolved.proofs.add_no_conductance.Goals as goal
-- `load_resolved::add_no_conductance`: two additions of -0 that change nothing, and two of 0, of which the second may.
use mathlib.Core.Path.{◌∙◌}

pub returns-then-first-last : goal.returns-then-first-last
returns-then-first-last c = c.add_zero-then-first-last.ensures.0 ∙ four_zeros _ _ _ _ _ _ _ _ c.add_zero.ensures.0 c.keep.ensures.0 c.keep.ensures.1 c.keep-2.ensures.0 c.keep-2.ensures.1 ∙ marked_pair _ _ _ _ _ _ _ _ _ _ _ _ c.place_between-first.ensures c.place_between.ensures c.place_between-2.ensures c.place_between-last.ensures (omega arith)

pub returns-else-first-last : goal.returns-else-first-last
returns-else-first-last c = three_zeros _ _ _ _ _ _ _ _ c.add_zero.ensures.0 c.keep.ensures.0 c.keep.ensures.1 c.keep-2.ensures.0 c.keep-2.ensures.1 c.if-first-last.false c.add_zero.ensures.1 ∙ marked_pair _ _ _ _ _ _ _ _ _ _ _ _ c.place_between-first.ensures c.place_between.ensures c.place_between-2.ensures c.place_between-last.ensures (omega arith)
