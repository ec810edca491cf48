use Rattle.std.proofs.Common.{length, min}
use Rattle.replay.specs.Lists.{items}
use Rattle.replay.specs.Items.{offset_in, length_in}
use Rattle.replay.proofs.script_lists.Filling.{Going}
use Rattle.replay.proofs.script_lists.pairs.Given as goal

abbrev pub invariant-loop-n : goal.invariant-loop-n
invariant-loop-n l =
    Going offset_in (min (length l.initial.offsets) (length l.initial.lengths)) (items l.fn.w) l.initial.offsets (items l.rest) l.n l.offsets
    × Going length_in (min (length l.initial.offsets) (length l.initial.lengths)) (items l.fn.w) l.initial.lengths (items l.rest) l.n l.lengths
