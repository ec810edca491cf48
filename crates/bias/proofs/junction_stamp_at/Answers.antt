use Rattle.bias.specs.Bias.{junction_stamp_at_of, stamp_from_of}
use Rattle.bias.proofs.junction_stamp_at.Goals as goal

pub returns : goal.returns
unfolding junction_stamp_at_of stamp_from_of
returns c = rw (c.junction_offset.ensures, c.junction_at-at.ensures)
