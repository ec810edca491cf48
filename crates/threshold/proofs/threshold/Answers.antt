use Rattle.threshold.specs.Threshold.{threshold_of}
use Rattle.threshold.proofs.threshold.Goals as goal

pub root_beside-without-requires : goal.root_beside-without-requires
root_beside-without-requires c = c.sqrt-with_bias.ensures

pub returns : goal.returns
unfolding threshold_of
returns c = rw (c.root_beside-without.ensures, c.sqrt-with_bias.ensures)
