use Rattle.threshold.specs.Threshold.{body_potential_of}
use Rattle.threshold.proofs.body_potential.Goals as goal

pub returns : goal.returns
unfolding body_potential_of
returns c = rw c.max.ensures
