use Rattle.bias.specs.Bias.{operating_point_of}
use Rattle.bias.proofs.operating_point.Goals as goal

pub returns : goal.returns
unfolding operating_point_of
returns c = rw c.norton_current-jeq.ensures
