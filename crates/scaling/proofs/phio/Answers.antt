use Rattle.temperature.specs.Temperature.{phio_of}
use Rattle.scaling.proofs.phio.Goals as goal

pub returns : goal.returns
unfolding phio_of
returns c = rw c.pbfact.ensures
