use Rattle.reactive.specs.Charge.{euler_conductance_of}
use Rattle.reactive.proofs.euler_conductance.Goals as goal

pub returns : goal.returns
unfolding euler_conductance_of
returns c = rw c.max-v.ensures
