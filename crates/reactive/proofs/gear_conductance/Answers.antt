use Rattle.reactive.specs.Charge.{gear_conductance_of}
use Rattle.reactive.proofs.gear_conductance.Goals as goal

pub returns : goal.returns
unfolding gear_conductance_of
returns c = rw c.max-v.ensures
