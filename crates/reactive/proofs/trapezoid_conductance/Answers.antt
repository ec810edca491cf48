use Rattle.reactive.specs.Charge.{trapezoid_conductance_of}
use Rattle.reactive.proofs.trapezoid_conductance.Goals as goal

pub returns : goal.returns
unfolding trapezoid_conductance_of
returns c = rw c.max-v.ensures
