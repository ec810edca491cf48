use Rattle.capacitance.specs.Meyer.{meyer_of}
use Rattle.capacitance.proofs.meyer.Goals as goal

pub returns-in-Cutoff : goal.returns-in-Cutoff
unfolding meyer_of
returns-in-Cutoff c = rw c.in-Cutoff.is

pub returns-in-Triode : goal.returns-in-Triode
unfolding meyer_of
returns-in-Triode c = rw c.in-Triode.is

pub returns-in-Saturation : goal.returns-in-Saturation
unfolding meyer_of
returns-in-Saturation c = rw c.in-Saturation.is
