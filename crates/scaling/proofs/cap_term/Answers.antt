use Rattle.temperature.specs.Temperature.{cap_term_of}
use Rattle.scaling.proofs.cap_term.Goals as goal
use mathlib.Core.Path.{refl}

pub returns : goal.returns
unfolding cap_term_of
returns c = refl
