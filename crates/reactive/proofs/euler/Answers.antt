use mathlib.Core.Path.{refl}
use Rattle.reactive.specs.Charge.{euler_of}
use Rattle.reactive.proofs.euler.Goals as goal

pub returns : goal.returns
unfolding euler_of
returns c = refl
