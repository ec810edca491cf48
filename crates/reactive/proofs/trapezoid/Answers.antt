use mathlib.Core.Path.{refl}
use Rattle.reactive.specs.Charge.{trapezoid_of}
use Rattle.reactive.proofs.trapezoid.Goals as goal

pub returns : goal.returns
unfolding trapezoid_of
returns c = refl
