use mathlib.Core.Path.{refl}
use Rattle.reactive.specs.Charge.{gear_of, gear_at_of}
use Rattle.reactive.proofs.gear.Goals as goal

pub returns : goal.returns
unfolding gear_of gear_at_of
returns c = refl
