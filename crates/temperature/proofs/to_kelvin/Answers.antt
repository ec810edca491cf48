use Rattle.temperature.proofs.to_kelvin.Goals as goal
use mathlib.Core.Path.{refl}

pub returns : goal.returns
returns c = refl
