use Rattle.temperature.proofs.tnom_default.Goals as goal
use mathlib.Core.Path.{refl}

pub returns : goal.returns
returns c = refl
