use mathlib.Core.Path.{refl}
use Rattle.capacitance.proofs.charge.Goals as goal

pub returns : goal.returns
returns c = refl
