use mathlib.Core.Path.{refl}
use Rattle.interface.proofs.version.Goals as goal

pub returns : goal.returns
returns c = refl
