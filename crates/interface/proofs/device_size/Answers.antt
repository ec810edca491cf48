use mathlib.Core.Path.{refl}
use Rattle.interface.proofs.device_size.Goals as goal

pub returns : goal.returns
returns c = refl
