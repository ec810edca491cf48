use mathlib.Core.Path.{refl}
use Rattle.stamps.specs.Stamps.{residual_of}
use Rattle.stamps.proofs.residual_values.Goals as goal

pub returns : goal.returns
unfolding residual_of
returns c = refl
