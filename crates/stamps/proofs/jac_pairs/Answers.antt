use mathlib.Core.Path.{refl}
use Rattle.stamps.specs.Stamps.{jac_pairs_of}
use Rattle.stamps.proofs.jac_pairs.Goals as goal

pub returns : goal.returns
unfolding jac_pairs_of
returns c = refl
