use mathlib.Core.Path.{refl}
use Rattle.junction.specs.Junction.{junction_offset_of}
use Rattle.junction.proofs.junction_offset.Goals as goal

pub returns : goal.returns
unfolding junction_offset_of
returns c = refl
