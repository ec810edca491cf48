use mathlib.Core.Path.{refl}
use Rattle.charges.specs.Charges.{grading_of}
use Rattle.charges.proofs.grading.Goals as goal

pub returns : goal.returns
unfolding grading_of
returns c = refl
