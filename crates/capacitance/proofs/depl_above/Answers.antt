use mathlib.Core.Path.{refl}
use Rattle.capacitance.proofs.depl_above.Goals as goal

pub returns : goal.returns
returns c = (refl, rw c.charge-q.ensures)
