use mathlib.Core.Path.{refl}
use Rattle.junction.specs.Junction.{thermal_voltage_of}
use Rattle.junction.proofs.vt.Goals as goal

pub returns : goal.returns
unfolding thermal_voltage_of
returns c = refl
