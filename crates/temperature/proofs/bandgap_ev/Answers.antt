use Rattle.temperature.specs.Temperature.{bandgap_ev_of}
use Rattle.temperature.proofs.bandgap_ev.Goals as goal
use mathlib.Core.Path.{refl}

pub returns : goal.returns
unfolding bandgap_ev_of
returns c = refl
