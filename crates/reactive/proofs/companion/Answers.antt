use Rattle.reactive.specs.Charge.{companion_of, history_of}
use Rattle.reactive.proofs.companion.Goals as goal

pub returns : goal.returns
unfolding companion_of history_of
returns c = rw (← c.charge_current-b.ensures)
