use Rattle.temperature.specs.Temperature.{scaled_phi_of}
use Rattle.temperature.proofs.Branches.{first, second, neither}
use Rattle.scaling.proofs.scaled_phi.Goals as goal
use Rattle.scaling.proofs.scaled_phi.Goals.{then-t-via-then-t, then-t-via-else-t+then-tnom}

pub returns-then-t : goal.returns-then-t
unfolding scaled_phi_of
returns-then-t c = elim c.then-t.branch [
  | then-t-via-then-t w ↦ first _ _ _ _ w.if-t.true
  | then-t-via-else-t+then-tnom w ↦ second _ _ _ _ w.if-tnom.true
]

pub returns : goal.returns
unfolding scaled_phi_of
returns c =
    rw (c.pbfact.ensures, c.phio.ensures) (neither _ _ _ _ c.if-t.false c.if-tnom.false)
