use Rattle.scaling.proofs.scaled_junction_potential.Goals as goal

pub returns : goal.returns
returns c = c.scaled_phi.ensures
