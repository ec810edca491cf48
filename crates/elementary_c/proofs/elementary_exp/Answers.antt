use Rattle.elementary_c.proofs.elementary_exp.Goals as goal

-- What `elementary::exp` promises is what this ensures.

pub returns : goal.returns
returns c = c.exp.ensures
