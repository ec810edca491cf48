use Rattle.elementary_c.proofs.elementary_pow.Goals as goal

-- What `elementary::pow` promises is what this ensures.

pub returns : goal.returns
returns c = c.pow.ensures
