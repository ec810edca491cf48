use Rattle.elementary_c.proofs.elementary_sqrt.Goals as goal

-- What `elementary::sqrt` promises is what this ensures.

pub returns : goal.returns
returns c = c.sqrt.ensures
