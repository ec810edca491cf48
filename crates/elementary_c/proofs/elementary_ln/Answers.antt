use Rattle.elementary_c.proofs.elementary_ln.Goals as goal

-- What `elementary::ln` promises is what this ensures.

pub returns : goal.returns
returns c = c.ln.ensures
