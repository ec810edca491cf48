use Rattle.elementary_c.proofs.elementary_ln_1p.Goals as goal

-- What `elementary::ln_1p` promises is what this ensures.

pub returns : goal.returns
returns c = c.ln_1p.ensures
