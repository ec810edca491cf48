use Rattle.temperature.specs.Temperature.{body_term_of}
use Rattle.scaling.proofs.body_term.Goals as goal

pub returns : goal.returns
unfolding body_term_of
returns c = rw (c.sqrt.ensures, c.max.ensures)
