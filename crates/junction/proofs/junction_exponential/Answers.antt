use Rattle.junction.specs.Junction.{junction_exponential_of}
use Rattle.junction.proofs.junction_exponential.Goals as goal

pub returns-then-isat : goal.returns-then-isat
unfolding junction_exponential_of
returns-then-isat c = rw c.if-isat.true

pub returns : goal.returns
unfolding junction_exponential_of
returns c = rw (c.if-isat.false, c.exp.ensures)
