use Rattle.junction.specs.Junction.{junction_at_of, shockley_of}
use Rattle.junction.proofs.junction_at.Goals as goal

pub returns-then-isat : goal.returns-then-isat
unfolding junction_at_of
returns-then-isat c = rw c.if-isat.true

pub returns : goal.returns
unfolding junction_at_of shockley_of
returns c = rw c.if-isat.false
