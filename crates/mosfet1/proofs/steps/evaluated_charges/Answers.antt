use Rattle.mosfet1.specs.Steps.{evaluated_charges_of}
use Rattle.mosfet1.proofs.steps.evaluated_charges.Goals as goal

pub returns-then-transient : goal.returns-then-transient
unfolding evaluated_charges_of
returns-then-transient c = rw (c.if-transient.true, c.charges_at.ensures, c.grading-grading.ensures, c.gate_shares-shares.ensures)

pub returns : goal.returns
unfolding evaluated_charges_of
returns c = rw c.if-transient.false
