use borrow.Author.Tests.{eq-eqb, ne_eqb}
use Rattle.record_steps.specs.Steps.{charges_from}
use Rattle.record_steps.proofs.charges.Goals as goal

pub returns-then-k-eq1 : goal.returns-then-k-eq1
unfolding charges_from
returns-then-k-eq1 c = rw (c.evaluated_charges.ensures, c.device_from-d.ensures, eq-eqb _ 1 c.if-k-eq1.true)

pub returns : goal.returns
unfolding charges_from
returns c = rw (ne_eqb _ 1 c.if-k-eq1.false)
