use borrow.Author.Tests.{eq-eqb, ne_eqb}
use lib.Ieee.{nan}
use Rattle.exact.specs.Float64.{+0}
use Rattle.rows.proofs.Reading.{within}
use Rattle.rows.specs.Rows.{node_voltage_of}
use Rattle.from_record.specs.Devices.{node_from}
use Rattle.record_steps.proofs.node_voltage.Goals as goal

pub returns-then-node-eq0 : goal.returns-then-node-eq0
unfolding node_voltage_of node_from
returns-then-node-eq0 c = rw (eq-eqb _ 0 c.if-node-eq0.true)

pub returns-else-node-eq0 : goal.returns-else-node-eq0
unfolding node_voltage_of node_from
returns-else-node-eq0 c = rw (ne_eqb _ 0 c.if-node-eq0.false) (within c.args.x.now c.args.node.index nan +0 c.requires)
