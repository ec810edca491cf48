use lib.Ieee.{nan}
use Rattle.exact.specs.Float64.{+0}
use Rattle.rows.proofs.Reading.{within, past}
use Rattle.rows.specs.Rows.{node_voltage_of}
use Rattle.rows.proofs.voltage.Goals as goal

pub returns-in-At : goal.returns-in-At
unfolding node_voltage_of
returns-in-At c = rw c.in-At.is (within c.args.x.now c.in-At.i nan +0 c.if-i-x.true)

pub returns-in_default : goal.returns-in_default
unfolding node_voltage_of
returns-in_default c = rw c.in-At.is (past c.args.x.now c.in-At.i +0 c.if-i-x.false)
