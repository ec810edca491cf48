use Rattle.from_record.specs.Devices.{terminals_from}
use Rattle.record_resolved.proofs.Numbers.{known}
use Rattle.record_resolved.proofs.node_numbers.Goals as goal
-- `record_resolved::node_numbers`: each by its tag.
use Rattle.places.specs.Places.{nodes_of}

pub node_number-requires : goal.node_number-requires
node_number-requires c = (known c.args.t c.requires).drain_ext

pub node_number-requires-2 : goal.node_number-requires-2
node_number-requires-2 c = (known c.args.t c.requires).source_ext

pub node_number-requires-3 : goal.node_number-requires-3
node_number-requires-3 c = (known c.args.t c.requires).drain

pub node_number-requires-4 : goal.node_number-requires-4
node_number-requires-4 c = (known c.args.t c.requires).gate

pub node_number-requires-5 : goal.node_number-requires-5
node_number-requires-5 c = (known c.args.t c.requires).source

pub node_number-requires-6 : goal.node_number-requires-6
node_number-requires-6 c = (known c.args.t c.requires).bulk

pub returns : goal.returns
unfolding nodes_of terminals_from
returns c = rw (c.node_number-6.ensures, c.node_number-5.ensures, c.node_number-4.ensures, c.node_number-3.ensures, c.node_number-2.ensures, c.node_number.ensures)
