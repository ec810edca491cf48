use Rattle.record_resolved.proofs.Numbers.{by_tag}
use Rattle.std.proofs.Common.{arith}
use Rattle.record_resolved.proofs.node_number.Goals as goal
-- `record_resolved::node_number`: by the tag.
use Rattle.from_record.specs.Devices.{node_from}

pub returns : goal.returns
unfolding node_from
returns c = by_tag c.args.tag c.wrapping_sub_u64-ground.result c.args.index c.requires c.wrapping_sub_u64-ground.ensures.value (omega arith) (omega arith)
