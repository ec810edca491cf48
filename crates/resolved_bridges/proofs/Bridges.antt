-- A bridge's load by the cells that were looked up for its devices in a pattern is its load on that pattern.
use Rattle.resolved_bridges.specs.ResolvedBridges.{ResolvedBridgeIsBridge}
use Rattle.resolved_bridges.proofs.Rows.{same_answer}
use Rattle.resolved_bridges.proofs.InOrder.{same_slices}

pub resolved_bridge_is_bridge : ResolvedBridgeIsBridge
unfolding ResolvedBridgeIsBridge
resolved_bridge_is_bridge bank starts counts k P cells rhs values some looked room small = record {
  answer = same_answer bank starts counts k P cells rhs values some looked room;
  slices = same_slices k P room bank cells rhs values looked small;
}
