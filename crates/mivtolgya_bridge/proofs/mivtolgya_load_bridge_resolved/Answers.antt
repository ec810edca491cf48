use lib.ListN.{length}
use Rattle.bridge_calls.proofs.Loads.{length_zeroed}
use Rattle.bridge_calls.proofs.Resolved.{resolved_refused, resolved_rows, resolved_done}
use Rattle.mivtolgya_bridge.proofs.mivtolgya_load_bridge_resolved.Goals as goal
-- `mivtolgya_load_bridge_resolved`: its number, then zeros and the loads in device order.
use mathlib.Core.Path.{refl, ap, ◌∙◌}

pub returns-then-number-ne0 : goal.returns-then-number-ne0
returns-then-number-ne0 c =
    resolved_refused c.args.bank.now c.args.starts.now c.args.counts.now c.args.transient c.args.alpha c.args.cells.now c.args.rhs.now c.args.values.now _ c.resolved_number-number.ensures c.if-number-ne0.true _ _ refl refl

pub add_devices-requires : goal.add_devices-requires
add_devices-requires c =
    resolved_rows c.args.bank.now c.args.starts.now c.args.counts.now c.args.transient c.args.alpha c.args.cells.now c.args.rhs.now c.args.values.now _ c.resolved_number-number.ensures c.if-number-ne0.false _ _
    (ap length c.set_to_zero.ensures ∙ length_zeroed c.args.rhs.now) (ap length c.set_to_zero-2.ensures ∙ length_zeroed c.args.values.now)

pub returns : goal.returns
returns c =
    resolved_done c.args.bank.now c.args.starts.now c.args.counts.now c.args.transient c.args.alpha c.args.cells.now c.args.rhs.now c.args.values.now _ c.resolved_number-number.ensures c.if-number-ne0.false _ _ _
    c.set_to_zero.ensures c.set_to_zero-2.ensures c.add_devices.ensures
