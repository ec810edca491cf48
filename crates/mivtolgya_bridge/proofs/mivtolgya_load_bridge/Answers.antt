use Rattle.std.specs.Prelude.{Result}
use Rattle.device.specs.Refusals.{number, outcome}
use Rattle.device.specs.declared.Refusal.{Refusal}
use Rattle.loading.proofs.Rows.{never_0}
use Rattle.bridge_calls.proofs.Numbers.{not_refused}
use lib.ListN.{length}
use Rattle.bridge_calls.proofs.Loads.{length_zeroed, bridge_refused_lem, bridge_done, bridge_slices_lem, bridge_rows_lem}
use Rattle.mivtolgya_bridge.proofs.mivtolgya_load_bridge.Goals as goal
-- `mivtolgya_load_bridge`: its number, then zeros and the loads in device order.
use mathlib.Core.Path.{refl, sym, ap, ◌∙◌}

pub returns-in-Err : goal.returns-in-Err
returns-in-Err c =
    let e = ap (λ (r : Result (Unit {0}) Refusal). number (outcome r)) (sym c.in-Err.is) ∙ c.bridge_row.ensures in
    rw c.number.ensures
    (bridge_refused_lem c.args.bank.now c.args.starts.now c.args.counts.now c.args.transient c.args.alpha (record { columns = c.args.columns.now; offsets = c.args.offsets.now; lengths = c.args.lengths.now }) c.args.rhs.now c.args.values.now _ e (never_0 c.in-Err.refusal))

pub add_devices-requires : goal.add_devices-requires
add_devices-requires c =
    bridge_rows_lem c.args.bank.now c.args.starts.now c.args.counts.now c.args.transient c.args.alpha (record { columns = c.args.columns.now; offsets = c.args.offsets.now; lengths = c.args.lengths.now }) c.args.rhs.now c.args.values.now _ (not_refused c.bridge_row.result c.in_default.not-Err ∙ c.bridge_row.ensures) refl _ _ _ c.kind_from-kind.ensures
    (ap length c.set_to_zero.ensures ∙ length_zeroed c.args.rhs.now) (ap length c.set_to_zero-2.ensures ∙ length_zeroed c.args.values.now)

pub returns : goal.returns
returns c =
    bridge_done c.args.bank.now c.args.starts.now c.args.counts.now c.args.transient c.args.alpha (record { columns = c.args.columns.now; offsets = c.args.offsets.now; lengths = c.args.lengths.now }) c.args.rhs.now c.args.values.now _ (not_refused c.bridge_row.result c.in_default.not-Err ∙ c.bridge_row.ensures) refl _
    (bridge_slices_lem c.args.bank.now c.args.starts.now c.args.counts.now c.args.transient c.args.alpha (record { columns = c.args.columns.now; offsets = c.args.offsets.now; lengths = c.args.lengths.now }) c.args.rhs.now c.args.values.now _ (not_refused c.bridge_row.result c.in_default.not-Err ∙ c.bridge_row.ensures) refl _ _ _ _ c.kind_from-kind.ensures c.set_to_zero.ensures c.set_to_zero-2.ensures c.add_devices.ensures)
