use Rattle.pattern.specs.Pattern.{lists}
use native.Mathlib.Omega.{arith}
use Rattle.loading.specs.declared.LoadKind.{LoadKind}
use Rattle.record_loading.specs.Load.{kind_from}
use Rattle.device_bank.specs.Bank.{devices_of, bank_row}
use Rattle.bridge.specs.Bridge.{devices_rows}
use Rattle.bridge.specs.Runs.{bridge_refused}
use Rattle.bridge_calls.specs.Steps.{bridge_number}
use Rattle.bridge_calls.proofs.Numbers.{unknown_tag, unknown_kind, row_14, row_passed}
use Rattle.mivtolgya_bridge.proofs.bridge_row.Goals as goal
use Rattle.mivtolgya_bridge.proofs.bridge_row.Goals.{then-not-good_bank-via-then-not-good_bank, then-not-good_bank-via-else-not-good_bank+then-transient-gt1}
-- `mivtolgya_bridge::bridge_row`: tags and kind, then row 14, then the rows of the devices.
use mathlib.Core.Path.{ap, ◌∙◌}

pub returns-then-not-good_bank : goal.returns-then-not-good_bank
unfolding bridge_number
returns-then-not-good_bank c =
    elim c.then-not-good_bank.branch [
      | then-not-good_bank-via-then-not-good_bank w ↦ unknown_tag c.args.bank.now c.args.transient _ c.good_bank.ensures _ w.if-not-good_bank.true
      | then-not-good_bank-via-else-not-good_bank+then-transient-gt1 w ↦ unknown_kind c.args.bank.now c.args.transient _ c.good_bank.ensures _ w.if-not-good_bank.false w.if-transient-gt1.true
    ]

pub returns-then-bridge_refused : goal.returns-then-bridge_refused
unfolding bridge_number
returns-then-bridge_refused c =
    row_14 c.args.bank.now c.args.transient _ c.good_bank.ensures (c.if-not-good_bank.false) (omega arith)
    (bridge_refused c.args.runs.starts.now c.args.runs.counts.now c.args.rows) _ c.bridge_refused.ensures (devices_rows (devices_of c.args.bank.now) (kind_from c.args.transient c.args.alpha) (lists c.args.pattern) c.args.rows c.args.values) c.if-bridge_refused.true

pub returns : goal.returns
unfolding bridge_number bank_row
returns c =
    c.lowest_row.ensures
    ∙ ap (λ (k : LoadKind). bank_row c.args.bank.now k (lists c.args.pattern) c.args.rows c.args.values) c.kind_from-kind.ensures
    ∙ row_passed c.args.bank.now c.args.transient _ c.good_bank.ensures (c.if-not-good_bank.false) (omega arith)
    (bridge_refused c.args.runs.starts.now c.args.runs.counts.now c.args.rows) _ c.bridge_refused.ensures (devices_rows (devices_of c.args.bank.now) (kind_from c.args.transient c.args.alpha) (lists c.args.pattern) c.args.rows c.args.values) c.if-bridge_refused.false
