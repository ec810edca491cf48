use Rattle.pattern.specs.Pattern.{lists}
use native.Mathlib.Omega.{arith}
use lib.ListN.{length, get_or}
use Rattle.loading.specs.declared.LoadKind.{LoadKind}
use Rattle.record_loading.specs.Load.{kind_from}
use Rattle.device_bank.specs.Bank.{devices_of, bank_row}
use Rattle.bridge.proofs.Runs.{run_inside}
use Rattle.bridge.specs.Bridge.{devices_rows}
use Rattle.bridge.specs.Runs.{block_refused}
use Rattle.bridge_calls.specs.Steps.{block_number}
use Rattle.bridge_calls.proofs.Numbers.{unknown_tag, unknown_kind, row_14, row_passed}
use Rattle.mivtolgya_bridge.proofs.block_row.Goals as goal
use Rattle.mivtolgya_bridge.proofs.block_row.Goals.{then-not-good_bank-via-then-not-good_bank, then-not-good_bank-via-else-not-good_bank+then-transient-gt1}
-- `mivtolgya_bridge::block_row`: as for the whole bridge, with the rows of the block's own run.
use mathlib.Core.Path.{sym, ap, ◌∙◌}

pub returns-then-not-good_bank : goal.returns-then-not-good_bank
unfolding block_number
returns-then-not-good_bank c =
    elim c.then-not-good_bank.branch [
      | then-not-good_bank-via-then-not-good_bank w ↦ unknown_tag c.args.bank.now c.args.transient _ c.good_bank.ensures _ w.if-not-good_bank.true
      | then-not-good_bank-via-else-not-good_bank+then-transient-gt1 w ↦ unknown_kind c.args.bank.now c.args.transient _ c.good_bank.ensures _ w.if-not-good_bank.false w.if-transient-gt1.true
    ]

pub returns-then-block_refused : goal.returns-then-block_refused
unfolding block_number
returns-then-block_refused c =
    row_14 c.args.bank.now c.args.transient _ c.good_bank.ensures (c.if-not-good_bank.false) (omega arith)
    (block_refused c.args.block c.args.runs.starts.now c.args.runs.counts.now c.args.rows) _ c.block_refused.ensures (devices_rows (devices_of c.args.bank.now) (kind_from c.args.transient c.args.alpha) (lists c.args.pattern) (get_or c.args.runs.counts.now c.args.block 0) c.args.values) c.if-block_refused.true

pub offset_bounds-runs-block : goal.offset_bounds-runs-block
offset_bounds-runs-block c =
    let r = run_inside c.args.block c.args.runs.starts.now c.args.runs.counts.now c.args.rows (length c.args.bank.now) (sym c.block_refused.ensures ∙ c.if-block_refused.false) in
    omega (arith, r.there)

pub bounds-runs-block : goal.bounds-runs-block
bounds-runs-block c =
    let r = run_inside c.args.block c.args.runs.starts.now c.args.runs.counts.now c.args.rows (length c.args.bank.now) (sym c.block_refused.ensures ∙ c.if-block_refused.false) in
    omega (arith, r.there, r.same)

pub returns : goal.returns
unfolding block_number bank_row
returns c =
    c.lowest_row.ensures
    ∙ ap (λ (k : LoadKind). bank_row c.args.bank.now k (lists c.args.pattern) (get_or c.args.runs.counts.now c.args.block 0) c.args.values) c.kind_from-kind.ensures
    ∙ row_passed c.args.bank.now c.args.transient _ c.good_bank.ensures (c.if-not-good_bank.false) (omega arith)
    (block_refused c.args.block c.args.runs.starts.now c.args.runs.counts.now c.args.rows) _ c.block_refused.ensures (devices_rows (devices_of c.args.bank.now) (kind_from c.args.transient c.args.alpha) (lists c.args.pattern) (get_or c.args.runs.counts.now c.args.block 0) c.args.values) c.if-block_refused.false
