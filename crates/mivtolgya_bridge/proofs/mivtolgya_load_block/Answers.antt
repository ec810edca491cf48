use Rattle.std.specs.Prelude.{Result}
use Rattle.device.specs.Refusals.{number, outcome}
use Rattle.device.specs.declared.Refusal.{Refusal}
use Rattle.loading.proofs.Rows.{never_0}
use Rattle.bridge_calls.proofs.Numbers.{not_refused}
use Prim.Native.Nat.{ℕ}
use native.Mathlib.Omega.{arith}
use lib.ListN.{length, get_or, take, drop}
use borrow.Rule.Slice.PartMut.{put_mid}
use Rattle.bridge_calls.proofs.Loads.{count_of, length_part, block_refused_lem, block_run, block_done, block_slices_lem, block_rows_lem}
use Rattle.mivtolgya_bridge.proofs.mivtolgya_load_block.Goals as goal
-- `mivtolgya_load_block`: its number, then the loads in device order on the part of the right-hand side that is its run.
use mathlib.Core.Path.{refl, sym, ap, ◌∙◌}

pub returns-in-Err : goal.returns-in-Err
returns-in-Err c =
    let e = ap (λ (r : Result (Unit {0}) Refusal). number (outcome r)) (sym c.in-Err.is) ∙ c.block_row.ensures in
    rw c.number.ensures
    (block_refused_lem c.args.bank.now c.args.block c.args.starts.now c.args.counts.now c.args.transient c.args.alpha (record { columns = c.args.columns.now; offsets = c.args.offsets.now; lengths = c.args.lengths.now }) c.args.rhs.now c.args.values.now _ e (never_0 c.in-Err.refusal))

pub offset_bounds-starts-block : goal.offset_bounds-starts-block
offset_bounds-starts-block c = let r = block_run _ _ _ _ _ _ _ _ _ _ (not_refused c.block_row.result c.in_default.not-Err ∙ c.block_row.ensures) refl in omega (arith, r.there)

pub bounds-starts-block : goal.bounds-starts-block
bounds-starts-block c = (block_run _ _ _ _ _ _ _ _ _ _ (not_refused c.block_row.result c.in_default.not-Err ∙ c.block_row.ensures) refl).there

pub offset_bounds-counts-block : goal.offset_bounds-counts-block
offset_bounds-counts-block c = let r = block_run _ _ _ _ _ _ _ _ _ _ (not_refused c.block_row.result c.in_default.not-Err ∙ c.block_row.ensures) refl in omega (arith, r.there)

pub bounds-counts-block : goal.bounds-counts-block
bounds-counts-block c = let r = block_run _ _ _ _ _ _ _ _ _ _ (not_refused c.block_row.result c.in_default.not-Err ∙ c.block_row.ensures) refl in omega (arith, r.there, r.same)

pub overflow_add-end : goal.overflow_add-end
overflow_add-end c = let r = block_run _ _ _ _ _ _ _ _ _ _ (not_refused c.block_row.result c.in_default.not-Err ∙ c.block_row.ensures) refl in omega (arith, r.inside)

pub offset_bounds-rhs-start : goal.offset_bounds-rhs-start
offset_bounds-rhs-start c = let r = block_run _ _ _ _ _ _ _ _ _ _ (not_refused c.block_row.result c.in_default.not-Err ∙ c.block_row.ensures) refl in omega (arith, r.inside)

pub slice_bounds-add_devices-end : goal.slice_bounds-add_devices-end
slice_bounds-add_devices-end c = let r = block_run _ _ _ _ _ _ _ _ _ _ (not_refused c.block_row.result c.in_default.not-Err ∙ c.block_row.ensures) refl in omega (arith, r.inside)

pub add_devices-requires : goal.add_devices-requires
add_devices-requires c =
    let a = get_or c.args.starts.now c.args.block 0 in
    let m = get_or c.args.counts.now c.args.block 0 in
    block_rows_lem c.args.bank.now c.args.block c.args.starts.now c.args.counts.now c.args.transient c.args.alpha (record { columns = c.args.columns.now; offsets = c.args.offsets.now; lengths = c.args.lengths.now }) c.args.rhs.now c.args.values.now _ (not_refused c.block_row.result c.in_default.not-Err ∙ c.block_row.ensures) refl _ _ c.kind_from-kind.ensures
    (ap (λ (k : ℕ). length (take k (drop a c.args.rhs.now))) (count_of a m) ∙ length_part a m c.args.rhs.now (block_run _ _ _ _ _ _ _ _ _ _ (not_refused c.block_row.result c.in_default.not-Err ∙ c.block_row.ensures) refl).inside)

pub returns : goal.returns
returns c =
    let a = get_or c.args.starts.now c.args.block 0 in
    let m = get_or c.args.counts.now c.args.block 0 in
    let d =
    block_done c.args.bank.now c.args.block c.args.starts.now c.args.counts.now c.args.transient c.args.alpha (record { columns = c.args.columns.now; offsets = c.args.offsets.now; lengths = c.args.lengths.now }) c.args.rhs.now c.args.values.now _ (not_refused c.block_row.result c.in_default.not-Err ∙ c.block_row.ensures) refl _
    (block_slices_lem c.args.bank.now c.args.block c.args.starts.now c.args.counts.now c.args.transient c.args.alpha (record { columns = c.args.columns.now; offsets = c.args.offsets.now; lengths = c.args.lengths.now }) c.args.rhs.now c.args.values.now _ (not_refused c.block_row.result c.in_default.not-Err ∙ c.block_row.ensures) refl _ _ _ c.kind_from-kind.ensures (ap (λ (k : ℕ). take k (drop a c.args.rhs.now)) (count_of a m)) c.add_devices.ensures) in
    (d.0, (ap (λ (k : ℕ). put_mid a k c.args.rhs.now c.add_devices.new.rhs) (count_of a m) ∙ d.1.0, d.1.1))
