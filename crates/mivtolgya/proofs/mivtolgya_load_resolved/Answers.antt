use Rattle.std.proofs.Common.{arith, length, ◌≡◌}
use Rattle.export_steps.proofs.LoadResolved.{number_kept, three_steps}
use Rattle.mivtolgya.proofs.mivtolgya_load_resolved.Goals as goal

pub add_charges-requires : goal.add_charges-requires
add_charges-requires c =
    let same_rows : length c.add_static.new.rhs ≡ length c.args.rhs.now = omega arith in
    let same_values : length c.add_static.new.values ≡ length c.args.values.now = omega arith in
    number_kept c.args.device.now c.args.transient c.args.alpha c.args.cells.now _ _ _ _ _ c.row-row.ensures same_rows same_values

pub returns : goal.returns
returns c =
    three_steps c.args.device.now c.args.transient c.args.alpha c.args.cells.now c.args.rhs.now c.args.values.now _ _ _ _ _ (omega arith)
    c.row-row.ensures c.add_static.ensures.0 c.add_static.ensures.1 c.add_charges.ensures.0 c.add_charges.ensures.1
