use Rattle.record_resolved.specs.Steps.{charge_sources, charge_values, charged_side, charged_matrix}
use Rattle.device.specs.declared.Mosfet1.{Mosfet1}
use Rattle.places.specs.Places.{nodes_of}
use Rattle.from_record.specs.Devices.{device_from}
use Rattle.record_resolved.proofs.Known.{branches_known}
use Rattle.record_resolved.proofs.Numbers.{of_zero}
use Rattle.record_resolved.proofs.add_charges.Goals as goal
-- `record_resolved::add_charges`: where the row is 0 and the load is transient, the device's own.
use Rattle.std.proofs.Common.{length, sym, ap, ◌∙◌, arith, eq-eqb, ne_eqb}

pub node_numbers-n-requires : goal.node_numbers-n-requires
node_numbers-n-requires c =
    of_zero c.args.r c.args.transient c.args.alpha c.args.cells.now _ _ (sym c.requires ∙ c.if-row-eq0.true)

pub add_charges-requires : goal.add_charges-requires
unfolding device_from
add_charges-requires c =
    let d = c.device_from-d.ensures in (
      c.node_numbers-n.ensures ∙ ap (λ (d : Mosfet1). nodes_of d.terminals) (sym d),
      rw d
          (branches_known c.args.r c.args.transient c.args.alpha c.args.cells.now (length c.args.rhs.now) _ (omega arith) c.if-transient-eq1.true (sym c.requires ∙ c.if-row-eq0.true)),
    )

pub returns-then-transient-eq1 : goal.returns-then-transient-eq1
unfolding charge_sources charge_values charged_side charged_matrix
returns-then-transient-eq1 c =
    let zero = eq-eqb _ 0 c.if-row-eq0.true in
    let one = eq-eqb _ 1 c.if-transient-eq1.true in
    let d = c.device_from-d.ensures in (
      c.add_charges.ensures.1 ∙ rw (zero, one, d),
      c.add_charges.ensures.0 ∙ rw (zero, one, d),
    )

pub returns-else-transient-eq1 : goal.returns-else-transient-eq1
unfolding charged_side charged_matrix
returns-else-transient-eq1 c =
    let zero = eq-eqb _ 0 c.if-row-eq0.true in
    let static = ne_eqb _ 1 c.if-transient-eq1.false in
    (rw (zero, static), rw (zero, static))

pub returns-else-row-eq0 : goal.returns-else-row-eq0
unfolding charged_side charged_matrix
returns-else-row-eq0 c =
    let refused = ne_eqb _ 0 c.if-row-eq0.false in
    (rw refused, rw refused)
