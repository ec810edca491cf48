use Rattle.record_resolved.specs.Steps.{static_sources, static_values, static_side, static_matrix}
use Rattle.device.specs.declared.Mosfet1.{Mosfet1}
use Rattle.places.specs.Places.{nodes_of}
use Rattle.from_record.specs.Devices.{device_from}
use Rattle.record_resolved.proofs.Known.{pairs_known}
use Rattle.record_resolved.proofs.Numbers.{of_zero}
use Rattle.record_resolved.proofs.add_static.Goals as goal
-- `record_resolved::add_static`: where the row is 0, the device's own.
use Rattle.std.proofs.Common.{length, sym, ap, ◌∙◌, arith, eq-eqb, ne_eqb}

pub node_numbers-n-requires : goal.node_numbers-n-requires
node_numbers-n-requires c =
    of_zero c.args.r c.args.transient c.args.alpha c.args.cells.now _ _ (sym c.requires ∙ c.if-row-eq0.true)

pub add_static-requires : goal.add_static-requires
unfolding device_from
add_static-requires c =
    let d = c.device_from-d.ensures in (
      c.node_numbers-n.ensures ∙ ap (λ (d : Mosfet1). nodes_of d.terminals) (sym d),
      rw d
          (pairs_known c.args.r c.args.transient c.args.alpha c.args.cells.now (length c.args.rhs.now) _ (omega arith) (sym c.requires ∙ c.if-row-eq0.true)),
    )

pub returns-then-row-eq0 : goal.returns-then-row-eq0
unfolding static_sources static_values static_side static_matrix
returns-then-row-eq0 c =
    let zero = eq-eqb _ 0 c.if-row-eq0.true in
    let d = c.device_from-d.ensures in (
      c.add_static.ensures.1 ∙ rw (zero, d),
      c.add_static.ensures.0 ∙ rw (zero, d),
    )

pub returns-else-row-eq0 : goal.returns-else-row-eq0
unfolding static_side static_matrix
returns-else-row-eq0 c =
    let refused = ne_eqb _ 0 c.if-row-eq0.false in
    (rw refused, rw refused)
