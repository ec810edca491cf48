use mathlib.Core.Path.{sym, ap, ◌∙◌}
use native.Mathlib.Omega.{arith}
use borrow.Author.Tests.{eq-eqb, ne_eqb}
use Rattle.device.specs.declared.Mosfet1.{Mosfet1}
use Rattle.places.specs.Places.{nodes_of}
use Rattle.from_record.specs.Devices.{device_from}
use Rattle.record_words.specs.Words.{record_of}
use Rattle.record_resolved.specs.Steps.{charge_sources, charge_values, charged_side, charged_matrix}
use Rattle.record_resolved.proofs.Known.{branches_known, nodes_known}
use Rattle.bank_resolved.proofs.add_charges.Goals as goal

-- `bank_resolved::add_charges`: where the load is transient, the charge branches of the device that the words are.

pub add_charges-requires : goal.add_charges-requires
add_charges-requires c =
    let d = c.device_from-d.ensures ∙ ap device_from c.record_of.ensures in (
      c.nodes_of-n.ensures ∙ nodes_known (record_of c.args.w.now) c.args.transient c.args.alpha c.args.cells.now _ _ (omega arith) c.requires ∙ ap (λ (d : Mosfet1). nodes_of d.terminals) (sym d),
      rw d (branches_known (record_of c.args.w.now) c.args.transient c.args.alpha c.args.cells.now _ _ (omega arith) c.if-transient-eq1.true c.requires),
    )

pub returns-then-transient-eq1 : goal.returns-then-transient-eq1
unfolding charge_sources charge_values charged_side charged_matrix
returns-then-transient-eq1 c =
    let one = eq-eqb _ 1 c.if-transient-eq1.true in
    let d = c.device_from-d.ensures ∙ ap device_from c.record_of.ensures in (
      c.add_charges.ensures.1 ∙ rw (one, d),
      c.add_charges.ensures.0 ∙ rw (one, d),
    )

pub returns-else-transient-eq1 : goal.returns-else-transient-eq1
unfolding charged_side charged_matrix
returns-else-transient-eq1 c =
    let static = ne_eqb _ 1 c.if-transient-eq1.false in
    (rw static, rw static)
