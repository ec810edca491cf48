use mathlib.Core.Path.{sym, ap, ◌∙◌}
use native.Mathlib.Omega.{arith}
use Rattle.device.specs.declared.Mosfet1.{Mosfet1}
use Rattle.places.specs.Places.{nodes_of}
use Rattle.from_record.specs.Devices.{device_from}
use Rattle.record_words.specs.Words.{record_of}
use Rattle.record_resolved.specs.Steps.{static_sources, static_values, static_side, static_matrix}
use Rattle.record_resolved.proofs.Known.{pairs_known, nodes_known}
use Rattle.bank_resolved.proofs.add_static.Goals as goal

-- `bank_resolved::add_static`: the static part of the device that the words are. No row refuses it, so the cells are those of its nodes.

pub add_static-requires : goal.add_static-requires
add_static-requires c =
    let d = c.device_from-d.ensures ∙ ap device_from c.record_of.ensures in (
      c.nodes_of-n.ensures ∙ nodes_known (record_of c.args.w.now) c.args.transient c.args.alpha c.args.cells.now _ _ (omega arith) c.requires ∙ ap (λ (d : Mosfet1). nodes_of d.terminals) (sym d),
      rw d (pairs_known (record_of c.args.w.now) c.args.transient c.args.alpha c.args.cells.now _ _ (omega arith) c.requires),
    )

pub returns : goal.returns
unfolding static_sources static_values static_side static_matrix
returns c =
    let d = c.device_from-d.ensures ∙ ap device_from c.record_of.ensures in (
      c.add_static.ensures.1 ∙ rw d,
      c.add_static.ensures.0 ∙ rw d,
    )
