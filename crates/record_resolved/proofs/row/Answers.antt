use borrow.Author.Tests.{lt-leb}
use Rattle.device.specs.declared.Mosfet1.{Mosfet1}
use Rattle.places.specs.Places.{nodes_of}
use Rattle.from_record.specs.Devices.{device_from}
use Rattle.record_loading.specs.Load.{good_load}
use Rattle.record_resolved.specs.Steps.{resolved_number}
use Rattle.record_resolved.proofs.Inside.{inside}
use Rattle.record_resolved.proofs.Numbers.{of_tags}
use Rattle.record_resolved.proofs.row.Goals as goal
-- `record_resolved::row`: the tags, then the device's own rows.
use Rattle.std.proofs.Common.{ℕ, ◌<◌, sym, ap, ◌∙◌, subst, ltb-true, le-leb, arith}

pub returns-then-not-good_tags_at_once : goal.returns-then-not-good_tags_at_once
unfolding good_load resolved_number
returns-then-not-good_tags_at_once c = rw (← c.good_tags_at_once.ensures, c.if-not-good_tags_at_once.true)

pub returns-then-transient-gt1 : goal.returns-then-transient-gt1
unfolding good_load resolved_number
returns-then-transient-gt1 c =
    let g = c.good_tags_at_once in
    rw (← g.ensures, c.if-not-good_tags_at_once.false, lt-leb _ 1 c.if-transient-gt1.true)

pub node_numbers-n-requires : goal.node_numbers-n-requires
node_numbers-n-requires c =
    let g = c.good_tags_at_once in
    of_tags c.args.r (sym g.ensures ∙ c.if-not-good_tags_at_once.false)

pub resolved_row-requires : goal.resolved_row-requires
unfolding device_from
resolved_row-requires c =
    let d = c.device_from-d.ensures in
    let n = c.min.ensures in (
      c.node_numbers-n.ensures ∙ ap (λ (d : Mosfet1). nodes_of d.terminals) (sym d),
      λ e. rw d
          (inside _ c.args.r.terminals _ _ _ (omega (arith, n)) (omega (arith, n)) (subst (λ (m : ℕ). m < c.min.result) c.indices.ensures (ltb-true _ _ e))),
    )

pub returns : goal.returns
unfolding good_load resolved_number
returns c =
    let g = c.good_tags_at_once in
    rw (c.number.ensures, c.resolved_row.ensures, c.kind_from-kind.ensures, c.device_from-d.ensures, ← g.ensures, c.if-not-good_tags_at_once.false, le-leb _ 1 c.if-transient-gt1.false)
