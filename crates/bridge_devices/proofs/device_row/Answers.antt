use Rattle.std.proofs.Common.{◌≡◌, sym, ◌∙◌, subst, arith}
use Rattle.std.specs.Prelude.{Option, IfSome}
use Rattle.pattern.specs.Pattern.{lists}
use Rattle.pattern.specs.declared.WellFormed.{WellFormed}
use Rattle.bridge_devices.specs.Steps.{device_row, first_of}
use Rattle.bridge_devices.proofs.Rows.{cells_there}
use Rattle.bridge_devices.proofs.device_row.Goals as goal

-- `bridge_devices::device_row`: the first row that applies decides; the last by what was looked up.

pub returns-in-Some-look_up : goal.returns-in-Some-look_up
unfolding device_row first_of
returns-in-Some-look_up c =
    let same : lists c.in-Some.tested.pattern ≡ lists c.args.pattern = subst (λ (o : Option WellFormed). IfSome o (λ v. lists v.pattern ≡ lists c.args.pattern)) c.in-Some.is c.requires in
    rw (
      ← c.nodes_outside.ensures,
      c.if-nodes_outside.false,
      ← c.is_unevaluated.ensures,
      c.if-is_unevaluated.false,
      ← c.alpha_outside.ensures,
      c.if-alpha_outside.false,
      c.in-Some.is,
      cells_there c.args.d c.args.kind (lists c.in-Some.tested.pattern) (lists c.args.pattern) c.args.rows c.indices-n.result c.branches-b.result c.look_up.result same (omega arith) (omega arith)
          (sym c.nodes_outside.ensures ∙ c.if-nodes_outside.false) (sym c.is_unevaluated.ensures ∙ c.if-is_unevaluated.false) (sym c.alpha_outside.ensures ∙ c.if-alpha_outside.false)
          c.in-Some.tested.fits c.indices-n.ensures c.branches-b.ensures c.look_up.ensures,
      c.in-Some-look_up.is,
    )

pub returns-in-None : goal.returns-in-None
unfolding device_row first_of
returns-in-None c =
    let same : lists c.in-Some.tested.pattern ≡ lists c.args.pattern = subst (λ (o : Option WellFormed). IfSome o (λ v. lists v.pattern ≡ lists c.args.pattern)) c.in-Some.is c.requires in
    rw (
      ← c.nodes_outside.ensures,
      c.if-nodes_outside.false,
      ← c.is_unevaluated.ensures,
      c.if-is_unevaluated.false,
      ← c.alpha_outside.ensures,
      c.if-alpha_outside.false,
      c.in-Some.is,
      cells_there c.args.d c.args.kind (lists c.in-Some.tested.pattern) (lists c.args.pattern) c.args.rows c.indices-n.result c.branches-b.result c.look_up.result same (omega arith) (omega arith)
          (sym c.nodes_outside.ensures ∙ c.if-nodes_outside.false) (sym c.is_unevaluated.ensures ∙ c.if-is_unevaluated.false) (sym c.alpha_outside.ensures ∙ c.if-alpha_outside.false)
          c.in-Some.tested.fits c.indices-n.ensures c.branches-b.ensures c.look_up.ensures,
      c.in-None.is,
    )
