use Rattle.matrix_layout.proofs.Outcomes.{row_8, row_10, accepted, inside, kept, written}
use Rattle.matrix_layout.proofs.matrix_layout.Goals as goal
-- `matrix_layout`: rows 8 and 10 leave the slices; else `lay_out` has written them.
use mathlib.Core.Path.{sym, ◌∙◌}

pub returns-then-nodes_outside : goal.returns-then-nodes_outside
returns-then-nodes_outside c =
    kept c.args.device c.args.columns.now c.args.offsets.now c.args.lengths.now 8
    (row_8 c.args.device (sym c.nodes_outside.ensures ∙ c.if-nodes_outside.true))

pub returns-then-before : goal.returns-then-before
returns-then-before c =
    kept c.args.device c.args.columns.now c.args.offsets.now c.args.lengths.now 10
    (row_10 c.args.device (sym c.nodes_outside.ensures ∙ c.if-nodes_outside.false) (sym c.before-2.ensures ∙ c.if-before.true))

pub invariant_of-bound : goal.invariant_of-bound
invariant_of-bound c = record {
  below =
      inside c.args.device (sym c.nodes_outside.ensures ∙ c.if-nodes_outside.false) (sym c.before-2.ensures ∙ c.if-before.false);
}

pub returns : goal.returns
returns c =
    written c.args.device c.args.columns.now c.args.offsets.now c.args.lengths.now c.lay_out.result _ _ _
    (accepted c.args.device c.lay_out.result (sym c.nodes_outside.ensures ∙ c.if-nodes_outside.false) (sym c.before-2.ensures ∙ c.if-before.false) c.lay_out.ensures.0 c.lay_out.ensures.1.0)
    c.lay_out.ensures.1.1
