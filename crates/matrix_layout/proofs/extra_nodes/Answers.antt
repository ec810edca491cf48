use mathlib.Core.Path.{ap, ◌∙◌}
use Rattle.device.specs.Refusals.{done}
use Rattle.device.proofs.Branches.{cond_yes, cond_no, tested}
use Rattle.matrix_layout.specs.MatrixLayout.{extra_nodes_of}
use Rattle.matrix_layout.proofs.extra_nodes.Goals as goal

pub returns-then-before : goal.returns-then-before
unfolding extra_nodes_of
returns-then-before c = cond_yes _ _ (tested c.before-2.ensures c.if-before.true)

pub returns : goal.returns
unfolding extra_nodes_of
returns c = ap done c.num_extra_nodes.ensures ∙ cond_no _ _ (tested c.before-2.ensures c.if-before.false)
