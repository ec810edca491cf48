use Rattle.device.specs.Nodes.{node_beyond, any_node_beyond}
use Rattle.device.specs.Refusals.{done}
use Rattle.device.proofs.Branches.{tested}
use Rattle.setup.specs.Binding.{node_limit, bound_to}
use Rattle.setup.proofs.Binding.{next_fits, drain_beyond, refused_8, refused_10, accepted}
use Rattle.setup.proofs.setup_instance.Goals as goal
-- `setup::setup_instance` meets its contract. Each answer follows from the tests on the way, by the laws of the binding call.
-- Assumes nothing.
use mathlib.Core.Path.{◌∙◌, ap}

pub returns-then-is_beyond : goal.returns-then-is_beyond
returns-then-is_beyond c = refused_8 _ _ _ _ _ _ (drain_beyond _ (tested (c.is_beyond.ensures ∙ ap (node_beyond node_limit) c.inner_drain.ensures) c.if-is_beyond.true))

pub terminals-terminals-requires : goal.terminals-terminals-requires
terminals-terminals-requires c = next_fits _ _ _ c.ranges.first.fits (tested (c.is_beyond.ensures ∙ ap (node_beyond node_limit) c.inner_drain.ensures) c.if-is_beyond.false)

pub returns-then-any_beyond : goal.returns-then-any_beyond
returns-then-any_beyond c = refused_8 _ _ _ _ _ _ (tested (c.any_beyond.ensures ∙ ap (any_node_beyond node_limit) c.terminals-terminals.ensures) c.if-any_beyond.true)

pub returns-then-outside_binding : goal.returns-then-outside_binding
returns-then-outside_binding c = refused_10 _ _ _ _ _ _ (tested (c.any_beyond.ensures ∙ ap (any_node_beyond node_limit) c.terminals-terminals.ensures) c.if-any_beyond.false) (tested c.outside_binding.ensures c.if-outside_binding.true)

pub returns : goal.returns
returns c = ap done (c.bound.ensures ∙ ap (bound_to c.args.device) c.terminals-terminals.ensures) ∙ accepted _ _ _ _ _ _ (tested (c.any_beyond.ensures ∙ ap (any_node_beyond node_limit) c.terminals-terminals.ensures) c.if-any_beyond.false) (tested c.outside_binding.ensures c.if-outside_binding.false)
