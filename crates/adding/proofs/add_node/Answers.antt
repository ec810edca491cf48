use native.Mathlib.Omega.{arith}
use Rattle.adding.proofs.Adding.{add_index}
use Rattle.adding.proofs.add_node.Goals as goal
-- `adding::add_node`: a node's entry is at its index.
use mathlib.Core.Path.{◌∙◌}

pub returns : goal.returns
returns c =
    c.add_at.ensures ∙ add_index c.args.xs.now c.args.node c.args.x (omega arith)
