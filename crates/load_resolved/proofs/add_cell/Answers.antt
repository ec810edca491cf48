use Prim.Native.Nat.{ℕ}
use native.Mathlib.Omega.{arith}
use Rattle.adding.specs.Adding.{add_at}
use Rattle.load_resolved.proofs.Stored.{add_between}
use Rattle.load_resolved.proofs.add_cell.Goals as goal
-- `load_resolved::add_cell`: the place between the nodes.
use mathlib.Core.Path.{ap, ◌∙◌}

pub returns : goal.returns
returns c =
    c.add_at.ensures
    ∙ ap (λ (p : ℕ). add_at c.args.xs.now p c.args.x) c.place_between-at.ensures
    ∙ add_between _ _ _ _ _ (omega arith)
