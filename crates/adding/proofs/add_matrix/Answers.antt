use mathlib.Core.List.{List}
use lib.Ieee.{Float}
use Rattle.adding.specs.Adding.{add_branches}
use Rattle.adding.proofs.add_matrix.Goals as goal
-- `adding::add_matrix`: the 24 values, then the branches.
use mathlib.Core.Path.{ap, ◌∙◌}

pub returns : goal.returns
returns c =
    c.add_branches.ensures
    ∙ ap (λ (ys : List Float). add_branches c.args.places c.args.gate c.args.b ys) c.add_all.ensures
