use Rattle.stamps.specs.Stamps.{junction_branch_of}
use Rattle.stamps.proofs.junction_branch.Goals as goal

pub returns : goal.returns
unfolding junction_branch_of
returns c = rw (c.branch-pos.ensures, c.has_junction-remembers.ensures)
