use Rattle.adding.proofs.add_branches.Goals as goal
-- `adding::add_branches`: five branches in turn.
use Rattle.adding.specs.Adding.{add_branches}

pub returns : goal.returns
unfolding add_branches
returns c = rw (← c.add_four.ensures, ← c.add_four-2.ensures, ← c.add_four-3.ensures, ← c.add_four-4.ensures, ← c.add_four-5.ensures)
