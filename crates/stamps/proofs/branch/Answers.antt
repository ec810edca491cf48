use Rattle.stamps.specs.Stamps.{branch_of}
use Rattle.stamps.proofs.branch.Goals as goal

pub returns : goal.returns
unfolding branch_of
returns c = rw (c.companion-history.ensures, c.scale-factor.ensures)
