use Rattle.charges_resolved.proofs.charge_branches.Goals as goal
-- `charges_resolved::charge_branches`: each of the five.
use Rattle.stamps.proofs.Records.{branches_same}

pub returns : goal.returns
returns c = branches_same c.gs_branch.ensures c.gd_branch.ensures c.gb_branch.ensures c.bs_branch.ensures c.bd_branch.ensures
