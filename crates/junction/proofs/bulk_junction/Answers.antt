use Rattle.junction.proofs.OverExponential.{over_exponential}
use Rattle.junction.proofs.bulk_junction.Goals as goal

pub junction_exponential-e-requires : goal.junction_exponential-e-requires
junction_exponential-e-requires c = tt

pub junction_at-requires : goal.junction_at-requires
junction_at-requires c = tt

pub returns : goal.returns
returns c = rw (over_exponential _ _ _ _, c.junction_at.ensures, c.junction_exponential-e.ensures)
