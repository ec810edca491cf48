use Rattle.charges.specs.Charges.{gate_shares_of}
use Rattle.charges.proofs.gate_shares.Goals as goal

pub returns : goal.returns
unfolding gate_shares_of
returns c = rw (c.meyer.ensures, c.region_at-at.ensures, c.max-vdsat.ensures)
