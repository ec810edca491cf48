use Rattle.stamps.specs.Stamps.{jac_values_of}
use Rattle.stamps.proofs.jac_values.Goals as goal

pub returns : goal.returns
unfolding jac_values_of
returns c = rw (c.series-g_s.ensures, c.series-g_d.ensures)
