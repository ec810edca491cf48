use Rattle.stamps.specs.Stamps.{jac_pairs_of}
use Rattle.places.specs.Places.{nodes_of}
use Rattle.cells.specs.Cells.{positions_of}
use Rattle.cells.specs.Steps.{row_indices}
use Rattle.cells.proofs.rows.Goals as goal

pub returns : goal.returns
unfolding positions_of row_indices nodes_of jac_pairs_of
returns c = rw c.indices-dx.ensures
