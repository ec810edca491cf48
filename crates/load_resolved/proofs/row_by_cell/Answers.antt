use Rattle.resolved_rows.specs.LoadResolved.{add_stored}
use Rattle.load_resolved.specs.ByNumbers.{add_row}
use Rattle.load_resolved.proofs.row_by_cell.Goals as goal
-- `load_resolved::row_by_cell`: four additions in turn.
use Rattle.assembly.specs.Assembly.{paired}

pub returns : goal.returns
unfolding add_row add_stored paired
returns c = rw (c.add_cell-4.ensures, c.add_cell-3.ensures, c.add_cell-2.ensures, c.add_cell.ensures)
