use Rattle.resolved_rows.specs.LoadResolved.{add_stored, numbers_from}
use Rattle.load_resolved.specs.ByNumbers.{add_channel, add_row}
use Rattle.load_resolved.proofs.add_channel_by_cell.Goals as goal
-- `load_resolved::add_channel_by_cell`: two rows in turn.
use Rattle.assembly.specs.Assembly.{paired}

pub returns : goal.returns
unfolding add_channel add_row add_stored paired numbers_from
returns c = rw (c.row_by_cell-2.ensures, c.row_by_cell.ensures)
