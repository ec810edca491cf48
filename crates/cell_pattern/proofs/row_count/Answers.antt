use Rattle.cells.specs.Cells.{row_width}
use Rattle.cells.proofs.Indices.{all_below}
use Rattle.cell_pattern.specs.CellPattern.{row_count}
use Rattle.cell_pattern.proofs.Outcomes.{larger_is}
use Rattle.cell_pattern.proofs.row_count.Goals as goal

pub rows_to-requires : goal.rows_to-requires
rows_to-requires c = (all_below row_width _ c.args.t.below).dx

pub rows_to-requires-2 : goal.rows_to-requires-2
rows_to-requires-2 c = (all_below row_width _ c.args.t.below).sx

pub rows_to-requires-3 : goal.rows_to-requires-3
rows_to-requires-3 c = (all_below row_width _ c.args.t.below).d

pub rows_to-requires-4 : goal.rows_to-requires-4
rows_to-requires-4 c = (all_below row_width _ c.args.t.below).g

pub rows_to-requires-5 : goal.rows_to-requires-5
rows_to-requires-5 c = (all_below row_width _ c.args.t.below).s

pub rows_to-requires-6 : goal.rows_to-requires-6
rows_to-requires-6 c = (all_below row_width _ c.args.t.below).b

pub returns : goal.returns
unfolding row_count
returns c =
    rw
    (larger_is _ _ _ c.max-5.ensures, larger_is _ _ _ c.max-4.ensures, larger_is _ _ _ c.max-3.ensures, larger_is _ _ _ c.max-2.ensures, larger_is _ _ _ c.max.ensures, c.rows_to-6.ensures, c.rows_to-5.ensures, c.rows_to-4.ensures, c.rows_to-3.ensures, c.rows_to-2.ensures, c.rows_to.ensures)
