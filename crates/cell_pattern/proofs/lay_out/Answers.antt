use mathlib.Core.Path.{ap, ◌∙◌, subst}
use lib.ListN.{take}
use Rattle.pattern.specs.Pattern.{rising}
use Rattle.places.specs.Places.{Pattern}
use Rattle.cells.proofs.Members.{cells_rise}
use Rattle.cell_pattern.specs.CellPattern.{LaidOut}
use Rattle.cell_pattern.proofs.Outcomes.{first_are, count_room, same_pattern}
use borrow.Author.Rules.{rules}
use Rattle.cell_pattern.proofs.lay_out.Goals as goal

pub write_list-requires : goal.write_list-requires
write_list-requires c =
    let g = c.cells-list.ensures in
    (count_room g (search rules), ap rising (first_are g) ∙ cells_rise _)

pub returns : goal.returns
returns c = (
  c.cells-list.ensures.counted,
  (
    c.row_count-rows.ensures,
    subst
        (λ (P : Pattern). LaidOut P c.args.columns.now c.args.offsets.now c.args.lengths.now
        c.write_list.new.columns c.write_list.new.offsets c.write_list.new.lengths)
        (same_pattern c.args.t.terminals (take c.cells-list.result.count c.cells-list.result.numbers) c.row_count-rows.result
        (first_are c.cells-list.ensures) c.row_count-rows.ensures)
        c.write_list.ensures,
  ),
)
