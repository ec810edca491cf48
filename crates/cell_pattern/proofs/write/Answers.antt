use mathlib.Core.Path.{sym, ◌∙◌}
use Rattle.cell_pattern.proofs.Outcomes.{Room, room, laid, kept}
use lib.ListN.{length}
use Rattle.cell_pattern.proofs.write.Goals as goal

pub write_columns-requires : goal.write_columns-requires
write_columns-requires c =
    let has_room : Room (length c.args.cells.now) c.args.rows (length c.args.columns.now) (length c.args.offsets.now) (length c.args.lengths.now) = room _ _ _ _ _ (sym c.have_room.ensures ∙ c.if-have_room.true) in
    has_room.for_columns

pub write_rows-requires : goal.write_rows-requires
write_rows-requires c =
    let has_room : Room (length c.args.cells.now) c.args.rows (length c.args.columns.now) (length c.args.offsets.now) (length c.args.lengths.now) = room _ _ _ _ _ (sym c.have_room.ensures ∙ c.if-have_room.true) in
    (c.requires, (has_room.for_offsets, has_room.for_lengths))

pub returns-then-have_room : goal.returns-then-have_room
returns-then-have_room c =
    laid c.args.cells.now c.args.rows c.args.columns.now c.args.offsets.now c.args.lengths.now
    c.have_room.result c.have_room.ensures c.if-have_room.true _ _ _
    c.write_columns.ensures c.write_rows.ensures.0 c.write_rows.ensures.1

pub returns-else-have_room : goal.returns-else-have_room
returns-else-have_room c =
    kept c.args.cells.now c.args.rows c.args.columns.now c.args.offsets.now c.args.lengths.now
    c.have_room.result c.have_room.ensures c.if-have_room.false
