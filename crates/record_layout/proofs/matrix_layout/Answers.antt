use Rattle.matrix_layout.specs.MatrixLayout.{at_exit}
use Rattle.record_layout.specs.Layout.{layout_call, layout_written, layout_columns, layout_offsets, layout_lengths}
use Rattle.record_layout.proofs.matrix_layout.Goals as goal

-- `record_layout::matrix_layout`: the tags, then the device's own answer and slices.

pub returns-then-not-good_tags : goal.returns-then-not-good_tags
unfolding at_exit layout_call layout_written layout_columns layout_offsets layout_lengths
returns-then-not-good_tags c =
    let g = c.good_tags in
    let unknown = c.if-not-good_tags.true in
    (rw (← g.ensures, unknown), (rw (← g.ensures, unknown), (rw (← g.ensures, unknown), rw (← g.ensures, unknown))))

pub returns : goal.returns
unfolding layout_call layout_written layout_columns layout_offsets layout_lengths
returns c =
    let m = c.matrix_layout-a.ensures in
    let d = c.device_from-d.ensures in
    let g = c.good_tags in
    let known = c.if-not-good_tags.false in (
      rw (c.layout_outcome.ensures, m.answer, d, ← g.ensures, known),
      (rw (← g.ensures, known, ← d) m.columns_are, (rw (← g.ensures, known, ← d) m.offsets_are, rw (← g.ensures, known, ← d) m.lengths_are)),
    )
