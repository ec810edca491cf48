use mathlib.Core.Path.{sym, ap, ◌∙◌}
use Prim.Native.Nat.{ℕ, ◌-◌}
use native.Mathlib.Numerals.{add-one}
use native.Mathlib.Omega.{arith}
use Rattle.cell_pattern.specs.CellPattern.{lengths_in, running_offsets}
use Rattle.cell_pattern.specs.Steps.{count_before}
use Rattle.cell_pattern.proofs.Counts.{before_none, row_more, length_offsets, length_lengths, offset_here, length_here, none_written, one_written, all_written}
use Rattle.cell_pattern.proofs.write_rows.Goals as goal

pub loop-row-init : goal.loop-row-init
loop-row-init c =
    (omega arith, (sym (before_none c.args.cells.now), (none_written _ _, none_written _ _)))

pub row_end-end-requires : goal.row_end-end-requires
row_end-end-requires c = (c.requires.0, c.loop-row.invariant.1.0)

pub offset_bounds-offsets-row : goal.offset_bounds-offsets-row
offset_bounds-offsets-row c = omega (arith, c.requires.1.0)

pub bounds-offsets-row : goal.bounds-offsets-row
bounds-offsets-row c = omega (arith, c.loop-row.invariant.1.1.0.same, c.requires.1.0)

pub overflow_sub-lengths : goal.overflow_sub-lengths
overflow_sub-lengths c =
    omega (arith, row_more c.loop-row.row c.args.cells.now, c.row_end-end.ensures, c.loop-row.invariant.1.0)

pub offset_bounds-lengths-row : goal.offset_bounds-lengths-row
offset_bounds-lengths-row c = omega (arith, c.requires.1.1)

pub bounds-lengths-row : goal.bounds-lengths-row
bounds-lengths-row c = omega (arith, c.loop-row.invariant.1.1.1.same, c.requires.1.1)

pub loop-row-preserved : goal.loop-row-preserved
loop-row-preserved c =
    let cells = c.args.cells.now in
    let row = c.loop-row.row in
    let rows = c.args.rows in (
      omega arith,
      (
        c.row_end-end.ensures ∙ ap (λ (r : ℕ). count_before r cells) (sym (add-one row)),
        (
          one_written (running_offsets 0 (lengths_in cells 0 rows)) c.args.offsets.now row c.loop-row.at c.loop-row.offsets c.loop-row.invariant.1.1.0
              (omega (arith, length_offsets cells rows)) (omega (arith, length_offsets cells rows, c.requires.1.0))
              (offset_here cells rows row c.loop-row.at (omega arith) c.loop-row.invariant.1.0),
          one_written (lengths_in cells 0 rows) c.args.lengths.now row (c.row_end-end.result - c.loop-row.at) c.loop-row.lengths c.loop-row.invariant.1.1.1
              (omega (arith, length_lengths cells 0 rows)) (omega (arith, length_lengths cells 0 rows, c.requires.1.1))
              (length_here cells rows row c.loop-row.at c.row_end-end.result (omega arith) c.loop-row.invariant.1.0 c.row_end-end.ensures),
        ),
      ),
    )

pub shape_of-offsets : goal.shape_of-offsets
shape_of-offsets c = c.loop-row.invariant.1.1.0.same

pub shape_of-lengths : goal.shape_of-lengths
shape_of-lengths c = c.loop-row.invariant.1.1.1.same

pub returns : goal.returns
returns c =
    let cells = c.args.cells.now in (
      all_written (running_offsets 0 (lengths_in cells 0 c.args.rows)) c.args.offsets.now c.loop-row.row c.loop-row.offsets c.loop-row.invariant.1.1.0
          (omega (arith, length_offsets cells c.args.rows)),
      all_written (lengths_in cells 0 c.args.rows) c.args.lengths.now c.loop-row.row c.loop-row.lengths c.loop-row.invariant.1.1.1
          (omega (arith, length_lengths cells 0 c.args.rows)),
    )
