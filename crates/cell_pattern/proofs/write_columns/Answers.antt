use mathlib.Core.Path.{refl, sym, ◌∙◌}
use native.Mathlib.Omega.{arith}
use lib.ListN.{length-set}
use Rattle.cell_pattern.specs.CellPattern.{columns_in}
use Rattle.cell_pattern.proofs.Counts.{length_columns, column_at, put, put_all}
use Rattle.cell_pattern.proofs.write_columns.Goals as goal

pub loop-i-init : goal.loop-i-init
loop-i-init c = (omega arith, (c.requires, (refl, refl)))

pub loop-i-preserved : goal.loop-i-preserved
loop-i-preserved c =
    let cells = c.args.cells.now in
    let n = length_columns cells in (
      omega arith,
      (
        c.loop-i.invariant.1.0,
        (
          length-set c.loop-i.columns c.loop-i.i c.column_of.result ∙ c.loop-i.invariant.1.1.0,
          rw c.loop-i.invariant.1.1.1
              (put (columns_in cells) c.args.columns.now c.loop-i.i c.column_of.result (omega arith) (omega arith)
              (c.column_of.ensures ∙ sym (column_at cells c.loop-i.i (omega arith)))),
        ),
      ),
    )

pub shape_of-columns : goal.shape_of-columns
shape_of-columns c = c.loop-i.invariant.1.1.0

pub returns : goal.returns
returns c =
    c.loop-i.invariant.1.1.1 ∙ put_all (columns_in c.args.cells.now) c.args.columns.now c.loop-i.i (omega (arith, length_columns c.args.cells.now))
