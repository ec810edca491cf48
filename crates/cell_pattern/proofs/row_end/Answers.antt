use Prim.Native.Nat.{suc}
use native.Mathlib.Omega.{arith}
use Rattle.cell_pattern.proofs.Counts.{before_length, row_more, is_before, past}
use Rattle.cell_pattern.proofs.row_end.Goals as goal

pub loop-i-init : goal.loop-i-init
loop-i-init c = omega (arith, c.requires.1, row_more c.args.row c.args.cells.now)

pub returns-then-row-row_of : goal.returns-then-row-row_of
returns-then-row-row_of c =
    let p = past (suc c.args.row) c.args.cells.now c.requires.0 c.loop-i.i (omega (arith, c.row_of.ensures)) in
    omega arith

pub loop-i-preserved : goal.loop-i-preserved
loop-i-preserved c =
    let p = is_before (suc c.args.row) c.args.cells.now c.requires.0 c.loop-i.i (omega arith) (omega (arith, c.row_of.ensures)) in
    omega arith

pub returns : goal.returns
returns c =
    omega (arith, before_length (suc c.args.row) c.args.cells.now, c.loop-i.invariant)
