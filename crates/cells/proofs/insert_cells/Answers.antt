use mathlib.Core.Path.{◌≡◌, refl, sym, ap, ◌∙◌}
use native.Mathlib.Omega.{arith}
use borrow.Author.Rules.{rules}
use lib.ListN.{length, replicate}
use Rattle.cells.specs.Steps.{carry_cells_of}
use Rattle.cells.proofs.Insertion.{cells_more, cells_end, further, listed}
use Rattle.cells.proofs.insert_cells.Goals as goal

pub loop-i-init : goal.loop-i-init
loop-i-init c = (omega arith, (search rules, (omega arith, (refl, refl))))

pub loop-i-preserved : goal.loop-i-preserved
loop-i-preserved c =
    let h : length c.args.rows ≡ 44 = search rules in
    let k : length c.args.columns ≡ 44 = search rules in (
      omega arith,
      (
        search rules,
        (
          omega (arith, c.insert_cell-list.ensures.more),
          (
            c.insert_cell-list.ensures.kept
                ∙ further c.loop-i.list.count c.insert_cell-list.result.count c.loop-i.list.numbers (replicate 44 1) c.insert_cell-list.ensures.less c.loop-i.invariant.1.1.1.0,
            ap (carry_cells_of _ _) c.insert_cell-list.ensures.first
                ∙ sym (cells_more c.args.rows c.args.columns _ c.loop-i.i (omega arith) (omega arith))
                ∙ c.loop-i.invariant.1.1.1.1,
          ),
        ),
      ),
    )

pub returns : goal.returns
returns c =
    let h : length c.args.rows ≡ 44 = search rules in
    listed _ c.loop-i.list.numbers c.loop-i.list.count (sym (cells_end c.args.rows c.args.columns _ c.loop-i.i (omega arith)) ∙ c.loop-i.invariant.1.1.1.1)
    (omega arith) c.loop-i.invariant.1.1.1.0
