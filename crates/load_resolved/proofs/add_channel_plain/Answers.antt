use mathlib.Core.Bool.{true}
use Prim.Native.Nat.{ℕ}
use native.Mathlib.Omega.{arith}
use lib.ListN.{length}
use Rattle.adding.specs.Adding.{add_all}
use Rattle.resolved_rows.specs.LoadResolved.{numbers_from}
use Rattle.resolved_rows.specs.ByNumbers.{all_below}
use Rattle.load_resolved.proofs.Stored.{length_row}
use Rattle.load_resolved.proofs.There.{first_row, second_row}
use Rattle.load_resolved.proofs.add_channel_plain.Goals as goal
-- `load_resolved::add_channel_plain`: two rows in turn.
use mathlib.Core.Path.{◌≡◌, sym, ap, ◌∙◌, subst}

pub row_plain-requires : goal.row_plain-requires
row_plain-requires c = (omega arith, first_row _ _ c.requires)

pub row_plain-requires-2 : goal.row_plain-requires-2
row_plain-requires-2 c =
    let same = ap length c.row_plain.ensures ∙ length_row _ _ _ _ _ _ _ _ _ in
    (omega arith, second_row _ _ (subst (λ (n : ℕ). all_below n (numbers_from c.args.cells.now 8 8) ≡ true) (sym same) c.requires))

pub returns : goal.returns
unfolding add_all numbers_from
returns c = rw (c.row_plain-2.ensures, c.row_plain.ensures)
