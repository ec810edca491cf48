use Rattle.std.proofs.Common.{false}
use Prim.Native.Nat.{◌+◌, ◌<◌}
use lib.ListN.{length, get_or}
use Rattle.assembly.specs.Assembly.{paired}
use Rattle.resolved_rows.specs.LoadResolved.{add_stored}
use Rattle.load_resolved.specs.ByNumbers.{add_pair}
use Rattle.load_resolved.proofs.Stored.{pair_plain}
use Rattle.load_resolved.proofs.There.{still_below, pair_known}
use Rattle.load_resolved.proofs.add_pair.Goals as goal
-- `load_resolved::add_pair`: four additions in turn, by cell or plain.
use mathlib.Core.Path.{sym, ◌∙◌}

pub add_known-requires : goal.add_known-requires
add_known-requires c =
    let below : (get_or c.args.cells.now c.args.k 0 < length c.args.xs.now) × ((get_or c.args.cells.now (c.args.k + 1) 0 < length c.args.xs.now) × ((get_or c.args.cells.now (c.args.k + 2) 0 < length c.args.xs.now) × (get_or c.args.cells.now (c.args.k + 3) 0 < length c.args.xs.now))) = pair_known _ _ _ (sym c.either_ground.ensures ∙ c.if-either_ground.false) _ _ _ _ c.requires.1 in
    below.0

pub add_known-requires-else-either_ground : goal.add_known-requires-else-either_ground
add_known-requires-else-either_ground c =
    let below : (get_or c.args.cells.now c.args.k 0 < length c.args.xs.now) × ((get_or c.args.cells.now (c.args.k + 1) 0 < length c.args.xs.now) × ((get_or c.args.cells.now (c.args.k + 2) 0 < length c.args.xs.now) × (get_or c.args.cells.now (c.args.k + 3) 0 < length c.args.xs.now))) = pair_known _ _ _ (sym c.either_ground.ensures ∙ c.if-either_ground.false) _ _ _ _ c.requires.1 in
    still_below _ _ _ c.add_known.ensures below.1.0

pub add_known-requires-else-either_ground-2 : goal.add_known-requires-else-either_ground-2
add_known-requires-else-either_ground-2 c =
    let below : (get_or c.args.cells.now c.args.k 0 < length c.args.xs.now) × ((get_or c.args.cells.now (c.args.k + 1) 0 < length c.args.xs.now) × ((get_or c.args.cells.now (c.args.k + 2) 0 < length c.args.xs.now) × (get_or c.args.cells.now (c.args.k + 3) 0 < length c.args.xs.now))) = pair_known _ _ _ (sym c.either_ground.ensures ∙ c.if-either_ground.false) _ _ _ _ c.requires.1 in
    still_below _ _ _ c.add_known-else-either_ground.ensures (still_below _ _ _ c.add_known.ensures below.1.1.0)

pub add_known-requires-else-either_ground-3 : goal.add_known-requires-else-either_ground-3
add_known-requires-else-either_ground-3 c =
    let below : (get_or c.args.cells.now c.args.k 0 < length c.args.xs.now) × ((get_or c.args.cells.now (c.args.k + 1) 0 < length c.args.xs.now) × ((get_or c.args.cells.now (c.args.k + 2) 0 < length c.args.xs.now) × (get_or c.args.cells.now (c.args.k + 3) 0 < length c.args.xs.now))) = pair_known _ _ _ (sym c.either_ground.ensures ∙ c.if-either_ground.false) _ _ _ _ c.requires.1 in
    still_below _ _ _ c.add_known-else-either_ground-2.ensures (still_below _ _ _ c.add_known-else-either_ground.ensures (still_below _ _ _ c.add_known.ensures below.1.1.1))

pub returns-then-either_ground : goal.returns-then-either_ground
unfolding add_pair add_stored paired
returns-then-either_ground c = rw (c.add_cell-then-either_ground-3.ensures, c.add_cell-then-either_ground-2.ensures, c.add_cell-then-either_ground.ensures, c.add_cell.ensures)

pub returns-else-either_ground : goal.returns-else-either_ground
returns-else-either_ground c = rw (c.add_known-else-either_ground-3.ensures, c.add_known-else-either_ground-2.ensures, c.add_known-else-either_ground.ensures, c.add_known.ensures) (pair_plain _ _ (sym c.either_ground.ensures ∙ c.if-either_ground.false) _ _ _ _ _ _)
