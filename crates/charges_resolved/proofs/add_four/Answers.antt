use Rattle.std.proofs.Common.{false}
use Prim.Native.Nat.{◌<◌}
use lib.ListN.{length}
use Rattle.assembly.specs.Assembly.{conductance_pair}
use Rattle.resolved_rows.specs.LoadResolved.{add_stored}
use Rattle.load_resolved.specs.ByNumbers.{add_conductance}
use Rattle.load_resolved.proofs.Stored.{conductance_plain}
use Rattle.load_resolved.proofs.There.{still_below, branch_known}
use Rattle.charges_resolved.proofs.add_four.Goals as goal
-- `charges_resolved::add_four`: four additions in turn, by cell or plain.
use mathlib.Core.Path.{sym, ◌∙◌}

pub add_known-requires : goal.add_known-requires
add_known-requires c =
    let below : (c.args.aa < length c.args.xs.now) × ((c.args.ab < length c.args.xs.now) × ((c.args.bb < length c.args.xs.now) × (c.args.ba < length c.args.xs.now))) = branch_known _ _ _ (sym c.either_ground.ensures ∙ c.if-either_ground.false) _ _ _ _ c.requires in
    below.0

pub add_known-requires-else-either_ground : goal.add_known-requires-else-either_ground
add_known-requires-else-either_ground c =
    let below : (c.args.aa < length c.args.xs.now) × ((c.args.ab < length c.args.xs.now) × ((c.args.bb < length c.args.xs.now) × (c.args.ba < length c.args.xs.now))) = branch_known _ _ _ (sym c.either_ground.ensures ∙ c.if-either_ground.false) _ _ _ _ c.requires in
    still_below _ _ _ c.add_known.ensures below.1.0

pub add_known-requires-else-either_ground-2 : goal.add_known-requires-else-either_ground-2
add_known-requires-else-either_ground-2 c =
    let below : (c.args.aa < length c.args.xs.now) × ((c.args.ab < length c.args.xs.now) × ((c.args.bb < length c.args.xs.now) × (c.args.ba < length c.args.xs.now))) = branch_known _ _ _ (sym c.either_ground.ensures ∙ c.if-either_ground.false) _ _ _ _ c.requires in
    still_below _ _ _ c.add_known-else-either_ground.ensures (still_below _ _ _ c.add_known.ensures below.1.1.0)

pub add_known-requires-else-either_ground-3 : goal.add_known-requires-else-either_ground-3
add_known-requires-else-either_ground-3 c =
    let below : (c.args.aa < length c.args.xs.now) × ((c.args.ab < length c.args.xs.now) × ((c.args.bb < length c.args.xs.now) × (c.args.ba < length c.args.xs.now))) = branch_known _ _ _ (sym c.either_ground.ensures ∙ c.if-either_ground.false) _ _ _ _ c.requires in
    still_below _ _ _ c.add_known-else-either_ground-2.ensures (still_below _ _ _ c.add_known-else-either_ground.ensures (still_below _ _ _ c.add_known.ensures below.1.1.1))

pub returns-then-either_ground : goal.returns-then-either_ground
unfolding add_conductance add_stored conductance_pair
returns-then-either_ground c = rw (c.add_cell-then-either_ground-3.ensures, c.add_cell-then-either_ground-2.ensures, c.add_cell-then-either_ground.ensures, c.add_cell.ensures)

pub returns-else-either_ground : goal.returns-else-either_ground
returns-else-either_ground c = rw (c.add_known-else-either_ground-3.ensures, c.add_known-else-either_ground-2.ensures, c.add_known-else-either_ground.ensures, c.add_known.ensures) (conductance_plain _ _ (sym c.either_ground.ensures ∙ c.if-either_ground.false) _ _ _ _ _ _)
