use lib.ListN.{length, get_or}
use Rattle.load_resolved.proofs.There.{still_below, four_below}
use Rattle.load_resolved.proofs.row_plain.Goals as goal
-- `load_resolved::row_plain`: four additions in turn.
use Prim.Native.Nat.{◌+◌, ◌<◌}

pub add_known-requires : goal.add_known-requires
add_known-requires c =
    let below : (get_or c.args.cells.now c.args.k 0 < length c.args.xs.now) × ((get_or c.args.cells.now (c.args.k + 1) 0 < length c.args.xs.now) × ((get_or c.args.cells.now (c.args.k + 2) 0 < length c.args.xs.now) × (get_or c.args.cells.now (c.args.k + 3) 0 < length c.args.xs.now))) = four_below _ _ _ _ _ c.requires.1 in
    below.0

pub add_known-requires-2 : goal.add_known-requires-2
add_known-requires-2 c =
    let below : (get_or c.args.cells.now c.args.k 0 < length c.args.xs.now) × ((get_or c.args.cells.now (c.args.k + 1) 0 < length c.args.xs.now) × ((get_or c.args.cells.now (c.args.k + 2) 0 < length c.args.xs.now) × (get_or c.args.cells.now (c.args.k + 3) 0 < length c.args.xs.now))) = four_below _ _ _ _ _ c.requires.1 in
    still_below _ _ _ c.add_known.ensures below.1.0

pub add_known-requires-3 : goal.add_known-requires-3
add_known-requires-3 c =
    let below : (get_or c.args.cells.now c.args.k 0 < length c.args.xs.now) × ((get_or c.args.cells.now (c.args.k + 1) 0 < length c.args.xs.now) × ((get_or c.args.cells.now (c.args.k + 2) 0 < length c.args.xs.now) × (get_or c.args.cells.now (c.args.k + 3) 0 < length c.args.xs.now))) = four_below _ _ _ _ _ c.requires.1 in
    still_below _ _ _ c.add_known-2.ensures (still_below _ _ _ c.add_known.ensures below.1.1.0)

pub add_known-requires-4 : goal.add_known-requires-4
add_known-requires-4 c =
    let below : (get_or c.args.cells.now c.args.k 0 < length c.args.xs.now) × ((get_or c.args.cells.now (c.args.k + 1) 0 < length c.args.xs.now) × ((get_or c.args.cells.now (c.args.k + 2) 0 < length c.args.xs.now) × (get_or c.args.cells.now (c.args.k + 3) 0 < length c.args.xs.now))) = four_below _ _ _ _ _ c.requires.1 in
    still_below _ _ _ c.add_known-3.ensures (still_below _ _ _ c.add_known-2.ensures (still_below _ _ _ c.add_known.ensures below.1.1.1))

pub returns : goal.returns
returns c = rw (c.add_known-4.ensures, c.add_known-3.ensures, c.add_known-2.ensures, c.add_known.ensures)
