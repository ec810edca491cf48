use mathlib.Core.Bool.{Bool, true, false, cond}
use Rattle.resolved_rows.specs.ByNumbers.{held}
use Rattle.resolved_rows.proofs.Below.{no_pair_missed, no_branch_missed}
use Rattle.resolved_rows.proofs.cells_held.Goals as goal
-- `resolved_rows::cells_held`: where every place is among the values, nothing else is asked.
use mathlib.Core.Path.{◌≡◌, refl, sym, ◌∙◌}

cond_same : (b : Bool) → true ≡ cond b true true
cond_same true = refl
cond_same false = refl

pub returns-then-all_below : goal.returns-then-all_below
unfolding held
returns-then-all_below c =
    let below = sym c.all_below.ensures ∙ c.if-all_below.true in
    rw (← c.nodes_are.ensures, c.if-nodes_are.true, no_pair_missed c.args.len c.args.cells.now below _, no_branch_missed c.args.len c.args.cells.now below c.args.n c.args.q)
    (c.if-all_below.true ∙ cond_same c.args.transient)

pub returns-then-not-transient : goal.returns-then-not-transient
unfolding held
returns-then-not-transient c = rw (← c.nodes_are.ensures, c.if-nodes_are.true, ← c.pairs_there.ensures, c.if-pairs_there.true, c.if-not-transient.true)

pub returns-else-not-transient : goal.returns-else-not-transient
unfolding held
returns-else-not-transient c = rw (← c.nodes_are.ensures, c.if-nodes_are.true, ← c.pairs_there.ensures, c.if-pairs_there.true, ← c.branches_there.ensures, c.if-not-transient.false)

pub returns-else-pairs_there : goal.returns-else-pairs_there
unfolding held
returns-else-pairs_there c = rw (← c.nodes_are.ensures, c.if-nodes_are.true, ← c.pairs_there.ensures, c.if-pairs_there.false)

pub returns-else-nodes_are : goal.returns-else-nodes_are
unfolding held
returns-else-nodes_are c = rw (← c.nodes_are.ensures, c.if-nodes_are.false)
