use Rattle.std.proofs.Common.{false}
use mathlib.Core.Bool.{Bool, true}
use lib.ListN.{length, get_or}
use Rattle.assembly.specs.Assembly.{branch_cells}
use Rattle.resolved_rows.specs.LoadResolved.{add_stored, branch_places}
use Rattle.resolved_rows.specs.ByNumbers.{branch_stored}
use Rattle.load_resolved.specs.ByNumbers.{add_branch, add_conductance}
use Rattle.charges_resolved.proofs.branch_at.Goals as goal
-- `charges_resolved::branch_at`: the places that it reads are those that were asked for where it conducts.
use mathlib.Core.Path.{◌≡◌, subst}

pub add_four-requires : goal.add_four-requires
add_four-requires c =
    let w = c.args.cells.now in
    subst (λ (conducts : Bool). branch_stored (length c.args.xs.now) conducts c.args.a c.args.b (get_or w c.args.aa 0) (get_or w c.args.ab 0) (get_or w c.args.bb 0) (get_or w c.args.ba 0) ≡ true) c.if-br.true c.requires.1.1.1.1

pub returns-then-br : goal.returns-then-br
unfolding add_branch add_conductance branch_cells branch_places
returns-then-br c = rw c.if-br.true c.add_four.ensures

pub returns-else-br : goal.returns-else-br
unfolding add_branch add_stored branch_cells branch_places
returns-else-br c = rw c.if-br.false
