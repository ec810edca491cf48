use mathlib.Core.Bool.{true}
use lib.ListN.{length}
use Rattle.stamps.specs.declared.ChargeBranches.{ChargeBranches}
use Rattle.places.specs.Places.{nodes_of}
use Rattle.places.specs.declared.Nodes.{Nodes}
use Rattle.adding.specs.Adding.{add_sources}
use Rattle.resolved_rows.specs.ByNumbers.{conducting_stored}
use Rattle.load_resolved.specs.ByNumbers.{add_branches_stored, history_sources}
use Rattle.load_resolved.proofs.There.{conducting_is}
use Rattle.charges_resolved.proofs.add_charges.Goals as goal
-- `charges_resolved::add_charges`: the numbers are those of the device's nodes.
use mathlib.Core.Path.{◌≡◌, sym, ap, ◌∙◌, subst}

pub add_branches-requires : goal.add_branches-requires
add_branches-requires c =
    let w = c.args.cells.now in
    let m = length c.args.values.now in
    subst (λ (n : Nodes). conducting_stored m n w c.charge_branches-b.result ≡ true) (sym c.requires.0)
    (subst (λ (b : ChargeBranches). conducting_stored m (nodes_of c.args.d.terminals) w b ≡ true) (sym c.charge_branches-b.ensures)
    (conducting_is m (nodes_of c.args.d.terminals) w c.args.d c.args.alpha ∙ c.requires.1))

pub returns : goal.returns
returns c =
    let w = c.args.cells.now in
    let n = c.requires.0 in
    let b = c.charge_branches-b.ensures in (
      c.add_branches.ensures
          ∙ ap (λ (n : Nodes). add_branches_stored n w c.charge_branches-b.result c.args.values.now) n
          ∙ ap (λ (b : ChargeBranches). add_branches_stored (nodes_of c.args.d.terminals) w b c.args.values.now) b,
      c.add_histories.ensures
          ∙ ap (λ (n : Nodes). add_sources (history_sources n c.charge_branches-b.result) c.args.rhs.now) n
          ∙ ap (λ (b : ChargeBranches). add_sources (history_sources (nodes_of c.args.d.terminals) b) c.args.rhs.now) b,
    )
