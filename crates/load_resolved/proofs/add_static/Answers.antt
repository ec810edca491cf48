use mathlib.Core.Bool.{true}
use lib.ListN.{length}
use Rattle.stamps.specs.Stamps.{jac_pairs_of, jac_values_of}
use Rattle.stamps.specs.declared.Residual.{Residual}
use Rattle.places.specs.Places.{nodes_of, terminals_at}
use Rattle.places.specs.declared.Nodes.{Nodes}
use Rattle.adding.specs.Adding.{add_sources, offset_sources}
use Rattle.assembly.specs.Assembly.{paired}
use Rattle.resolved_rows.specs.LoadResolved.{numbers_from, add_stored}
use Rattle.resolved_rows.specs.ByNumbers.{pairs_stored}
use Rattle.load_resolved.proofs.add_static.Goals as goal
-- `load_resolved::add_static`: the numbers are those of the device's nodes.
use mathlib.Core.Path.{◌≡◌, sym, ap, ◌∙◌, subst}

pub add_jacobian-requires : goal.add_jacobian-requires
add_jacobian-requires c =
    subst (λ (n : Nodes). pairs_stored (length c.args.values.now) (jac_pairs_of (terminals_at n)) (numbers_from c.args.cells.now 8 24) ≡ true) (sym c.requires.0) c.requires.1

pub returns : goal.returns
returns c =
    let d = c.args.d in
    let w = c.args.cells.now in
    let n = c.requires.0 in (
      c.add_jacobian.ensures ∙ ap (λ (n : Nodes). add_stored (paired (jac_pairs_of (terminals_at n)) (jac_values_of d)) (numbers_from w 8 24) c.args.values.now) n,
      c.add_offsets.ensures
          ∙ ap (λ (n : Nodes). add_sources (offset_sources (terminals_at n) c.residual_values-o.result) c.args.rhs.now) n
          ∙ ap (λ (o : Residual). add_sources (offset_sources (terminals_at (nodes_of d.terminals)) o) c.args.rhs.now) c.residual_values-o.ensures,
    )
