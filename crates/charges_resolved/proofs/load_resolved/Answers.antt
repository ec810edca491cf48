use Rattle.std.proofs.Common.{zero, false}
use mathlib.Core.Bool.{true, false≢true}
use mathlib.Core.List.{List}
use Prim.Native.Nat.{ℕ, ◌≤◌}
use native.Mathlib.Omega.{arith}
use Rattle.std.proofs.lemmas.Result.{err_from_is_err_and}
use Rattle.device.specs.Refusals.{number_of}
use Rattle.loading.proofs.Rows.{never_0}
use lib.ListN.{length}
use lib.Ieee.{Float}
use Rattle.stamps.specs.Stamps.{charge_branches_of}
use Rattle.places.specs.Places.{skipped_number, nodes_of}
use Rattle.adding.specs.Adding.{add_sources}
use Rattle.loading.specs.Loading.{branches_of, jacobian_contributions, rhs_contributions}
use Rattle.loading.specs.declared.LoadKind.{LoadKind}
use Rattle.resolved_rows.specs.LoadResolved.{add_stored, stored_places, resolved_row_of}
use Rattle.resolved_rows.specs.ByNumbers.{branches_stored}
use Rattle.load_resolved.specs.ByNumbers.{add_branches_stored, history_sources}
use Rattle.load_resolved.proofs.Stored.{length_stored}
use Rattle.load_resolved.proofs.Parts.{refused_row, accepted_row, nodes_back, static_matrix_lem, static_side_lem, transient_matrix, transient_side}
use Rattle.resolved_rows.proofs.Known.{pairs_held, branches_held}
use Rattle.charges_resolved.proofs.load_resolved.Goals as goal
-- `charges_resolved::load_resolved`: the rows, then the parts.
use mathlib.Core.Path.{◌≡◌, sym, ap, ◌∙◌, subst}

pub resolved_row-requires : goal.resolved_row-requires
resolved_row-requires c = (c.indices-n.ensures, λ e. absurd (false≢true e))

pub returns-in_err-resolved_row : goal.returns-in_err-resolved_row
returns-in_err-resolved_row c =
    let p = err_from_is_err_and c.from_residual.result c.from_residual.ensures.1 in
    rw (p.1, p.2)
    (refused_row c.args.d c.args.kind c.args.cells.now c.args.rhs.now c.args.values.now (number_of c.in_err-resolved_row.field-0.0)
    c.in_err-resolved_row.ensures (never_0 c.in_err-resolved_row.field-0.0))

pub add_static-requires : goal.add_static-requires
add_static-requires c =
    let room : length c.args.rhs.now ≤ skipped_number = omega arith in
    (c.indices-n.ensures, pairs_held c.args.d c.args.kind c.args.cells.now _ _ room (sym c.in_ok-resolved_row.ensures))

pub add_charges-requires : goal.add_charges-requires
add_charges-requires c =
    let room : length c.args.rhs.now ≤ skipped_number = omega arith in
    let d = c.args.d in
    let w = c.args.cells.now in
    let zero = sym c.in_ok-resolved_row.ensures in
    let same = ap length c.add_static.ensures.0 ∙ length_stored _ _ _ in (
      c.indices-n.ensures,
      subst (λ (n : ℕ). branches_stored n (nodes_of d.terminals) w d.charges ≡ true) (sym same)
          (branches_held d _ w _ _ room (subst (λ (k : LoadKind). resolved_row_of d k w (length c.args.rhs.now) (length c.args.values.now) ≡ 0) c.in-Transient.is zero)),
    )

pub returns-in-DirectCurrent : goal.returns-in-DirectCurrent
returns-in-DirectCurrent c =
    let room : length c.args.rhs.now ≤ skipped_number = omega arith in
    let d = c.args.d in
    let w = c.args.cells.now in
    let rhs = c.args.rhs.now in
    let values = c.args.values.now in
    let zero = sym c.in_ok-resolved_row.ensures in
    let back = nodes_back d c.args.kind w rhs values room zero in
    let is = sym c.in-DirectCurrent.is in
    accepted_row d c.args.kind w rhs values zero _ _
    (c.add_static.ensures.1 ∙ static_side_lem d w back rhs ∙ ap (λ (k : LoadKind). add_sources (rhs_contributions d k) rhs) is)
    (c.add_static.ensures.0 ∙ static_matrix_lem d w back values ∙ ap (λ (k : LoadKind). add_stored (jacobian_contributions d k) (stored_places w (branches_of d k)) values) is)

pub returns-in-Transient : goal.returns-in-Transient
returns-in-Transient c =
    let room : length c.args.rhs.now ≤ skipped_number = omega arith in
    let d = c.args.d in
    let w = c.args.cells.now in
    let rhs = c.args.rhs.now in
    let values = c.args.values.now in
    let zero = sym c.in_ok-resolved_row.ensures in
    let back = nodes_back d c.args.kind w rhs values room zero in
    let alpha = c.in-Transient.alpha in
    let is = sym c.in-Transient.is in
    accepted_row d c.args.kind w rhs values zero _ _
    (c.add_charges.ensures.1
    ∙ ap (λ (xs : List Float). add_sources (history_sources (nodes_of d.terminals) (charge_branches_of d alpha)) xs) c.add_static.ensures.1
    ∙ transient_side d w back alpha rhs
    ∙ ap (λ (k : LoadKind). add_sources (rhs_contributions d k) rhs) is)
    (c.add_charges.ensures.0
    ∙ ap (λ (xs : List Float). add_branches_stored (nodes_of d.terminals) w (charge_branches_of d alpha) xs) c.add_static.ensures.0
    ∙ transient_matrix d w back alpha values
    ∙ ap (λ (k : LoadKind). add_stored (jacobian_contributions d k) (stored_places w (branches_of d k)) values) is)
