-- A load's contributions are what its parts add: the pairs and offsets, then, where it is transient, the branches and their histories.
use mathlib.Core.Path.{◌≡◌, refl, sym, ap, ◌∙◌}
use mathlib.Core.Bool.{cond, not}
use mathlib.Core.List.{List, [], ◌∷◌, ◌++◌}
use Prim.Native.Nat.{ℕ, ◌≤◌}
use native.Mathlib.Nat.{suc_inj}
use native.Mathlib.Omega.{arith}
use lib.ListN.{length, get_or}
use lib.Dec.{eqb}
use lib.Ieee.{Float}
use borrow.Author.Tests.{eq-eqb, ne_eqb}
use Rattle.device.specs.Refusals.{done, refused}
use Rattle.device.specs.Stages.{unevaluated}
use Rattle.device.proofs.Rows.{by_number}
use Rattle.device.specs.declared.Terminals.{Terminals}
use Rattle.device.specs.declared.Mosfet1.{Mosfet1}
use Rattle.stamps.specs.Stamps.{jac_pairs_of, jac_values_of, residual_of, charge_branches_of}
use Rattle.stamps.specs.declared.Residual.{Residual}
use Rattle.stamps.specs.declared.ChargeBranches.{ChargeBranches}
use Rattle.places.specs.Places.{skipped_number, nodes_of, terminals_at}
use Rattle.places.specs.declared.Nodes.{Nodes}
use Rattle.adding.specs.Adding.{add_sources, offset_sources, branch_history, source_contributions}
use Rattle.adding.proofs.Adding.{sources_append}
use Rattle.assembly.specs.Assembly.{Contribution, paired, branch_cells, matrix_contributions}
use Rattle.loading.specs.Loading.{nodes_outside, alpha_outside, branches_of, no_branches, no_branch, jacobian_contributions, rhs_contributions, if_done}
use Rattle.loading.specs.declared.LoadKind.{LoadKind}
use Rattle.loading.specs.declared.LoadKind.TheVariants.{DirectCurrent, Transient}
use Rattle.loading.proofs.Rows.{early_terminals}
use Rattle.resolved_rows.specs.LoadResolved.{numbers_from, add_stored, branch_places, stored_places, cells_held, load_resolved_rows, load_resolved_of, resolved_row_of, LoadedResolved}
use Rattle.load_resolved.specs.ByNumbers.{add_branch, add_branches_stored, history_sources}
use Rattle.resolved_rows.proofs.Held.{pair_cells, gs_cells, gd_cells, gb_cells, bs_cells, bd_cells, pair_places, gs_places, gd_places, gb_places, bs_places, bd_places, length_pairs, length_1, length_2, length_3, length_4}
use Rattle.resolved_rows.proofs.Outcomes.{five_early}

-- contributions one after another
pub added_append : (cs ds : List Contribution) (ps qs : List ℕ) (xs : List Float) → length cs ≡ length ps
    → add_stored (cs ++ ds) (ps ++ qs) xs ≡ add_stored ds qs (add_stored cs ps xs)
unfolding add_stored
added_append [] ds [] qs xs e = refl
added_append [] ds (p ∷ ps) qs xs e = absurd (omega arith)
added_append (c ∷ cs) ds [] qs xs e = absurd (omega arith)
added_append (c ∷ cs) ds (p ∷ ps) qs xs e = added_append cs ds ps qs _ (suc_inj e)

module _ (m : Nodes) (w : List ℕ) (d : Mosfet1) (br : ChargeBranches) where
  branches_added : (xs : List Float) → add_branches_stored m w br (add_stored (pair_cells 0 m w d br) (pair_places 0 m w d br) xs)
      ≡ add_stored (matrix_contributions (terminals_at m) (jac_values_of d) br) (stored_places w br) xs
  unfolding matrix_contributions stored_places terminals_at add_branches_stored add_branch
  branches_added xs =
      let P = pair_cells 0 m w d br in
      let Q = pair_places 0 m w d br in
      let g1 = gs_cells 0 m w d br in
      let g2 = gd_cells 0 m w d br in
      let g3 = gb_cells 0 m w d br in
      let g4 = bs_cells 0 m w d br in
      let g5 = bd_cells 0 m w d br in
      let q1 = gs_places 0 m w d br in
      let q2 = gd_places 0 m w d br in
      let q3 = gb_places 0 m w d br in
      let q4 = bs_places 0 m w d br in
      let q5 = bd_places 0 m w d br in
      sym
      (added_append (P ++ g1 ++ g2 ++ g3 ++ g4) g5 (Q ++ q1 ++ q2 ++ q3 ++ q4) q5 xs (length_4 0 m w d br)
      ∙ ap (add_stored g5 q5)
      (added_append (P ++ g1 ++ g2 ++ g3) g4 (Q ++ q1 ++ q2 ++ q3) q4 xs (length_3 0 m w d br)
      ∙ ap (add_stored g4 q4)
      (added_append (P ++ g1 ++ g2) g3 (Q ++ q1 ++ q2) q3 xs (length_2 0 m w d br)
      ∙ ap (add_stored g3 q3)
      (added_append (P ++ g1) g2 (Q ++ q1) q2 xs (length_1 0 m w d br)
      ∙ ap (add_stored g2 q2) (added_append P g1 Q q1 xs (length_pairs 0 m w d br))))))

  histories_added : (o : Residual) (xs : List Float) → add_sources (history_sources m br) (add_sources (offset_sources (terminals_at m) o) xs)
      ≡ add_sources (source_contributions (terminals_at m) o br) xs
  unfolding history_sources source_contributions terminals_at
  histories_added o xs = rw (sources_append, sources_append, sources_append, sources_append, sources_append, sources_append, sources_append, sources_append, sources_append)

-- at direct current no branch adds
no_branch_cells : (t : Terminals) (w : List ℕ) (d : Mosfet1) (xs : List Float)
    → add_stored (paired (jac_pairs_of t) (jac_values_of d)) (numbers_from w 8 24) xs ≡ add_stored (matrix_contributions t (jac_values_of d) no_branches) (stored_places w no_branches) xs
unfolding matrix_contributions stored_places branch_cells branch_places no_branches no_branch paired jac_pairs_of jac_values_of numbers_from
no_branch_cells t w d xs = refl

no_branch_sources : (t : Terminals) (o : Residual) (xs : List Float) → add_sources (offset_sources t o) xs ≡ add_sources (source_contributions t o no_branches) xs
unfolding source_contributions branch_history no_branches no_branch offset_sources
no_branch_sources t o xs = refl

module _ (d : Mosfet1) (k : LoadKind) (w : List ℕ) (rhs values : List Float) where
  abbrev rows : ℕ
  rows = resolved_row_of d k w (length rhs) (length values)

  by_row : load_resolved_of d k w rhs values ≡ cond (eqb rows 0) (done tt) (refused rows)
  unfolding load_resolved_of resolved_row_of
  by_row = by_number (load_resolved_rows d k w (length rhs) (length values)) refused (done tt) tt

  pub refused_row : (row : ℕ) → row ≡ rows → (row ≡ 0 → ⊥) → LoadedResolved d k w rhs values (refused row) rhs values
  unfolding if_done
  refused_row row e h = record {
    answer = sym (by_row ∙ rw (ne_eqb rows 0 (λ z. h (e ∙ z)), ← e));
    side = refl;
    matrix = refl;
  }

  pub accepted_row : rows ≡ 0 → (rhs' values' : List Float) → rhs' ≡ add_sources (rhs_contributions d k) rhs
      → values' ≡ add_stored (jacobian_contributions d k) (stored_places w (branches_of d k)) values → LoadedResolved d k w rhs values (done tt) rhs' values'
  unfolding if_done
  accepted_row e rhs' values' s m = record { answer = sym (by_row ∙ rw (eq-eqb rows 0 e)); side = s; matrix = m }

  -- no node has ground's number but ground
  pub nodes_back : length rhs ≤ skipped_number → rows ≡ 0 → terminals_at (nodes_of d.terminals) ≡ d.terminals
  unfolding resolved_row_of
  nodes_back room e =
      early_terminals d.stage d.terminals (length rhs) (get_or w 6 0) (alpha_outside d.disc k) (not (eqb (length values) (get_or w 7 0))) room
      (five_early (nodes_outside d.stage d.terminals (length rhs) (get_or w 6 0)) (unevaluated d.stage) (alpha_outside d.disc k) (not (eqb (length values) (get_or w 7 0))) (not (cells_held w d k (length values))) e)

-- what both slices hold after the static part, and after the charge branches
module _ (d : Mosfet1) (w : List ℕ) (back : terminals_at (nodes_of d.terminals) ≡ d.terminals) where
  pub static_matrix_lem : (values : List Float)
      → add_stored (paired (jac_pairs_of (terminals_at (nodes_of d.terminals))) (jac_values_of d)) (numbers_from w 8 24) values ≡ add_stored (jacobian_contributions d DirectCurrent) (stored_places w (branches_of d DirectCurrent)) values
  unfolding jacobian_contributions branches_of
  static_matrix_lem values = rw back (no_branch_cells d.terminals w d values)

  pub static_side_lem : (rhs : List Float) → add_sources (offset_sources (terminals_at (nodes_of d.terminals)) (residual_of d)) rhs ≡ add_sources (rhs_contributions d DirectCurrent) rhs
  unfolding rhs_contributions branches_of
  static_side_lem rhs = rw back (no_branch_sources d.terminals (residual_of d) rhs)

  pub transient_matrix : (alpha : Float) (values : List Float)
      → add_branches_stored (nodes_of d.terminals) w (charge_branches_of d alpha) (add_stored (paired (jac_pairs_of (terminals_at (nodes_of d.terminals))) (jac_values_of d)) (numbers_from w 8 24) values)
      ≡ add_stored (jacobian_contributions d (Transient alpha)) (stored_places w (branches_of d (Transient alpha))) values
  unfolding jacobian_contributions branches_of
  transient_matrix alpha values =
      branches_added (nodes_of d.terminals) w d (charge_branches_of d alpha) values
      ∙ ap (λ (t : Terminals). add_stored (matrix_contributions t (jac_values_of d) (charge_branches_of d alpha)) (stored_places w (charge_branches_of d alpha)) values) back

  pub transient_side : (alpha : Float) (rhs : List Float)
      → add_sources (history_sources (nodes_of d.terminals) (charge_branches_of d alpha)) (add_sources (offset_sources (terminals_at (nodes_of d.terminals)) (residual_of d)) rhs) ≡ add_sources (rhs_contributions d (Transient alpha)) rhs
  unfolding rhs_contributions branches_of
  transient_side alpha rhs =
      histories_added (nodes_of d.terminals) w d (charge_branches_of d alpha) (residual_of d) rhs
      ∙ ap (λ (t : Terminals). add_sources (source_contributions t (residual_of d) (charge_branches_of d alpha)) rhs) back
