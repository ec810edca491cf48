-- Every load on the pattern of a device's cells.
use Prim.Native.Nat.{ℕ, ◌≤◌}
use mathlib.Core.Path.{◌≡◌, refl, sym, ap, ◌∙◌, subst}
use mathlib.Core.Logic.{◌≢◌}
use mathlib.Core.Bool.{Bool, true, false, not, ◌&&◌, false≢true}
use mathlib.Core.List.{List, [], ◌∷◌}
use native.Mathlib.Omega.{arith}
use lib.ListN.{length, take}
use lib.Ieee.{Float}
use lib.Dec.{eqb}
use borrow.Author.Tests.{eqb-false}
use Rattle.pattern.specs.Pattern.{well_formed}
use Rattle.device.specs.Nodes.{any_node_beyond}
use Rattle.device.specs.Refusals.{Row, unless, done, refused, number, ◌when◌}
use Rattle.device.specs.Stages.{unbound}
use Rattle.device.specs.declared.Mosfet1.{Mosfet1}
use Rattle.device.proofs.Rows.{passed}
use Rattle.stamps.specs.Stamps.{jac_pairs_of, jac_values_of}
use Rattle.places.specs.Places.{missing_number}
use Rattle.assembly.specs.Assembly.{Pattern}
use Rattle.loading.specs.Loading.{nodes_outside, branches_of, jacobian_contributions, load_rows, load_of}
use Rattle.loading.specs.declared.LoadKind.{LoadKind}
use Rattle.resolve.specs.Resolve.{positions_there, resolved_cells, resolve_rows, resolve_of}
use Rattle.resolved_loads.proofs.ResolvedLoads.{same_answer}
use Rattle.cells.specs.Cells.{row_width, positions_of, cells_of}
use Rattle.cells.proofs.Insertion.{and_no}
use Rattle.cells.proofs.Bounds.{at_most_22}
use Rattle.cell_pattern.specs.CellPattern.{row_count, pattern_of}
use Rattle.cell_pattern.specs.declared.Needed.{Needed}
use Rattle.cell_pattern.proofs.Outcomes.{pattern_columns, pattern_rows, pattern_row_lengths, front}
use Rattle.matrix_layout.specs.MatrixLayout.{layout_rows, layout_of, is_written, at_exit, Layout}
use Rattle.call_lists.specs.Calls.{run}
use Rattle.layout_loads.specs.LayoutLoads.{written_pattern, EveryLoadFits, LayoutServes}
use Rattle.layout_loads.proofs.Contributions.{append_left, contributions_there}
use Rattle.layout_loads.proofs.Laid.{nodes_have_rows, pattern_holds, pattern_well}
use Rattle.layout_loads.proofs.Binding.{nodes_stay}

-- no row of the number m applies
abbrev NoneNumbered : ℕ → List Row → Type 0
NoneNumbered m [] = Unit
NoneNumbered m ((n when b) ∷ rows) = (n ≡ m → b ≡ false) × NoneNumbered m rows

-- so the call is not refused by it
never : (A : Type 0) (x : A) (m : ℕ) (rows : List Row) → 0 ≢ m → NoneNumbered m rows → number (unless rows refused (done x)) ≢ m
never A x m [] z h e = z e
never A x m ((n when true) ∷ rows) z h e = false≢true (sym (h.0 e))
never A x m ((n when false) ∷ rows) z h e = never A x m rows z h.1 e

apart : {A : Type 0} (n m : ℕ) → eqb n m ≡ false → n ≡ m → A
apart n m f e = absurd (eqb-false n m f e)

module _ (d : Mosfet1) (w : any_node_beyond row_width d.terminals ≡ false) where
  abbrev P : Pattern
  P = pattern_of d.terminals

  holds : positions_there P (positions_of d.terminals) ≡ true
  holds = pattern_holds d.terminals w

  well : well_formed P.columns P.offsets P.lengths (length P.columns) ≡ true
  well = pattern_well d.terminals

  not_outside : (len : ℕ) → length P.offsets ≤ len → any_node_beyond len d.terminals ≡ false
  not_outside len h = nodes_have_rows d.terminals len (omega (arith, pattern_rows d.terminals))

  load_13 : (k : LoadKind) (rhs values : List Float) → number (load_of d k P rhs values) ≢ 13
  unfolding load_of jacobian_contributions
  load_13 k rhs values =
      never Unit tt 13 (load_rows d k P rhs values) (apart 0 13 refl)
      (apart 8 13 refl, (apart 10 13 refl, (apart 11 13 refl, (apart 12 13 refl, ((λ e. ap not (contributions_there P d.terminals (jac_values_of d) (branches_of d k) holds)), tt)))))

  load_12 : (k : LoadKind) (rhs values : List Float) → length values ≡ length P.columns → number (load_of d k P rhs values) ≢ 12
  unfolding load_of
  load_12 k rhs values h =
      never Unit tt 12 (load_rows d k P rhs values) (apart 0 12 refl)
      (apart 8 12 refl, (apart 10 12 refl, (apart 11 12 refl, ((λ e. ap (λ (v : ℕ). not (well_formed P.columns P.offsets P.lengths v)) h ∙ ap not well), (apart 13 12 refl, tt)))))

  load_8 : (k : LoadKind) (rhs values : List Float) → length P.offsets ≤ length rhs → number (load_of d k P rhs values) ≢ 8
  unfolding load_of nodes_outside
  load_8 k rhs values h =
      never Unit tt 8 (load_rows d k P rhs values) (apart 0 8 refl)
      ((λ e. rw (not_outside (length rhs) h, not_outside (length P.offsets) (omega arith)) (and_no (not (unbound d.stage)))), (apart 10 8 refl, (apart 11 8 refl, (apart 12 8 refl, (apart 13 8 refl, tt)))))

  pairs_there : positions_there P (jac_pairs_of d.terminals) ≡ true
  unfolding positions_of
  pairs_there = append_left P (jac_pairs_of d.terminals) _ holds

  lookup : (m : ℕ) → 0 ≢ m → (10 ≡ m → ⊥) → number (resolve_of d P) ≢ m
  unfolding resolve_of
  lookup m z t =
      never (List ℕ) (resolved_cells d.terminals P) m (resolve_rows d P) z (
        (λ e. rw (not_outside (length P.offsets) (omega arith)) (and_no (not (unbound d.stage)))),
        ((λ e. absurd (t e)), ((λ e. ap not well), ((λ e. ap not pairs_there), tt))),
      )

  small : length P.columns ≤ missing_number
  small = omega (arith, pattern_columns d.terminals, at_most_22 d.terminals)

  pub every_load_fits : EveryLoadFits d P
  every_load_fits = record {
    never_13 = load_13;
    never_12 = load_12;
    never_8 = load_8;
    lookup_never_13 = lookup 13 (apart 0 13 refl) (apart 10 13 refl);
    lookup_never_12 = lookup 12 (apart 0 12 refl) (apart 10 12 refl);
    lookup_never_8 = lookup 8 (apart 0 8 refl) (apart 10 8 refl);
    by_cells = λ cells e k rhs values. same_answer d d k P cells rhs values e refl small;
  }

-- what an accepted layout has written is the pattern of its device's cells
module _ (b : Mosfet1) (columns offsets lengths : List ℕ) (n : Needed) (columns' offsets' lengths' : List ℕ)
    (l : Layout b columns offsets lengths (done n) columns' offsets' lengths') (written : is_written b (length columns) (length offsets) (length lengths) ≡ true) where
  accepted : (any_node_beyond row_width b.terminals ≡ false) × (n ≡ record { columns = length (cells_of b.terminals); rows = row_count b.terminals })
  unfolding layout_of
  accepted =
      let p = passed (layout_rows b) (sym l.answer) in
      (inside (unbound b.stage) _ p.0.1.0 p.0.0, p.1)
    where
      inside : (u a : Bool) → u ≡ false → (not u && a) ≡ false → a ≡ false
      inside true a e f = absurd (false≢true (sym e))
      inside false a e f = f

  is_pattern : written_pattern n columns' offsets' lengths' ≡ pattern_of b.terminals
  unfolding written_pattern at_exit
  is_pattern =
      let counts = accepted.1 in
      let t = b.terminals in
      let cols : n.columns ≡ length (pattern_of t).columns = ap (λ (m : Needed). m.columns) counts ∙ sym (pattern_columns t) in
      let rows : n.rows ≡ length (pattern_of t).offsets = ap (λ (m : Needed). m.rows) counts ∙ sym (pattern_rows t) in
      let lens : n.rows ≡ length (pattern_of t).lengths = ap (λ (m : Needed). m.rows) counts ∙ sym (pattern_row_lengths t) in
      let c : take n.columns columns' ≡ (pattern_of t).columns = ap (take n.columns) l.columns_are ∙ rw (written) (front (pattern_of t).columns columns n.columns cols) in
      let o : take n.rows offsets' ≡ (pattern_of t).offsets = ap (take n.rows) l.offsets_are ∙ rw (written) (front (pattern_of t).offsets offsets n.rows rows) in
      let m : take n.rows lengths' ≡ (pattern_of t).lengths = ap (take n.rows) l.lengths_are ∙ rw (written) (front (pattern_of t).lengths lengths n.rows lens) in
      λ i. record { columns = c i; offsets = o i; lengths = m i }

-- 02: no load under the binding meets 13, nor 12 or 8
pub layout_serves : LayoutServes
unfolding LayoutServes
layout_serves b columns offsets lengths n columns' offsets' lengths' l written calls stays =
    let nodes = nodes_stay calls b stays in
    let is = is_pattern b columns offsets lengths n columns' offsets' lengths' l written ∙ ap pattern_of (sym nodes) in
    let inside = ap (any_node_beyond row_width) nodes ∙ (accepted b columns offsets lengths n columns' offsets' lengths' l written).0 in
    subst (EveryLoadFits (run calls b)) (sym is) (every_load_fits (run calls b) inside)
