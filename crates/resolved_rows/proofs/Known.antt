-- What a caller knows once no row refuses: every place that a load needs is among the values.
use mathlib.Core.Path.{◌≡◌, sym, ◌∙◌}
use mathlib.Core.Bool.{true, cond, not, ◌&&◌}
use mathlib.Core.List.{List}
use Prim.Native.Nat.{ℕ, ◌≤◌}
use lib.ListN.{get_or}
use lib.Dec.{eqb}
use lib.Ieee.{Float}
use borrow.Author.Tests.{not-false, eqb-true}
use Rattle.pattern.proofs.Rows.{and_left, and_right}
use Rattle.device.specs.Stages.{unevaluated}
use Rattle.device.specs.declared.Mosfet1.{Mosfet1}
use Rattle.stamps.specs.Stamps.{jac_pairs_of}
use Rattle.places.specs.Places.{skipped_number, nodes_of, terminals_at}
use Rattle.places.specs.declared.Nodes.{Nodes}
use Rattle.loading.specs.Loading.{nodes_outside, alpha_outside}
use Rattle.loading.specs.declared.LoadKind.{LoadKind}
use Rattle.loading.specs.declared.LoadKind.TheVariants.{Transient}
use Rattle.loading.proofs.Rows.{early_terminals}
use Rattle.resolved_rows.specs.LoadResolved.{numbers_from, cells_held, resolved_row_of}
use Rattle.resolved_rows.specs.ByNumbers.{pairs_stored, branches_stored, nodes_are, nodes_at, held, is_transient}
use Rattle.resolved_rows.proofs.Held.{held_is}
use Rattle.resolved_rows.proofs.Outcomes.{five_early, five_last}

module _ (d : Mosfet1) (k : LoadKind) (w : List ℕ) (rows n : ℕ) (room : rows ≤ skipped_number) (passed : resolved_row_of d k w rows n ≡ 0) where
  -- row 13's test by numbers
  all_held : held n (nodes_of d.terminals) w d.charges (is_transient k) ≡ true
  unfolding resolved_row_of
  all_held =
      let outside = nodes_outside d.stage d.terminals rows (get_or w 6 0) in
      let alpha = alpha_outside d.disc k in
      let count = not (eqb n (get_or w 7 0)) in
      let early = five_early outside (unevaluated d.stage) alpha count (not (cells_held w d k n)) passed in
      let last = five_last outside (unevaluated d.stage) alpha count (not (cells_held w d k n)) passed in
      held_is n w d k (early_terminals d.stage d.terminals rows (get_or w 6 0) alpha count room early) ∙ not-false (cells_held w d k n) last

  both_held : (pairs_stored n (jac_pairs_of (terminals_at (nodes_of d.terminals))) (numbers_from w 8 24) && cond (is_transient k) (branches_stored n (nodes_of d.terminals) w d.charges) true) ≡ true
  unfolding held
  both_held = and_right (nodes_are w (nodes_of d.terminals)) _ all_held

same_nodes : (w : List ℕ) (t : Nodes) → nodes_are w t ≡ true → nodes_at w ≡ t
unfolding nodes_are nodes_at
same_nodes w t e =
    let b0 = eqb t.drain_ext (get_or w 0 0) in
    let b1 = eqb t.source_ext (get_or w 1 0) in
    let b2 = eqb t.drain (get_or w 2 0) in
    let b3 = eqb t.gate (get_or w 3 0) in
    let b4 = eqb t.source (get_or w 4 0) in
    let e5 = and_left (b0 && b1 && b2 && b3 && b4) _ e in
    let e4 = and_left (b0 && b1 && b2 && b3) b4 e5 in
    let e3 = and_left (b0 && b1 && b2) b3 e4 in
    let e2 = and_left (b0 && b1) b2 e3 in
    let is0 = sym (eqb-true _ _ (and_left b0 b1 e2)) in
    let is1 = sym (eqb-true _ _ (and_right b0 b1 e2)) in
    let is2 = sym (eqb-true _ _ (and_right (b0 && b1) b2 e3)) in
    let is3 = sym (eqb-true _ _ (and_right (b0 && b1 && b2) b3 e4)) in
    let is4 = sym (eqb-true _ _ (and_right (b0 && b1 && b2 && b3) b4 e5)) in
    let is5 = sym (eqb-true _ _ (and_right (b0 && b1 && b2 && b3 && b4) _ e)) in
    λ i. record { drain_ext = is0 i; source_ext = is1 i; drain = is2 i; gate = is3 i; source = is4 i; bulk = is5 i }

-- the device's nodes are those
pub nodes_held : (d : Mosfet1) (k : LoadKind) (w : List ℕ) (rows n : ℕ) → rows ≤ skipped_number → resolved_row_of d k w rows n ≡ 0 → nodes_at w ≡ nodes_of d.terminals
unfolding held
nodes_held d k w rows n room passed =
    same_nodes w (nodes_of d.terminals) (and_left (nodes_are w (nodes_of d.terminals)) _ (all_held d k w rows n room passed))

-- the 24 pairs' places
pub pairs_held : (d : Mosfet1) (k : LoadKind) (w : List ℕ) (rows n : ℕ) → rows ≤ skipped_number → resolved_row_of d k w rows n ≡ 0
    → pairs_stored n (jac_pairs_of (terminals_at (nodes_of d.terminals))) (numbers_from w 8 24) ≡ true
pairs_held d k w rows n room passed =
    and_left (pairs_stored n (jac_pairs_of (terminals_at (nodes_of d.terminals))) (numbers_from w 8 24)) (cond (is_transient k) (branches_stored n (nodes_of d.terminals) w d.charges) true)
    (both_held d k w rows n room passed)

-- those of the charge branches that conduct, where the load is transient
pub branches_held : (d : Mosfet1) (alpha : Float) (w : List ℕ) (rows n : ℕ) → rows ≤ skipped_number → resolved_row_of d (Transient alpha) w rows n ≡ 0
    → branches_stored n (nodes_of d.terminals) w d.charges ≡ true
branches_held d alpha w rows n room passed =
    and_right (pairs_stored n (jac_pairs_of (terminals_at (nodes_of d.terminals))) (numbers_from w 8 24)) (branches_stored n (nodes_of d.terminals) w d.charges)
    (both_held d (Transient alpha) w rows n room passed)
