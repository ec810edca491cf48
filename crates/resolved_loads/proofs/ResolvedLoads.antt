-- A load by the cells that `resolve` answered for a pattern is the load on that pattern: the same answer, the same two slices, for every
-- device with the nodes of the one that the cells were looked up for. So whatever is proved of loads holds of these.
use mathlib.Core.Path.{◌≡◌, refl, sym, ap, ◌∙◌, subst}
use mathlib.Core.Bool.{Bool, true, false, not, ◌&&◌}
use mathlib.Core.List.{List, [], ◌∷◌}
use Prim.Native.Nat.{ℕ, ◌≤◌}
use lib.ListN.{length, get_or}
use lib.Dec.{eqb}
use lib.Ieee.{Float}
use borrow.Author.Tests.{eqb-true, eq-eqb}
use Rattle.pattern.specs.Pattern.{well_formed, pairs_fit}
use Rattle.pattern.proofs.Places.{cell_within}
use Rattle.pattern.proofs.Rows.{and_right}
use Rattle.device.specs.Refusals.{Outcome, done, refused, unless, ◌when◌}
use Rattle.device.specs.Stages.{unevaluated}
use Rattle.device.proofs.Rows.{passed}
use Rattle.device.specs.declared.Terminals.{Terminals}
use Rattle.device.specs.declared.Mosfet1.{Mosfet1}
use Rattle.stamps.specs.Stamps.{jac_pairs_of, jac_values_of}
use Rattle.stamps.specs.declared.ChargeBranches.{ChargeBranches}
use Rattle.places.specs.Places.{missing_number, index_of, numbers_of}
use Rattle.assembly.specs.Assembly.{Pattern, all_there, paired, branch_cells, matrix_contributions}
use Rattle.loading.specs.Loading.{nodes_outside, alpha_outside, branches_of, jacobian_contributions, load_of, if_done, Loaded}
use Rattle.loading.specs.declared.LoadKind.{LoadKind}
use Rattle.resolve.specs.Resolve.{node_numbers, gate_pairs_of, resolved_cells, numbers_from, resolve_rows, resolve_of}
use Rattle.resolved_rows.specs.LoadResolved.{made_for, all_stored, branch_places, stored_places, cells_held, load_resolved_of, LoadedResolved}
use Rattle.resolved_loads.proofs.SamePlaces.{Within, Same, list_same, join, branch_same}

-- the contributions of a device and the places that were looked up for its nodes
module _ (P : Pattern) (n : ℕ) (h : Within P n) (t : Terminals) (d : Mosfet1) (br : ChargeBranches) where
  abbrev w : List ℕ
  w = resolved_cells t P

  pairs : Same P n (paired (jac_pairs_of t) (jac_values_of d)) (numbers_from w 8 24)
  unfolding numbers_from resolved_cells node_numbers numbers_of jac_pairs_of gate_pairs_of jac_values_of
  pairs = list_same P n h (jac_pairs_of t) (jac_values_of d) refl

  gs : Same P n (branch_cells t.gate t.source br.gs) (branch_places br.gs (get_or w 32 0) (get_or w 33 0) (get_or w 14 0) (get_or w 12 0))
  unfolding resolved_cells node_numbers numbers_of jac_pairs_of gate_pairs_of
  gs = branch_same P n h t.gate t.source br.gs

  gd : Same P n (branch_cells t.gate t.drain br.gd) (branch_places br.gd (get_or w 32 0) (get_or w 34 0) (get_or w 9 0) (get_or w 8 0))
  unfolding resolved_cells node_numbers numbers_of jac_pairs_of gate_pairs_of
  gd = branch_same P n h t.gate t.drain br.gd

  gb : Same P n (branch_cells t.gate t.bulk br.gb) (branch_places br.gb (get_or w 32 0) (get_or w 35 0) (get_or w 24 0) (get_or w 36 0))
  unfolding resolved_cells node_numbers numbers_of jac_pairs_of gate_pairs_of
  gb = branch_same P n h t.gate t.bulk br.gb

  bs : Same P n (branch_cells t.bulk t.source br.bs) (branch_places br.bs (get_or w 24 0) (get_or w 25 0) (get_or w 14 0) (get_or w 15 0))
  unfolding resolved_cells node_numbers numbers_of jac_pairs_of gate_pairs_of
  bs = branch_same P n h t.bulk t.source br.bs

  bd : Same P n (branch_cells t.bulk t.drain br.bd) (branch_places br.bd (get_or w 24 0) (get_or w 29 0) (get_or w 9 0) (get_or w 11 0))
  unfolding resolved_cells node_numbers numbers_of jac_pairs_of gate_pairs_of
  bd = branch_same P n h t.bulk t.drain br.bd

  pub whole : Same P n (matrix_contributions t (jac_values_of d) br) (stored_places w br)
  unfolding matrix_contributions stored_places
  whole = join P n h _ _ _ _ (join P n h _ _ _ _ (join P n h _ _ _ _ (join P n h _ _ _ _ (join P n h _ _ _ _ pairs gs) gd) gb) bs) bd

made_for_itself : (t : Terminals) (P : Pattern) → made_for (resolved_cells t P) t ≡ true
unfolding made_for resolved_cells node_numbers
made_for_itself t P =
    rw
    (eq-eqb (index_of t.drain_ext) (index_of t.drain_ext) refl, eq-eqb (index_of t.source_ext) (index_of t.source_ext) refl, eq-eqb (index_of t.drain) (index_of t.drain) refl, eq-eqb (index_of t.gate) (index_of t.gate) refl, eq-eqb (index_of t.source) (index_of t.source) refl, eq-eqb (index_of t.bulk) (index_of t.bulk) refl)

not_not : (b : Bool) → not b ≡ false → b ≡ true
not_not true e = refl
not_not false e = sym e

-- the rows of both calls: the fifth counts only where there are as many values as columns
five : {A : Type 0} (z : A) (a b c e f x y : Bool) → f ≡ true → (e ≡ true → x ≡ y)
    → unless ((8 when a) ∷ (10 when b) ∷ (11 when c) ∷ (12 when not e) ∷ (13 when not x) ∷ []) refused (done z)
    ≡ unless ((8 when a) ∷ (10 when b) ∷ (11 when c) ∷ (12 when not (e && f)) ∷ (13 when not y) ∷ []) refused (done z)
five z true b c e f x y h same = refl
five z false true c e f x y h same = refl
five z false false true e f x y h same = refl
five z false false false false f x y h same = refl
five z false false false true f x y h same = rw (h, same refl)

module _ (made d : Mosfet1) (k : LoadKind) (P : Pattern) (w : List ℕ) (rhs values : List Float)
    (answered : resolve_of made P ≡ done w) (nodes : d.terminals ≡ made.terminals) (room : length P.columns ≤ missing_number) where
  -- an accepted lookup: the pattern is well formed, and the numbers are its cells' places
  pub rows : (well_formed P.columns P.offsets P.lengths (length P.columns) ≡ true) × (w ≡ resolved_cells made.terminals P)
  unfolding resolve_of
  rows = let p = passed (resolve_rows made P) answered in (not_not _ p.0.1.1.0, p.1)

  is : w ≡ resolved_cells d.terminals P
  is = rows.1 ∙ ap (λ (t : Terminals). resolved_cells t P) (sym nodes)

  within : Within P (length P.columns)
  within = record { within = λ r c p e. cell_within P.columns P.offsets P.lengths _ rows.0 r c p e; room = room }

  same : Same P (length P.columns) (jacobian_contributions d k) (stored_places w (branches_of d k))
  unfolding jacobian_contributions
  same = subst (λ (u : List ℕ). Same P (length P.columns) (matrix_contributions d.terminals (jac_values_of d) (branches_of d k)) (stored_places u (branches_of d k))) (sym is)
      (whole P (length P.columns) within d.terminals d (branches_of d k))

  -- row 13 of the load by the cells, where row 12 does not apply
  pub held : eqb (length values) (length P.columns) ≡ true → cells_held w d k (length values) ≡ all_there P (jacobian_contributions d k)
  unfolding cells_held
  held e =
      ap (λ (m : ℕ). made_for w d.terminals && all_stored m (jacobian_contributions d k) (stored_places w (branches_of d k))) (eqb-true (length values) (length P.columns) e)
      ∙ ap (λ (u : List ℕ). made_for u d.terminals && all_stored (length P.columns) (jacobian_contributions d k) (stored_places w (branches_of d k))) is
      ∙ rw (made_for_itself d.terminals P) same.tested

  -- the stored row and value counts
  pub sizes : (get_or w 6 0 ≡ length P.offsets) × (get_or w 7 0 ≡ length P.columns)
  unfolding resolved_cells node_numbers
  sizes = (ap (λ (u : List ℕ). get_or u 6 0) is, ap (λ (u : List ℕ). get_or u 7 0) is)

  pub same_answer : load_resolved_of d k w rhs values ≡ load_of d k P rhs values
  unfolding load_resolved_of load_of well_formed
  same_answer =
      rw (sizes.0, sizes.1)
      (five tt (nodes_outside d.stage d.terminals (length rhs) (length P.offsets)) (unevaluated d.stage) (alpha_outside d.disc k) (eqb (length values) (length P.columns)) (pairs_fit P.columns 0 P.offsets P.lengths) (cells_held w d k (length values)) (all_there P (jacobian_contributions d k))
      (and_right (eqb (length P.columns) (length P.columns)) (pairs_fit P.columns 0 P.offsets P.lengths) rows.0) held)

  -- what a load by the cells answers and leaves is what the load on the pattern answers and leaves
  pub resolved_load_is_load : (r : Outcome Unit) (rhs' values' : List Float) → length values ≤ missing_number → LoadedResolved d k w rhs values r rhs' values' → Loaded d k P rhs values r rhs' values'
  resolved_load_is_load r rhs' values' small l = record {
    answer = l.answer ∙ same_answer;
    side = l.side;
    matrix = l.matrix ∙ ap (λ (xs : List Float). if_done r xs values) (same.added values small);
  }
