-- The code goes through the indices of rows and columns, the definition through nodes: the same where every node is below the width of a row.
use mathlib.Core.Path.{◌≡◌, refl, sym, ap, ◌∙◌, subst}
use mathlib.Core.Bool.{Bool, true, false, ◌||◌}
use mathlib.Core.List.{List, [], ◌∷◌}
use Prim.Native.Nat.{ℕ, ◌<◌}
use native.Mathlib.Omega.{arith}
use lib.Dec.{T}
use borrow.Author.Tests.{leb-false}
use Rattle.pattern.specs.Pattern.{rising}
use Rattle.device.specs.Nodes.{node_beyond, any_node_beyond}
use Rattle.device.specs.declared.NodeId.{NodeId}
use Rattle.device.specs.declared.NodeId.TheVariants.{Ground, At}
use Rattle.device.specs.declared.Terminals.{Terminals}
use Rattle.stamps.specs.Stamps.{jac_pairs_of}
use Rattle.stamps.specs.declared.Position.{Position}
use Rattle.places.specs.Places.{index_of, skipped_number}
use Rattle.cells.specs.Cells.{row_width, positions_of, cell_number, cell_before, cell_numbers, insert_all_of}
use Rattle.cells.specs.Steps.{row_indices, column_indices, carry_cell_of, carry_cells_of}
use Rattle.cells.proofs.Insertion.{skip_row, skip_column, put_cell}
use Rattle.cells.proofs.Order.{carry_inserts, insert_rises}

pub or_left : (a b : Bool) → (a || b) ≡ false → a ≡ false
or_left true b e = e
or_left false b e = refl

pub or_right : (a b : Bool) → (a || b) ≡ false → b ≡ false
or_right true b e = absurd (subst T e tt)
or_right false b e = e

-- an end of a position is not below n
unfoldable pub any_end_beyond : ℕ → List Position → Bool
any_end_beyond n [] = false
any_end_beyond n (p ∷ ps) = (node_beyond n p.row || node_beyond n p.col) || any_end_beyond n ps

-- a node that is not beyond n is below it
pub below : (n i : ℕ) → node_beyond n (At i) ≡ false → i < n
below n i e = leb-false n i e

one : (a b : NodeId) (ks xs : List ℕ) → rising xs ≡ true → (node_beyond row_width a || node_beyond row_width b) ≡ false
    → insert_all_of ks (carry_cell_of (index_of a) (index_of b) xs) ≡ insert_all_of (cell_before a b ks) xs
unfolding insert_all_of cell_before index_of
one Ground b ks xs r e = ap (insert_all_of ks) (sym (skip_row skipped_number _ xs (omega arith)))
one (At i) Ground ks xs r e = ap (insert_all_of ks) (sym (skip_column i skipped_number xs (omega arith)))
one (At i) (At j) ks xs r e =
    let hi = below row_width i (or_left _ _ e) in
    let hj = below row_width j (or_right (node_beyond row_width (At i)) _ e) in
    ap (insert_all_of ks) (sym (put_cell i j xs hi hj) ∙ carry_inserts (cell_number i j) xs r)

-- the list stays rising
kept : (a b : NodeId) (xs : List ℕ) → rising xs ≡ true → (node_beyond row_width a || node_beyond row_width b) ≡ false → rising (carry_cell_of (index_of a) (index_of b) xs) ≡ true
unfolding index_of
kept Ground b xs r e = subst (λ (ys : List ℕ). rising ys ≡ true) (skip_row skipped_number _ xs (omega arith)) r
kept (At i) Ground xs r e = subst (λ (ys : List ℕ). rising ys ≡ true) (skip_column i skipped_number xs (omega arith)) r
kept (At i) (At j) xs r e =
    let hi = below row_width i (or_left _ _ e) in
    let hj = below row_width j (or_right (node_beyond row_width (At i)) _ e) in
    subst (λ (ys : List ℕ). rising ys ≡ true) (sym (carry_inserts (cell_number i j) xs r) ∙ put_cell i j xs hi hj) (insert_rises (cell_number i j) xs r)

by_indices : (ps : List Position) (xs : List ℕ) → rising xs ≡ true → any_end_beyond row_width ps ≡ false → carry_cells_of (row_indices ps) (column_indices ps) xs ≡ insert_all_of (cell_numbers ps) xs
unfolding carry_cells_of row_indices column_indices cell_numbers any_end_beyond insert_all_of
by_indices [] xs r e = refl
by_indices (p ∷ ps) xs r e =
    let h = or_left (node_beyond row_width p.row || node_beyond row_width p.col) _ e in
    by_indices ps (carry_cell_of (index_of p.row) (index_of p.col) xs) (kept p.row p.col xs r h) (or_right (node_beyond row_width p.row || node_beyond row_width p.col) _ e)
    ∙ one p.row p.col (cell_numbers ps) xs r h

-- the six nodes
pub record AllBelow (n : ℕ) (t : Terminals) : Type 0 where
  pub dx : node_beyond n t.drain_ext ≡ false
  pub sx : node_beyond n t.source_ext ≡ false
  pub d : node_beyond n t.drain ≡ false
  pub g : node_beyond n t.gate ≡ false
  pub s : node_beyond n t.source ≡ false
  pub b : node_beyond n t.bulk ≡ false

six : (x y z u v w : Bool) → (x || y || z || u || v || w) ≡ false → (x ≡ false) × ((y ≡ false) × ((z ≡ false) × ((u ≡ false) × ((v ≡ false) × (w ≡ false)))))
six x y z u v w e =
    let e5 = or_left (x || y || z || u || v) w e in
    let e4 = or_left (x || y || z || u) v e5 in
    let e3 = or_left (x || y || z) u e4 in
    let e2 = or_left (x || y) z e3 in
    (or_left x y e2, (or_right x y e2, (or_right (x || y) z e3, (or_right (x || y || z) u e4, (or_right (x || y || z || u) v e5, or_right (x || y || z || u || v) w e)))))

pub all_below : (n : ℕ) (t : Terminals) → any_node_beyond n t ≡ false → AllBelow n t
unfolding any_node_beyond
all_below n t e =
    let f = six _ _ _ _ _ _ e in
    record { dx = f.0; sx = f.1.0; d = f.1.1.0; g = f.1.1.1.0; s = f.1.1.1.1.0; b = f.1.1.1.1.1 }

pub positions_below : (n : ℕ) (t : Terminals) → any_node_beyond n t ≡ false → any_end_beyond n (positions_of t) ≡ false
unfolding any_end_beyond positions_of jac_pairs_of
positions_below n t e = let h = all_below n t e in simp (h.dx, h.sx, h.d, h.g, h.s, h.b)

pub by_terminals : (t : Terminals) → any_node_beyond row_width t ≡ false → carry_cells_of (row_indices (positions_of t)) (column_indices (positions_of t)) [] ≡ insert_all_of (cell_numbers (positions_of t)) []
unfolding rising
by_terminals t e = by_indices (positions_of t) [] refl (positions_below row_width t e)
