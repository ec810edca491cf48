-- The pattern of a device's cells has a row for each node, is well formed, and holds every position.
use mathlib.Core.Path.{◌≡◌, refl, ap, ◌∙◌}
use mathlib.Core.Bool.{Bool, true, false, cond, ◌||◌}
use mathlib.Core.List.{List, [], ◌∷◌}
use Prim.Native.Nat.{ℕ, ◌≤◌, ◌<◌}
use native.Mathlib.Omega.{arith}
use lib.ListN.{length}
use lib.Dec.{eqb, ltb}
use borrow.Author.Tests.{eq-eqb, lt-leb, ltb-true, ltb-false}
use Rattle.pattern.specs.Pattern.{well_formed}
use Rattle.std.specs.Prelude.{Option}
use Rattle.device.specs.Nodes.{node_beyond, any_node_beyond}
use Rattle.device.specs.declared.NodeId.{NodeId}
use Rattle.device.specs.declared.NodeId.TheVariants.{Ground, At}
use Rattle.device.specs.declared.Terminals.{Terminals}
use Rattle.stamps.specs.declared.Position.{Position}
use Rattle.assembly.specs.Assembly.{found_place, place_of, there}
use Rattle.resolve.specs.Resolve.{positions_there}
use Rattle.cells.specs.Cells.{row_width, cell_number, cell_before, cell_numbers, positions_of, cells_of, holds}
use Rattle.cells.proofs.Members.{cells_rise, cells_hold, stands}
use Rattle.cells.proofs.Bounds.{or_true}
use Rattle.cells.proofs.Indices.{or_left, or_right, any_end_beyond, below, positions_below}
use Rattle.cell_pattern.specs.CellPattern.{rows_to, larger_of, row_count, pattern_in, pattern_of}
use Rattle.cell_pattern.proofs.Fits.{well_formed_lem, found}

-- a row for each node
larger_left : (x y : ℕ) → x ≤ larger_of x y
unfolding larger_of
larger_left x y = go (ltb x y) refl
  where
    go : (b : Bool) → ltb x y ≡ b → x ≤ cond b y x
    go true e = let h = ltb-true x y e in omega arith
    go false e = omega arith

larger_right : (x y : ℕ) → y ≤ larger_of x y
unfolding larger_of
larger_right x y = go (ltb x y) refl
  where
    go : (b : Bool) → ltb x y ≡ b → y ≤ cond b y x
    go true e = omega arith
    go false e = ltb-false x y e

has_row : (n : NodeId) (m : ℕ) → rows_to n ≤ m → node_beyond m n ≡ false
unfolding rows_to
has_row Ground m h = refl
has_row (At i) m h = lt-leb m i (omega arith)

-- row 8 does not apply where there are as many rows
pub nodes_have_rows : (t : Terminals) (m : ℕ) → row_count t ≤ m → any_node_beyond m t ≡ false
unfolding row_count any_node_beyond
nodes_have_rows t m h =
    let a = rows_to t.drain_ext in
    let b = rows_to t.source_ext in
    let c = rows_to t.drain in
    let d = rows_to t.gate in
    let e = rows_to t.source in
    let f = rows_to t.bulk in
    let ab = larger_of a b in
    let abc = larger_of ab c in
    let abcd = larger_of abc d in
    let abcde = larger_of abcd e in
    let l1 = larger_left a b in
    let l2 = larger_left ab c in
    let l3 = larger_left abc d in
    let l4 = larger_left abcd e in
    let l5 = larger_left abcde f in
    simp (
      has_row t.drain_ext m (omega (arith, l1, l2, l3, l4, l5)),
      has_row t.source_ext m (omega (arith, larger_right a b, l2, l3, l4, l5)),
      has_row t.drain m (omega (arith, larger_right ab c, l3, l4, l5)),
      has_row t.gate m (omega (arith, larger_right abc d, l4, l5)),
      has_row t.source m (omega (arith, larger_right abcd e, l5)),
      has_row t.bulk m (omega (arith, larger_right abcde f)),
    )

-- positions whose cells are all in a list of cells that a pattern of n rows holds
module _ (ks : List ℕ) (n : ℕ) (found_in : (r c : ℕ) → r < n → c < row_width → holds (cell_number r c) ks ≡ true → there (place_of (pattern_in ks n) (At r) (At c)) ≡ true) where
  tail_holds : (a b : NodeId) (js : List ℕ) (k : ℕ) → holds k js ≡ true → holds k (cell_before a b js) ≡ true
  unfolding holds cell_before
  tail_holds Ground b js k e = e
  tail_holds (At r) Ground js k e = e
  tail_holds (At r) (At c) js k e = or_true (eqb k (cell_number r c)) _ e

  head_there : (a b : NodeId) (js : List ℕ) → node_beyond n a ≡ false → node_beyond row_width b ≡ false → ((k : ℕ) → holds k (cell_before a b js) ≡ true → holds k ks ≡ true)
      → there (place_of (pattern_in ks n) a b) ≡ true
  unfolding holds cell_before place_of there
  head_there Ground b js h i f = refl
  head_there (At r) Ground js h i f = refl
  head_there (At r) (At c) js h i f =
      found_in r c (below n r h) (below row_width c i) (f (cell_number r c) (simp (eq-eqb (cell_number r c) (cell_number r c) refl)))

  positions_there_lem : (ps : List Position) → any_end_beyond n ps ≡ false → any_end_beyond row_width ps ≡ false → ((k : ℕ) → holds k (cell_numbers ps) ≡ true → holds k ks ≡ true)
      → positions_there (pattern_in ks n) ps ≡ true
  unfolding positions_there any_end_beyond cell_numbers
  positions_there_lem [] u w f = refl
  positions_there_lem (p ∷ ps) u w f =
      let row = or_left (node_beyond n p.row) _ (or_left (node_beyond n p.row || node_beyond n p.col) _ u) in
      let column = or_right (node_beyond row_width p.row) _ (or_left (node_beyond row_width p.row || node_beyond row_width p.col) _ w) in
      let h = head_there p.row p.col (cell_numbers ps) row column f in
      rw (h)
      (positions_there_lem ps (or_right (node_beyond n p.row || node_beyond n p.col) _ u) (or_right (node_beyond row_width p.row || node_beyond row_width p.col) _ w)
      (λ k e. f k (tail_holds p.row p.col (cell_numbers ps) k e)))

module _ (t : Terminals) where
  cell_there_lem : (n r c : ℕ) → r < n → c < row_width → holds (cell_number r c) (cells_of t) ≡ true → there (place_of (pattern_in (cells_of t) n) (At r) (At c)) ≡ true
  unfolding there place_of found_place pattern_in
  cell_there_lem n r c h k e = ap (λ (f : Option ℕ). there (found_place f)) (found (cells_of t) (cells_rise t) n r c h k (stands (cell_number r c) (cells_of t) e))

  -- every cell that the device may load is in the pattern
  pub pattern_holds : any_node_beyond row_width t ≡ false → positions_there (pattern_of t) (positions_of t) ≡ true
  unfolding pattern_of
  pattern_holds w =
      positions_there_lem (cells_of t) (row_count t) (λ r c h k e. cell_there_lem (row_count t) r c h k e) (positions_of t)
      (positions_below (row_count t) t (nodes_have_rows t (row_count t) (omega arith))) (positions_below row_width t w) (λ k e. cells_hold k t ∙ e)

  pub pattern_well : well_formed (pattern_of t).columns (pattern_of t).offsets (pattern_of t).lengths (length (pattern_of t).columns) ≡ true
  unfolding pattern_of pattern_in
  pattern_well = well_formed_lem (cells_of t) (cells_rise t) (row_count t)
