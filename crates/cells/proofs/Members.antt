-- The list of cells rises, and holds exactly the cells that are named.
use mathlib.Core.Path.{◌≡◌, refl, sym, ap, ◌∙◌, subst}
use mathlib.Core.Bool.{Bool, true, false, ◌&&◌, ◌||◌}
use mathlib.Core.List.{List, [], ◌∷◌}
use Prim.Native.Nat.{ℕ, suc, ◌<◌, zero-le, suc-le-suc}
use native.Mathlib.Omega.{arith}
use lib.ListN.{length, get_or}
use lib.Dec.{T, eqb}
use borrow.Author.Tests.{eq-eqb, ne_eqb, eqb-true, eqb-false}
use Rattle.pattern.specs.Pattern.{rising}
use Rattle.device.specs.Nodes.{node_beyond, any_node_beyond}
use Rattle.device.specs.declared.NodeId.{NodeId}
use Rattle.device.specs.declared.NodeId.TheVariants.{Ground, At}
use Rattle.device.specs.declared.Terminals.{Terminals}
use Rattle.stamps.specs.declared.Position.{Position}
use Rattle.cells.specs.Cells.{row_width, cell_number, cell_before, cell_numbers, positions_of, cells_of, holds, names_cell, named}
use Rattle.cells.proofs.Order.{all_rise, all_hold}
use Rattle.cells.proofs.Indices.{or_left, or_right, any_end_beyond, below, positions_below}

-- 02: "sorted by row then column, each cell named a single time"
pub cells_rise : (t : Terminals) → rising (cells_of t) ≡ true
unfolding cells_of rising
cells_rise t = all_rise (cell_numbers (positions_of t)) [] refl

or_none : (a : Bool) → (a || false) ≡ a
or_none true = refl
or_none false = refl

pub cells_hold : (k : ℕ) (t : Terminals) → holds k (cells_of t) ≡ holds k (cell_numbers (positions_of t))
unfolding holds cells_of
cells_hold k t = all_hold k (cell_numbers (positions_of t)) [] ∙ or_none (holds k (cell_numbers (positions_of t)))

-- the number tells the cell
same_cell : (r c i j : ℕ) → c < row_width → j < row_width → eqb (cell_number r c) (cell_number i j) ≡ (eqb r i && eqb c j)
same_cell r c i j h k = by (eqb r i) (eqb c j) refl refl
  where
    by : (a b : Bool) → eqb r i ≡ a → eqb c j ≡ b → eqb (cell_number r c) (cell_number i j) ≡ (a && b)
    by true true p q = eq-eqb (cell_number r c) (cell_number i j) (let e = eqb-true r i p in let f = eqb-true c j q in omega arith)
    by true false p q = ne_eqb (cell_number r c) (cell_number i j) (λ e. let f = eqb-true r i p in let n = eqb-false c j q in omega (arith, n))
    by false b p q = ne_eqb (cell_number r c) (cell_number i j) (λ e. let n = eqb-false r i p in omega (arith, n))

module _ (r c : ℕ) (h : c < row_width) where
  named_step : (a b : NodeId) (ks : List ℕ) (rest : Bool) → node_beyond row_width b ≡ false → holds (cell_number r c) ks ≡ rest
      → holds (cell_number r c) (cell_before a b ks) ≡ (names_cell r c a b || rest)
  unfolding holds cell_before names_cell
  named_step Ground b ks rest n e = e
  named_step (At i) Ground ks rest n e = e
  named_step (At i) (At j) ks rest n e =
      ap (λ (t : Bool). t || holds (cell_number r c) ks) (same_cell r c i j h (below row_width j n)) ∙ ap (λ (t : Bool). (eqb r i && eqb c j) || t) e

  named_cells : (ps : List Position) → any_end_beyond row_width ps ≡ false → holds (cell_number r c) (cell_numbers ps) ≡ named r c ps
  unfolding holds cell_numbers named any_end_beyond
  named_cells [] n = refl
  named_cells (p ∷ ps) n =
      named_step p.row p.col (cell_numbers ps) (named r c ps) (or_right (node_beyond row_width p.row) _ (or_left _ _ n))
      (named_cells ps (or_right (node_beyond row_width p.row || node_beyond row_width p.col) _ n))

  -- a cell is in the list if and only if 02 names it
  pub cell_named : (t : Terminals) → any_node_beyond row_width t ≡ false → holds (cell_number r c) (cells_of t) ≡ named r c (positions_of t)
  cell_named t n = cells_hold (cell_number r c) t ∙ named_cells (positions_of t) (positions_below row_width t n)

-- a number that a list holds, by its place
pub record Stands (k : ℕ) (xs : List ℕ) : Type 0 where
  pub place : ℕ
  pub inside : place < length xs
  pub is : get_or xs place 0 ≡ k

stands_step : (k x : ℕ) (xs : List ℕ) (b : Bool) → eqb k x ≡ b → (b || holds k xs) ≡ true → (holds k xs ≡ true → Stands k xs) → Stands k (x ∷ xs)
stands_step k x xs true e h f = record { place = 0; inside = suc-le-suc zero-le; is = sym (eqb-true k x e) }
stands_step k x xs false e h f = let s = f h in record { place = suc s.place; inside = suc-le-suc s.inside; is = s.is }

pub stands : (k : ℕ) (xs : List ℕ) → holds k xs ≡ true → Stands k xs
unfolding holds
stands k [] h = absurd (subst T (sym h) tt)
stands k (x ∷ xs) h = stands_step k x xs (eqb k x) refl h (λ g. stands k xs g)
