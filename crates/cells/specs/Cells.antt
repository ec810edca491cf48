-- The cells that a device may ever load, by its six nodes alone. Document 02, Wish 1: "the full list of cells: the 24 pairs and the four cells
-- of each charge branch, ground left out. It is sorted by row then column, each cell named a single time".
use Rattle.std.specs.Prelude.{ℕ, ◌+◌, ◌*◌, ◌<◌, ◌≤◌, ◌≡◌, Bool, true, false, cond, ◌&&◌, ◌||◌, List, [], ◌∷◌, ◌++◌, length, drop, replicate, ltb, eqb}
use Rattle.pattern.specs.Pattern.{rising}
use Rattle.device.specs.declared.NodeId.{NodeId}
use Rattle.device.specs.declared.NodeId.TheVariants.{Ground, At}
use Rattle.device.specs.declared.Terminals.{Terminals}
use Rattle.stamps.specs.Stamps.{position, jac_pairs_of}
use Rattle.stamps.specs.declared.Position.{Position}

-- 2^32: a column is a u32, so no row is wider
abbrev pub row_width : ℕ
row_width = 4294967296

-- a cell as one number. Its column is below the width, so the order of the numbers is by row, then column
abbrev pub cell_number : ℕ → ℕ → ℕ
cell_number row column = row * row_width + column

-- "the four cells of each charge branch", between the nodes a and b
abbrev pub branch_positions : NodeId → NodeId → List Position → List Position
branch_positions a b rest = position a a ∷ position a b ∷ position b b ∷ position b a ∷ rest

-- "the 24 pairs", then the cells of gs, gd, gb, bs and bd, whatever the capacitances are
unfoldable pub positions_of : Terminals → List Position
positions_of t =
    jac_pairs_of t
    ++ branch_positions t.gate t.source (branch_positions t.gate t.drain (branch_positions t.gate t.bulk
    (branch_positions t.bulk t.source (branch_positions t.bulk t.drain []))))

-- "ground left out": a position with a ground end has no cell
unfoldable pub cell_before : NodeId → NodeId → List ℕ → List ℕ
cell_before Ground column cells = cells
cell_before (At r) Ground cells = cells
cell_before (At r) (At c) cells = cell_number r c ∷ cells

unfoldable pub cell_numbers : List Position → List ℕ
cell_numbers [] = []
cell_numbers (p ∷ ps) = cell_before p.row p.col (cell_numbers ps)

-- "sorted .., each cell named a single time": a number goes before the first that is larger, and is left out where it is there already
unfoldable pub insert_of : ℕ → List ℕ → List ℕ
insert_of x [] = x ∷ []
insert_of x (y ∷ ys) = cond (ltb x y) (x ∷ y ∷ ys) (cond (eqb x y) (y ∷ ys) (y ∷ insert_of x ys))

unfoldable pub insert_all_of : List ℕ → List ℕ → List ℕ
insert_all_of [] list = list
insert_all_of (x ∷ xs) list = insert_all_of xs (insert_of x list)

-- the list of cells
unfoldable pub cells_of : Terminals → List ℕ
cells_of t = insert_all_of (cell_numbers (positions_of t)) []

-- how the code holds it: so many numbers of an array of 44, and ones behind them
pub record Listed (xs numbers : List ℕ) (count : ℕ) : Type 0 where
  pub counted : count ≡ length xs
  pub whole : numbers ≡ xs ++ drop (length xs) (replicate 44 1)

-- whether a number stands in a list
unfoldable pub holds : ℕ → List ℕ → Bool
holds x [] = false
holds x (y ∷ ys) = eqb x y || holds x ys

-- whether one of the positions is that of a row and a column
unfoldable pub names_cell : ℕ → ℕ → NodeId → NodeId → Bool
names_cell r c Ground b = false
names_cell r c (At i) Ground = false
names_cell r c (At i) (At j) = eqb r i && eqb c j

unfoldable pub named : ℕ → ℕ → List Position → Bool
named r c [] = false
named r c (p ∷ ps) = names_cell r c p.row p.col || named r c ps

-- What the list is. It rises, so it is sorted and has no cell twice; the order of its numbers is by row, then column; a cell is in it if and only
-- if 02 names it; and it has at most 22 cells, 16 where no series resistance makes an inner node
pub record ListsTheCells (t : Terminals) : Type 0 where
  pub rises : rising (cells_of t) ≡ true
  pub order : (r c s e : ℕ) → c < row_width → e < row_width → ltb (cell_number r c) (cell_number s e) ≡ (ltb r s || (eqb r s && ltb c e))
  pub exact : (r c : ℕ) → c < row_width → holds (cell_number r c) (cells_of t) ≡ named r c (positions_of t)
  pub most : length (cells_of t) ≤ 22
  pub fewer : t.drain_ext ≡ t.drain → t.source_ext ≡ t.source → length (cells_of t) ≤ 16
