-- The steps of the code: what its private functions answer. A reader of the list needs none of it.
use Rattle.std.specs.Prelude.{ℕ, ◌+◌, ◌≤◌, ◌≡◌, cond, ◌&&◌, List, [], ◌∷◌, take, drop, ltb, eqb}
use Rattle.stamps.specs.declared.Position.{Position}
use Rattle.places.specs.Places.{index_of}
use Rattle.cells.specs.Cells.{row_width, cell_number}

unfoldable pub lower_of : ℕ → ℕ → ℕ
lower_of x y = cond (ltb x y) x y

unfoldable pub higher_of : ℕ → ℕ → ℕ
higher_of x y = cond (ltb x y) y x

-- an insertion in one pass: of two numbers the lower is stored, and the higher is carried on
unfoldable pub carry_of : ℕ → List ℕ → List ℕ
carry_of x [] = x ∷ []
carry_of x (y ∷ ys) = cond (eqb y x) (y ∷ ys) (lower_of x y ∷ carry_of (higher_of x y) ys)

-- the indices of the positions' rows and columns, of which ground's is not below the width of a row
unfoldable pub row_indices : List Position → List ℕ
row_indices [] = []
row_indices (p ∷ ps) = index_of p.row ∷ row_indices ps

unfoldable pub column_indices : List Position → List ℕ
column_indices [] = []
column_indices (p ∷ ps) = index_of p.col ∷ column_indices ps

unfoldable pub carry_cell_of : ℕ → ℕ → List ℕ → List ℕ
carry_cell_of r c xs = cond (ltb r row_width && ltb c row_width) (carry_of (cell_number r c) xs) xs

unfoldable pub carry_cells_of : List ℕ → List ℕ → List ℕ → List ℕ
carry_cells_of [] cs xs = xs
carry_cells_of (r ∷ rs) [] xs = xs
carry_cells_of (r ∷ rs) (c ∷ cs) xs = carry_cells_of rs cs (carry_cell_of r c xs)

-- an array whose first numbers are the list: one more of them than before, or as many, and those behind them as they were
pub record Grown (xs before : List ℕ) (old : ℕ) (numbers : List ℕ) (count : ℕ) : Type 0 where
  pub first : take count numbers ≡ xs
  pub kept : drop count numbers ≡ drop count before
  pub less : old ≤ count
  pub more : count ≤ old + 1
