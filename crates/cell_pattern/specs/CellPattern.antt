-- A device's cells as a matrix pattern in three lent slices. Document 02, Wish 1: "with the pattern's columns and pairs written to lent slices.
-- Rows run from 0 to the largest node (none if all are ground), empty ones of length 0 at the running offset; the slices' rest is kept. ..
-- if the lent slices are short, nothing is written".
use Rattle.std.specs.Prelude.{ℕ, zero, suc, ◌+◌, ◌/◌, ◌%◌, ◌≡◌, Bool, cond, ◌&&◌, List, [], ◌∷◌, ◌++◌, length, drop, ltb, leb, eqb}
use Rattle.device.specs.declared.NodeId.{NodeId}
use Rattle.device.specs.declared.NodeId.TheVariants.{Ground, At}
use Rattle.device.specs.declared.Terminals.{Terminals}
use Rattle.places.specs.Places.{Pattern}
use Rattle.cells.specs.Cells.{row_width, cells_of}

-- the columns of the cells, in their order. Of a cell's number the row is the quotient by the width of a row, the column the remainder
unfoldable pub columns_in : List ℕ → List ℕ
columns_in [] = []
columns_in (c ∷ cells) = c % row_width ∷ columns_in cells

-- how many cells a row has
unfoldable pub count_in : ℕ → List ℕ → ℕ
count_in row [] = 0
count_in row (c ∷ cells) = cond (eqb (c / row_width) row) (suc (count_in row cells)) (count_in row cells)

-- the lengths of n rows from `row` on
unfoldable pub lengths_in : List ℕ → ℕ → ℕ → List ℕ
lengths_in cells row zero = []
lengths_in cells row (suc n) = count_in row cells ∷ lengths_in cells (suc row) n

-- "the running offset": each row begins where the one before it ends
unfoldable pub running_offsets : ℕ → List ℕ → List ℕ
running_offsets at [] = []
running_offsets at (n ∷ ns) = at ∷ running_offsets (at + n) ns

-- "Rows run from 0 to the largest node (none if all are ground)"
unfoldable pub rows_to : NodeId → ℕ
rows_to Ground = 0
rows_to (At i) = i + 1

unfoldable pub larger_of : ℕ → ℕ → ℕ
larger_of x y = cond (ltb x y) y x

unfoldable pub row_count : Terminals → ℕ
row_count t =
    larger_of (larger_of (larger_of (larger_of (larger_of
    (rows_to t.drain_ext) (rows_to t.source_ext)) (rows_to t.drain)) (rows_to t.gate)) (rows_to t.source)) (rows_to t.bulk)

-- cells as a pattern of n rows
unfoldable pub pattern_in : List ℕ → ℕ → Pattern
pattern_in cells n = record { columns = columns_in cells; offsets = running_offsets 0 (lengths_in cells 0 n); lengths = lengths_in cells 0 n }

unfoldable pub pattern_of : Terminals → Pattern
pattern_of t = pattern_in (cells_of t) (row_count t)

-- the three slices are long enough for so many cells and rows
unfoldable pub have_room : ℕ → ℕ → ℕ → ℕ → ℕ → Bool
have_room cells rows columns offsets lengths = leb cells columns && leb rows offsets && leb rows lengths

-- "the slices' rest is kept": a list in front of what the slice holds behind it
abbrev pub over : List ℕ → List ℕ → List ℕ
over xs slice = xs ++ drop (length xs) slice

-- the three slices at exit: the pattern in front of what they held, or, where one is short, as they were
pub record LaidOut (P : Pattern) (columns offsets lengths columns' offsets' lengths' : List ℕ) : Type 0 where
  pub columns_are : columns' ≡ cond (have_room (length P.columns) (length P.offsets) (length columns) (length offsets) (length lengths)) (over P.columns columns) columns
  pub offsets_are : offsets' ≡ cond (have_room (length P.columns) (length P.offsets) (length columns) (length offsets) (length lengths)) (over P.offsets offsets) offsets
  pub lengths_are : lengths' ≡ cond (have_room (length P.columns) (length P.offsets) (length columns) (length offsets) (length lengths)) (over P.lengths lengths) lengths
