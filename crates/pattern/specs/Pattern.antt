-- The matrix pattern: the columns of all rows in one list, and for each row the offset and the length of its part.
use Rattle.std.specs.Prelude.{ℕ, suc, ◌+◌, ◌-◌, ◌^◌, Bool, true, false, cond, ◌&&◌, List, [], ◌∷◌, length, ◌==◌, nat_le, nat_lt, slice_index, Option, Some, None}
use Rattle.std.proofs.Math.Seq.{slice}
use Rattle.pattern.specs.declared.Pattern.{Pattern as Lent}
use Rattle.pattern.specs.declared.RowSpan.{RowSpan}

-- a matrix pattern: all columns, and each row's offset and length
pub record Pattern : Type 0 where
  pub columns : List ℕ
  pub offsets : List ℕ
  pub lengths : List ℕ

-- the pattern that three lent slices hold
abbrev pub lists : Lent → Pattern
lists p = record { columns = p.columns.now; offsets = p.offsets.now; lengths = p.lengths.now }

-- each column of the list is above the one before it
unfoldable pub rising_after : ℕ → List ℕ → Bool
rising_after x [] = true
rising_after x (y ∷ ys) = nat_lt x y && rising_after y ys

unfoldable pub rising : List ℕ → Bool
rising [] = true
rising (x ∷ xs) = rising_after x xs

-- the columns of a row: length of them, from offset on
abbrev pub row_columns : List ℕ → ℕ → ℕ → List ℕ
row_columns columns offset len = slice offset (offset + len) columns

-- each pair of offset and length starts at or behind the last one's end and ends within the columns, the columns of
-- each rise, and there are as many offsets as lengths. The sums are of natural numbers, so none can overflow
unfoldable pub pairs_fit : List ℕ → ℕ → List ℕ → List ℕ → Bool
pairs_fit columns end [] [] = true
pairs_fit columns end [] (n ∷ ns) = false
pairs_fit columns end (o ∷ os) [] = false
pairs_fit columns end (o ∷ os) (n ∷ ns) =
    nat_le end o && nat_le (o + n) (length columns) && rising (row_columns columns o n) && pairs_fit columns (o + n) os ns

-- row 12 of the refusals does not apply: the pairs fit, and there are as many values as columns
unfoldable pub well_formed : List ℕ → List ℕ → List ℕ → ℕ → Bool
well_formed columns offsets lengths values = values == length columns && pairs_fit columns 0 offsets lengths

-- the first place at which a column stands in a list whose first place has the number at
unfoldable pub place_in : ℕ → List ℕ → ℕ → Option ℕ
place_in at [] column = None
place_in at (x ∷ xs) column = cond (x == column) (Some at) (place_in (suc at) xs column)

-- `Pattern::cell`: the place of a row's column among all columns, if the row is there and has it
unfoldable pub cell_of : List ℕ → List ℕ → List ℕ → ℕ → ℕ → Option ℕ
cell_of columns offsets lengths row column =
    place_in (slice_index offsets row) (row_columns columns (slice_index offsets row) (slice_index lengths row)) column

-- a row's part of the columns: its offset, its length, and the column that it starts with, 0 where it is empty. All three are 0 for a row
-- behind the last
unfoldable pub span_of : List ℕ → List ℕ → List ℕ → ℕ → RowSpan
span_of columns offsets lengths row =
    record {
      from = slice_index offsets row;
      len = slice_index lengths row;
      first = cond (slice_index lengths row == 0) 0 (slice_index columns (slice_index offsets row));
    }

-- how far a column lies behind the first, as 64 bits count it
unfoldable pub distance : ℕ → ℕ → ℕ
distance first column = cond (nat_le first column) (column - first) (column + (2 ^ 64 - first))

-- a place n behind a row's start, if the row reaches that far and the column stands there
unfoldable pub place_behind : List ℕ → ℕ → ℕ → ℕ → ℕ → Option ℕ
place_behind columns from len column n =
    cond (nat_le len n) None (cond (slice_index columns (from + n) == column) (Some (from + n)) None)

-- the place that a column has in a row without gaps: as far behind the row's start as the column is behind the row's first
unfoldable pub guess_of : List ℕ → ℕ → ℕ → ℕ → ℕ → Option ℕ
guess_of columns from len first column = place_behind columns from len column (distance first column)
