-- The steps of the code: what its private functions answer. A reader of the pattern needs none of it.
use Rattle.std.specs.Prelude.{ℕ, suc, ◌/◌, cond, List, [], ◌∷◌, ltb}
use Rattle.cells.specs.Cells.{row_width}

-- how many cells stand in rows before a row
unfoldable pub count_before : ℕ → List ℕ → ℕ
count_before row [] = 0
count_before row (c ∷ cells) = cond (ltb (c / row_width) row) (suc (count_before row cells)) (count_before row cells)
