-- Steps of the code: which runs its private functions read, and what the one answers that knows the usual runs in one pass. A reader of row
-- 14 needs none of it.
use Rattle.std.specs.Prelude.{ℕ, Bool, true, not, ◌&&◌, List, [], ◌∷◌, get_or}
use Rattle.bridge.specs.Runs.{Run, leaves}

-- the run of the block that has a number, out of the two lent slices
abbrev pub run_of : List ℕ → List ℕ → ℕ → Run
run_of starts counts k = record { start = get_or starts k 0; count = get_or counts k 0 }

-- the row at which a run that stands before these must have ended: the first row of the first of them, or the end of so many rows
unfoldable pub limit_of : ℕ → List Run → ℕ
limit_of rows [] = rows
limit_of rows (a ∷ rest) = a.start

-- each run ends where the next one begins, or before, and the last one inside so many rows
unfoldable pub rising : ℕ → List Run → Bool
rising rows [] = true
rising rows (a ∷ rest) = not (leaves (limit_of rows rest) a) && rising rows rest
