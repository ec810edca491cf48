-- Row 14 of the refusals: the runs of rows that the blocks of a bridge own in the shared right-hand side. Quotations are from document 02,
-- Wish 2. A run is the struct of the code: "A block owns a run of rows that begins somewhere inside the shared right-hand side", its first row,
-- and how many rows it has.
pub use Rattle.bridge.specs.declared.Run.{Run}
use Rattle.std.specs.Prelude.{ℕ, ◌+◌, Bool, false, not, ◌&&◌, ◌||◌, List, [], ◌∷◌, length, eqb, leb, ltb}

-- a condition holds of one in a list
unfoldable pub any_of : {A : Type 0} → (A → Bool) → List A → Bool
any_of p [] = false
any_of p (x ∷ xs) = p x || any_of p xs

-- the row behind its last one. The sum is of natural numbers, so none can overflow
abbrev pub end_of : Run → ℕ
end_of a = a.start + a.count

-- two runs share a row: each begins before the other ends, and neither is empty
unfoldable pub overlap : Run → Run → Bool
overlap a b = ltb a.start (end_of b) && ltb b.start (end_of a) && not (eqb a.count 0) && not (eqb b.count 0)

-- "two blocks' runs overlap"
unfoldable pub any_overlap : List Run → Bool
any_overlap [] = false
any_overlap (a ∷ rest) = any_of (overlap a) rest || any_overlap rest

-- "or leave the buffer", of so many rows; an empty run must lie inside too
unfoldable pub leaves : ℕ → Run → Bool
leaves rows a = ltb rows (end_of a)

-- the runs, lent as two slices
unfoldable pub runs_of : List ℕ → List ℕ → List Run
runs_of [] counts = []
runs_of (s ∷ starts) [] = []
runs_of (s ∷ starts) (n ∷ counts) = record { start = s; count = n } ∷ runs_of starts counts

-- the runs are no runs of a right-hand side of so many rows; two slices of different lengths are none
unfoldable pub bad_runs : List ℕ → List ℕ → ℕ → Bool
bad_runs starts counts rows =
    not (eqb (length starts) (length counts)) || any_of (leaves rows) (runs_of starts counts) || any_overlap (runs_of starts counts)

-- "the whole bridge of up to 64 devices"
abbrev pub most_devices : ℕ
most_devices = 64

-- row 14 of a bridge's load, of so many devices
unfoldable pub bridge_refused : List ℕ → List ℕ → ℕ → ℕ → Bool
bridge_refused starts counts rows devices = ltb most_devices devices || bad_runs starts counts rows

-- row 14 of the load of the block that has a number: "the tested block has no run" is a number that is not below that of the runs
unfoldable pub block_refused : ℕ → List ℕ → List ℕ → ℕ → ℕ → Bool
block_refused block starts counts rows devices = bridge_refused starts counts rows devices || leb (length starts) block
