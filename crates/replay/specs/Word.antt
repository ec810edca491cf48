-- The words of a line: its runs of bytes other than spaces.
use Rattle.std.specs.Prelude.{ℕ, List, [], not, ◌==◌, filter, length, slice_index_or}
use Rattle.std.specs.List.{slice_split}

-- what stands between the spaces of a line, and is not empty
abbrev pub words : List ℕ → List (List ℕ)
words line = filter (λ w. not (length w == 0)) (slice_split (λ b. b == 32) line)

-- word number k, counted from 0; empty where there are fewer
abbrev pub word_of : List ℕ → ℕ → List ℕ
word_of line k = slice_index_or (words line) k []

abbrev pub word_count_of : List ℕ → ℕ
word_count_of line = length (words line)
