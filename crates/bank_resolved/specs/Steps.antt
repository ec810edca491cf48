-- The steps of the code. A reader of the calls needs none of it.
use Rattle.std.specs.Prelude.{ℕ, Bool, false, List, [], ◌∷◌, length, ltb, Float}
use Rattle.device.specs.Refusals.{row_number}
use Rattle.loading.specs.declared.LoadKind.{LoadKind}
use Rattle.record_words.specs.Words.{record_of}
use Rattle.record_resolved.specs.Steps.{resolved_number}
use Rattle.bridge_devices.specs.Steps.{first_of, lower}
use Rattle.bank_resolved.specs.Resolved.{celled_of, celled_rows}

-- the number of the first row that refuses the devices, 0 where none does
unfoldable pub celled_row : List (List Float) → LoadKind → List (List ℕ) → ℕ → ℕ → ℕ
celled_row bank k cells rows values = row_number (celled_rows (celled_of bank cells) (ltb (length cells) (length bank)) k rows values)

-- the lowest of the numbers of the devices that have a list of cells, and row 13's where one lacks it; 0 where all of them are 0
unfoldable pub number_from : ℕ → Float → ℕ → ℕ → Bool → List (List Float) → List (List ℕ) → ℕ
number_from transient alpha rows values lacking [] cs = first_of false false false false lacking
number_from transient alpha rows values lacking (w ∷ ws) [] = first_of false false false false lacking
number_from transient alpha rows values lacking (w ∷ ws) (c ∷ cs) =
    lower (resolved_number (record_of w) transient alpha c rows values) (number_from transient alpha rows values lacking ws cs)

unfoldable pub lowest_number : List (List Float) → ℕ → Float → List (List ℕ) → ℕ → ℕ → ℕ
lowest_number bank transient alpha cells rows values = number_from transient alpha rows values (ltb (length cells) (length bank)) bank cells
