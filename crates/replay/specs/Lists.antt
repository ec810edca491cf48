-- Lists in a word, and what reading them leaves in a lent slice.
use Rattle.std.specs.Prelude.{ℕ, zero, suc, ◌+◌, ◌*◌, ◌/◌, ◌%◌, Bool, true, false, cond, List, [], ◌∷◌, eqb, ltb, length, get_or, set, Option, Some, None, ◌==◌}
use Rattle.std.specs.List.{slice_split}
use Rattle.std.specs.Option.{option_map, option_and_then}
use Rattle.std.specs.Str.{bytes_eq}
use Rattle.hex_text.specs.Hex.{digit_of}

unfoldable pub is_read : {A : Type 0} → Option A → Bool
is_read (Some x) = true
is_read None = false

-- a slice with the item in place n
unfoldable pub stored : {A : Type 0} → List A → ℕ → Option A → List A
stored out n (Some x) = set out n x
stored out n None = out

-- the items of a word: what stands between its commas
abbrev pub items : List ℕ → List (List ℕ)
items w = slice_split (λ b. b == 44) w

-- the count of all items, n of which are behind: each must be read, and have one of the places that are left
unfoldable pub counted : {A : Type 0} → (List ℕ → Option A) → ℕ → ℕ → List (List ℕ) → Option ℕ
counted read n room [] = Some n
counted read n zero (item ∷ rest) = None
counted read n (suc room) (item ∷ rest) = cond (is_read (read item)) (counted read (n + 1) room rest) None

-- the slice with the items from place n on, up to the first that is not read or has no place
unfoldable pub filled : {A : Type 0} → (List ℕ → Option A) → ℕ → ℕ → List A → List (List ℕ) → List A
filled read n room out [] = out
filled read n zero out (item ∷ rest) = out
filled read n (suc room) out (item ∷ rest) = cond (is_read (read item)) (filled read (n + 1) room (stored out n (read item)) rest) out

-- `-` is the empty list
abbrev pub is_empty_list : List ℕ → Bool
is_empty_list w = bytes_eq w (45 ∷ [])

unfoldable pub count_of : {A : Type 0} → (List ℕ → Option A) → ℕ → List ℕ → Option ℕ
count_of read room w = cond (is_empty_list w) (Some 0) (counted read 0 room (items w))

unfoldable pub filled_by : {A : Type 0} → (List ℕ → Option A) → ℕ → List A → List ℕ → List A
filled_by read room out w = cond (is_empty_list w) out (filled read 0 room out (items w))

-- bytes have two digits each, and nothing between
unfoldable pub twos : List ℕ → List (List ℕ)
twos [] = []
twos (a ∷ []) = []
twos (a ∷ b ∷ s) = (a ∷ b ∷ []) ∷ twos s

unfoldable pub byte_from : Option ℕ → Option ℕ → Option ℕ
byte_from high low = option_and_then (λ (h : ℕ). option_map (λ (l : ℕ). h * 16 + l) low) high

unfoldable pub byte_in : List ℕ → Option ℕ
byte_in digits = byte_from (digit_of (get_or digits 0 0)) (digit_of (get_or digits 1 0))

-- a word of an odd length, or of more bytes than there is room for, is read as none and nothing is written
unfoldable pub fit_bytes : ℕ → List ℕ → Bool
fit_bytes room w = cond (eqb (length w % 2) 0) (cond (ltb room (length w / 2)) false true) false

unfoldable pub byte_count_of : ℕ → List ℕ → Option ℕ
byte_count_of room w = cond (is_empty_list w) (Some 0) (cond (fit_bytes room w) (counted byte_in 0 room (twos w)) None)

unfoldable pub bytes_filled_by : List ℕ → List ℕ → List ℕ
bytes_filled_by out w = cond (is_empty_list w) out (cond (fit_bytes (length out) w) (filled byte_in 0 (length out) out (twos w)) out)
