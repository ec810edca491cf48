-- The keys of a call with their values, and the conditions of rows 1 to 4 and 6 on them.
use Rattle.std.specs.Prelude.{ℕ, suc, ◌+◌, Bool, false, cond, ◌||◌, List, [], ◌∷◌, leb, ltb, length, get_or, take, drop, Float}
use Rattle.std.proofs.lemmas.List.Edits.{sets}
use Rattle.device.specs.Refusals.{Row, unless, Outcome, done, refused, ◌when◌}
pub use Rattle.key_pairs.specs.Pairs.{pairs_astray, bad_pairs}
use Rattle.keys.specs.Names.{meaning_of}
use Rattle.keys.specs.Ranges.{outside_of, tnom_outside, is_unknown}
use Rattle.keys.specs.declared.Meaning.{Meaning}
use Rattle.entries.specs.declared.KeysRead.{KeysRead}
use Rattle.entries.specs.declared.Scan.{Scan}
use Rattle.keys.specs.declared.Table.{Table}

-- a key's bytes, and its value
pub record Entry : Type 0 where
  pub key : List ℕ
  pub value : Float

-- what pairs of offset and length cut out of the key bytes, each with its value
unfoldable pub entries_of : List ℕ → List ℕ → List ℕ → List Float → List Entry
entries_of bytes [] lengths values = []
entries_of bytes (o ∷ offsets) [] values = []
entries_of bytes (o ∷ offsets) (n ∷ lengths) [] = []
entries_of bytes (o ∷ offsets) (n ∷ lengths) (v ∷ values) =
    record { key = take n (drop o bytes); value = v } ∷ entries_of bytes offsets lengths values

-- the key of the pair at a place
abbrev pub key_at : List ℕ → List ℕ → List ℕ → ℕ → List ℕ
key_at bytes offsets lengths i = take (get_or lengths i 0) (drop (get_or offsets i 0) bytes)

-- row 2: a byte inside a key is 128 or more
unfoldable pub beyond_ascii : List ℕ → Bool
beyond_ascii [] = false
beyond_ascii (b ∷ bs) = leb 128 b || beyond_ascii bs

unfoldable pub any_beyond_ascii : List Entry → Bool
any_beyond_ascii [] = false
any_beyond_ascii (e ∷ es) = beyond_ascii e.key || any_beyond_ascii es

-- row 3: the places of the unknown keys, in order, counted from i
unfoldable pub unknown_from : Table → ℕ → List Entry → List ℕ
unknown_from table i [] = []
unknown_from table i (e ∷ es) =
    cond (is_unknown (meaning_of table e.key)) (i ∷ unknown_from table (suc i) es) (unknown_from table (suc i) es)

-- "A made-up count fails, since the list fixes it"
unfoldable pub unknown_count : Table → List Entry → ℕ
unknown_count table es = length (unknown_from table 0 es)

-- row 4: the value of a key that is known lies outside its range, overridden or not
unfoldable pub any_outside : Table → List Entry → Bool
any_outside table [] = false
any_outside table (e ∷ es) = outside_of (meaning_of table e.key) e.value || any_outside table es

-- what the keys set, where `assigned` is what one key more sets: a later key overrides
unfoldable pub settings_of : {S : Type 0} → (S → Meaning → Float → S) → Table → S → List Entry → S
settings_of assigned table s [] = s
settings_of assigned table s (e ∷ es) = settings_of assigned table (assigned s (meaning_of table e.key) e.value) es

-- row 6: any tnom given lies outside 200 to 500 K
unfoldable pub any_tnom_outside : Table → List Entry → Bool
any_tnom_outside table [] = false
any_tnom_outside table (e ∷ es) = tnom_outside (meaning_of table e.key) e.value || any_tnom_outside table es

-- the four together, as one pass finds them
abbrev pub scan_of : Table → List Entry → Scan
scan_of table es =
    record { beyond_ascii = any_beyond_ascii es; unknown = unknown_count table es; outside = any_outside table es; tnom_outside = any_tnom_outside table es }

-- one key more, in front of those scanned
abbrev pub scanned_with : Scan → Bool → Meaning → Float → Scan
scanned_with s high m v =
    record { beyond_ascii = high || s.beyond_ascii; unknown = cond (is_unknown m) (s.unknown + 1) s.unknown; outside = outside_of m v || s.outside; tnom_outside = tnom_outside m v || s.tnom_outside }

-- ---- the rows that the card and the geometry call share

-- rows 1 to 4; space is the lent list's length
abbrev pub key_rows : Table → List ℕ → List ℕ → List ℕ → List Float → ℕ → List Row
key_rows table bytes offsets lengths values space =
    let es = entries_of bytes offsets lengths values in
    (1 when bad_pairs bytes offsets lengths values)
    ∷ (2 when any_beyond_ascii es)
    ∷ (3 when ltb space (unknown_count table es))
    ∷ (4 when any_outside table es)
    ∷ []

-- what keys that pass rows 1 to 4 leave, or the refusal
unfoldable pub keys_of : Table → List ℕ → List ℕ → List ℕ → List Float → ℕ → Outcome KeysRead
keys_of table bytes offsets lengths values space =
    let es = entries_of bytes offsets lengths values in
    unless (key_rows table bytes offsets lengths values space) refused (done (record { unknown = unknown_count table es; outside = any_tnom_outside table es }))

-- the lent list after a call with these rows: the unknown keys' places in order at its front, its rest unchanged; unchanged after
-- a refusal
abbrev pub list_after : List Row → Table → List Entry → List ℕ → List ℕ
list_after rows table es list = unless rows (λ _. list) (sets list 0 (unknown_from table 0 es))
