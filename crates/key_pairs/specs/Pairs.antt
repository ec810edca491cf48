-- Pairs of offset and length into a key buffer, and the condition of row 1 on them.
use Rattle.std.specs.Prelude.{ℕ, ◌+◌, ◌<◌, ◌≤◌, Bool, false, not, ◌||◌, List, [], ◌∷◌, ltb, eqb, Float, length, get_or}

-- the pair at a place lies within the key bytes
pub record Inside (bytes offsets lengths : List ℕ) (i : ℕ) : Type 0 where
  pub offset : i < length offsets
  pub size : i < length lengths
  pub end : get_or offsets i 0 + get_or lengths i 0 ≤ length bytes

-- row 1: a pair starts before the last one's end, or goes past the key bytes, of which there are size
unfoldable pub pairs_astray : ℕ → ℕ → List ℕ → List ℕ → Bool
pairs_astray size last [] lengths = false
pairs_astray size last (o ∷ offsets) [] = false
pairs_astray size last (o ∷ offsets) (n ∷ lengths) = ltb o last || (ltb size (o + n) || pairs_astray size (o + n) offsets lengths)

-- row 1: that, or offsets, lengths and values differ in count
unfoldable pub bad_pairs : List ℕ → List ℕ → List ℕ → List Float → Bool
bad_pairs bytes offsets lengths values =
    not (eqb (length offsets) (length lengths)) || (not (eqb (length offsets) (length values)) || pairs_astray (length bytes) 0 offsets lengths)
