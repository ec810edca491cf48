-- How the code compares a key with a name: byte by byte, both in lower case.
use Rattle.std.specs.Prelude.{ℕ, cond, List, [], ◌∷◌}
use Rattle.std.specs.Str.{str_eq_ignore_ascii_case}
use Prim.Native.Char.{code}
use Prim.Native.String.{String}
use Prim.Native.String as Text
use Rattle.keys.specs.Names.{Name, ◌means◌}
use Rattle.keys.specs.declared.Meaning.{Meaning}
use Rattle.keys.specs.declared.Meaning.TheVariants.{Unknown}

unfoldable pub bytes_of : String → List ℕ
bytes_of Text.[] = []
bytes_of (Text.◌∷◌ c s) = code c ∷ bytes_of s

-- the meaning of the first name that a key is
unfoldable pub found : List Name → List ℕ → Meaning
found [] key = Unknown
found ((s means m) ∷ names) key = cond (str_eq_ignore_ascii_case key (bytes_of s)) m (found names key)
