-- A key is a name, ASCII case ignored, just where it spells the name, since the names are in lower case.
use mathlib.Core.Path.{◌≡◌, refl, sym, ap₂}
use mathlib.Core.Bool.{Bool, true, false, cond, ◌&&◌, ◌||◌}
use mathlib.Core.List.{List, [], ◌∷◌}
use Prim.Native.Nat.{ℕ, ◌+◌, ◌<◌, ◌≤◌}
use Prim.Native.Char.{code}
use Prim.Native.String.{String}
use Prim.Native.String as Text
use native.Mathlib.Numerals.{add-one}
use native.Mathlib.Omega.{arith}
use lib.ListN.{length, get_or, drop, drop_of_length-le}
use lib.Seq.{drop-cons}
use borrow.Author.Tests.{eqb-true}
use lib.Dec.{T, eqb}
use Rattle.std.proofs.lemmas.Bool.Decides.{nat_tests}
use Rattle.std.specs.Char.{to_ascii_lowercase, to_ascii_uppercase, eq_ignore_ascii_case}
use Rattle.std.specs.Str.{str_eq_ignore_ascii_case}
use Rattle.keys.specs.Names.{Name, ◌means◌, card_names, geometry_names, names_of, lower_of, spells, named}
use Rattle.keys.specs.declared.Meaning.{Meaning}
use Rattle.keys.specs.declared.Table.{Table}
use Rattle.keys.specs.declared.Table.TheVariants.{Card, Geometry}
use Rattle.key_names.specs.Spelling.{bytes_of, found}

same : (b : ℕ) → to_ascii_lowercase b ≡ lower_of b
unfolding lower_of
same b = grind (arith, nat_tests)

-- a byte is another, case ignored, where it is that one in either case
pub either_case : (a b : ℕ) → (eqb a (to_ascii_lowercase b) || eqb a (to_ascii_uppercase b)) ≡ eq_ignore_ascii_case a b
either_case a b = grind (arith, nat_tests)

-- one byte more of a key and a name, case ignored
pub case_step : (key name : List ℕ) (i : ℕ) → i < length key → i < length name → str_eq_ignore_ascii_case (drop i key) (drop i name) ≡ (eq_ignore_ascii_case (get_or key i 0) (get_or name i 0) && str_eq_ignore_ascii_case (drop (i + 1) key) (drop (i + 1) name))
case_step key name i h g = rw (add-one i, drop-cons key i 0 h, drop-cons name i 0 g)

pub case_end : (key name : List ℕ) (i : ℕ) → length key ≤ i → length name ≤ i → str_eq_ignore_ascii_case (drop i key) (drop i name) ≡ true
case_end key name i h g = rw (drop_of_length-le key h, drop_of_length-le name g)

abbrev low : String → Bool
low Text.[] = true
low (Text.◌∷◌ c s) = eqb (to_ascii_lowercase (code c)) (code c) && low s

unfoldable pub all_low : List Name → Bool
all_low [] = true
all_low ((s means m) ∷ names) = low s && all_low names

parts : (a b : Bool) → T (a && b) → T a × T b
parts true true t = (tt, tt)
parts true false t = absurd t
parts false b t = absurd t

holds : (a : Bool) → T a → a ≡ true
holds true t = refl
holds false t = absurd t

is_spelt : (bs : List ℕ) (s : String) → T (low s) → spells bs s ≡ str_eq_ignore_ascii_case bs (bytes_of s)
unfolding spells bytes_of
is_spelt [] Text.[] t = refl
is_spelt [] (Text.◌∷◌ c s) t = refl
is_spelt (b ∷ bs) Text.[] t = refl
is_spelt (b ∷ bs) (Text.◌∷◌ c s) t =
    let u = parts (eqb (to_ascii_lowercase (code c)) (code c)) (low s) t in
    let e = eqb-true (to_ascii_lowercase (code c)) (code c) (holds _ u.0) in
    ap₂ (λ (x y : Bool). x && y) (ap₂ (λ (x y : ℕ). eqb x y) (sym (same b)) (sym e)) (is_spelt bs s u.1)

-- the name that a key is found to be is the one that it spells
pub found_is : (names : List Name) → T (all_low names) → (bs : List ℕ) → named names bs ≡ found names bs
unfolding named found all_low
found_is [] t bs = refl
found_is ((s means m) ∷ names) t bs =
    let u = parts (low s) (all_low names) t in
    ap₂ (λ (b : Bool) (r : Meaning). cond b m r) (is_spelt bs s u.0) (found_is names u.1 bs)

-- ---- the names of both calls

pub names_low : (table : Table) → T (all_low (names_of table))
unfolding all_low names_of card_names geometry_names
names_low Card = tt
names_low Geometry = tt
