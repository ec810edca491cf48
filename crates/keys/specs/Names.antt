-- The keys of a card and of a geometry call by their names, and how a key's bytes are recognised.
use Rattle.std.specs.Prelude.{ℕ, ◌+◌, Bool, true, false, cond, ◌&&◌, List, [], ◌∷◌, leb, eqb}
use Prim.Native.Char.{code}
use Prim.Native.String.{String}
use Prim.Native.String as Text
use Rattle.keys.specs.declared.Key.TheVariants.{Vto, Kp, Uo, Is, Js, Lambda, Gamma, Phi, Rd, Rs, Rsh, Kf, Af, Cgso, Cgdo, Cgbo, Cox, Tox, Cj, Cjsw, Pb, Mj, Mjsw, Fc, W, L, Nrd, Nrs, As, Ad, Ps, Pd}
use Rattle.keys.specs.declared.Meaning.{Meaning}
use Rattle.keys.specs.declared.Meaning.TheVariants.{Sets, Tnom, Unread, Unknown}
use Rattle.keys.specs.declared.Table.{Table}
use Rattle.keys.specs.declared.Table.TheVariants.{Card, Geometry}

-- a name in lower case, and what a key of that name means
infix 3 ◌means◌
pub data Name : Type 0 where
  ◌means◌ : String → Meaning → Name

-- the card's keys, and the `MOSFET` list of unmodelled.rs, which is accepted unread
unfoldable pub card_names : List Name
card_names =
    ("vto" means Sets Vto)
    ∷ ("vth0" means Sets Vto)
    ∷ ("vtho" means Sets Vto)
    ∷ ("kp" means Sets Kp)
    ∷ ("uo" means Sets Uo)
    ∷ ("u0" means Sets Uo)
    ∷ ("is" means Sets Is)
    ∷ ("js" means Sets Js)
    ∷ ("lambda" means Sets Lambda)
    ∷ ("gamma" means Sets Gamma)
    ∷ ("phi" means Sets Phi)
    ∷ ("rd" means Sets Rd)
    ∷ ("rs" means Sets Rs)
    ∷ ("rsh" means Sets Rsh)
    ∷ ("kf" means Sets Kf)
    ∷ ("af" means Sets Af)
    ∷ ("tnom" means Tnom)
    ∷ ("cgso" means Sets Cgso)
    ∷ ("cgdo" means Sets Cgdo)
    ∷ ("cgbo" means Sets Cgbo)
    ∷ ("cox" means Sets Cox)
    ∷ ("tox" means Sets Tox)
    ∷ ("cj" means Sets Cj)
    ∷ ("cjsw" means Sets Cjsw)
    ∷ ("pb" means Sets Pb)
    ∷ ("mj" means Sets Mj)
    ∷ ("mjsw" means Sets Mjsw)
    ∷ ("fc" means Sets Fc)
    ∷ ("nsub" means Unread)
    ∷ ("nss" means Unread)
    ∷ ("nfs" means Unread)
    ∷ ("tpg" means Unread)
    ∷ ("ucrit" means Unread)
    ∷ ("uexp" means Unread)
    ∷ ("utra" means Unread)
    ∷ ("vmax" means Unread)
    ∷ ("xj" means Unread)
    ∷ ("ld" means Unread)
    ∷ ("delta" means Unread)
    ∷ ("theta" means Unread)
    ∷ ("eta" means Unread)
    ∷ ("kappa" means Unread)
    ∷ ("php" means Unread)
    ∷ []

-- the keys of the geometry call
unfoldable pub geometry_names : List Name
geometry_names =
    ("w" means Sets W)
    ∷ ("l" means Sets L)
    ∷ ("nrd" means Sets Nrd)
    ∷ ("nrs" means Sets Nrs)
    ∷ ("as" means Sets As)
    ∷ ("ad" means Sets Ad)
    ∷ ("ps" means Sets Ps)
    ∷ ("pd" means Sets Pd)
    ∷ []

unfoldable pub names_of : Table → List Name
names_of Card = card_names
names_of Geometry = geometry_names

-- the ASCII upper-case letters in lower case, every other byte as it is
unfoldable pub lower_of : ℕ → ℕ
lower_of b = cond (leb 65 b && leb b 90) (b + 32) b

-- a key's bytes are a name, ASCII case ignored
unfoldable pub spells : List ℕ → String → Bool
spells [] Text.[] = true
spells [] (Text.◌∷◌ c s) = false
spells (b ∷ bs) Text.[] = false
spells (b ∷ bs) (Text.◌∷◌ c s) = eqb (lower_of b) (code c) && spells bs s

-- what a key means by a list of names; a key that spells none is unknown
unfoldable pub named : List Name → List ℕ → Meaning
named [] key = Unknown
named ((s means m) ∷ names) key = cond (spells key s) m (named names key)

unfoldable pub meaning_of : Table → List ℕ → Meaning
meaning_of table key = named (names_of table) key
