-- The lines of an input whose first line has begun already.
use Prim.Native.Nat.{ℕ}
use mathlib.Core.Path.{◌≡◌, refl, ap}
use mathlib.Core.List.{List, [], ◌∷◌, ◌++◌}
use Rattle.curve_lines.specs.Printed.{longer}

-- the bytes k stand before the first line
unfoldable pub ahead : List ℕ → List (List ℕ) → List (List ℕ)
ahead [] lines = lines
ahead (b ∷ k) lines = longer b (ahead k lines)

pub ahead_line : (k line : List ℕ) (lines : List (List ℕ)) → ahead k (line ∷ lines) ≡ (k ++ line) ∷ lines
unfolding ahead longer
ahead_line [] line lines = refl
ahead_line (b ∷ k) line lines = ap (longer b) (ahead_line k line lines)

pub ahead_none : (b : ℕ) (k : List ℕ) → ahead (b ∷ k) [] ≡ (b ∷ k) ∷ []
unfolding ahead longer
ahead_none b [] = refl
ahead_none b (c ∷ k) = ap (longer b) (ahead_none c k)

pub ahead_longer : (k : List ℕ) (b : ℕ) (lines : List (List ℕ)) → ahead k (longer b lines) ≡ ahead (k ++ (b ∷ [])) lines
unfolding ahead
ahead_longer [] b lines = refl
ahead_longer (c ∷ k) b lines = ap (longer c) (ahead_longer k b lines)
