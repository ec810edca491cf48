-- Entries set to zero.
use mathlib.Core.Path.{◌≡◌, refl, ap}
use mathlib.Core.List.{List, [], ◌∷◌}
use lib.ListN.{length}
use lib.Ieee.{Float}
use Rattle.std.proofs.Common.{replicate}
use Rattle.exact.specs.Float64.{+0}
use Rattle.bridge.specs.Bridge.{zeroed}

pub all_zero : (xs : List Float) → zeroed xs ≡ replicate (length xs) +0
unfolding zeroed
all_zero [] = refl
all_zero (x ∷ xs) = ap (λ (ys : List Float). +0 ∷ ys) (all_zero xs)
