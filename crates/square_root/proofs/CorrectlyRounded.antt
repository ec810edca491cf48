-- The law of the square root: of all values none is nearer to the root, and no other is as near.
use Rattle.std.proofs.Common.{T, inl, inr}
use lib.Ieee.{Float, binary64, fits}
use Rattle.exact.specs.FloatValue.{value}
use Rattle.exact.specs.Size.{NonNegative}
use Rattle.exact.proofs.StrictOrder.{≤_of_<, <_or_≈_or_>, not_≈_of_<, not_≈_of_>}
use Rattle.exact.proofs.Representable.{fits_representable}
use Rattle.square_root.specs.SquareRoot.{sqrt_of}
use Rattle.square_root.specs.CorrectlyRounded.{NotFarther, Tie, CorrectlyRounded}
use Rattle.square_root.proofs.Rooted.{Rooted, rooted, nearer_above, nearer_below}

module _ {x r : Float} (R : Rooted x r) (y : Float) (h : T (fits binary64 y)) (n : NonNegative y) where
  not_farther : NotFarther (value x) (value r) (value y)
  not_farther = record {
    above = λ l. ≤_of_< (nearer_above R (fits_representable binary64 y n.fin h) n.sign l);
    below = λ l. ≤_of_< (nearer_below R (fits_representable binary64 y n.fin h) n.sign l);
  }

  tie_free : ¬ Tie (value x) (value r) (value y)
  tie_free t = elim (<_or_≈_or_> (value r) (value y)) [
    | inl l ↦ not_≈_of_> (nearer_above R (fits_representable binary64 y n.fin h) n.sign l) t.middle
    | inr (inl e) ↦ t.differ e
    | inr (inr l) ↦ not_≈_of_< (nearer_below R (fits_representable binary64 y n.fin h) n.sign l) t.middle
  ]

pub correctly_rounded : (x : Float) → T (fits binary64 x) → NonNegative x → CorrectlyRounded x (sqrt_of x)
correctly_rounded x h n = let R = rooted x h n in record { held = R.held; sign = R.sign; nearest = not_farther R; no_tie = tie_free R }
