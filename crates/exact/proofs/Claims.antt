-- Several inequalities of closed fractions at once: one test computes, and each comes out as a fact.
use mathlib.Core.Bool.{Bool, true, ◌&&◌}
use mathlib.Core.List.{List, [], ◌∷◌}
use lib.Dec.{T}
use Rattle.exact.specs.Fraction.{ℚ, ◌≤q◌, leqb}
use Rattle.exact.proofs.NatProver.{and_l, and_r}
use Rattle.exact.proofs.FractionLaws.{lit_≤}

infix 4 ◌≤?◌
pub data Claim : Type 0 where
  ◌≤?◌ : ℚ → ℚ → Claim

abbrev pub all : List Claim → Bool
all [] = true
all ((a ≤? b) ∷ cs) = leqb a b && all cs

abbrev pub Facts : List Claim → Type 0
Facts [] = Unit {0}
Facts ((a ≤? b) ∷ cs) = (a ≤q b) × Facts cs

pub facts : (cs : List Claim) → T (all cs) → Facts cs
facts [] t = tt
facts ((a ≤? b) ∷ cs) t = (lit_≤ (and_l (leqb a b) (all cs) t), facts cs (and_r (leqb a b) (all cs) t))
