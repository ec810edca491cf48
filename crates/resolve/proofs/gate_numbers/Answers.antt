use Rattle.places.specs.Places.{numbers_of}
use Rattle.places.proofs.Spans.{◌∷≡◌}
use Rattle.resolve.specs.Resolve.{gate_pairs_of}
use Rattle.resolve.proofs.gate_numbers.Goals as goal
-- `resolve::gate_numbers`.
use mathlib.Core.Path.{refl}

pub returns : goal.returns
unfolding numbers_of gate_pairs_of
returns c =
    c.number-g_g.ensures ∷≡ c.number-g_s.ensures ∷≡ c.number-g_d.ensures ∷≡ c.number-g_b.ensures ∷≡ c.number-b_g.ensures ∷≡ refl
