-- A junction is the junction at its exponential.
-- Assumes nothing.
use mathlib.Core.Path.{◌≡◌, refl}
use mathlib.Core.Bool.{Bool, true, false, cond}
use lib.Ieee.{Float}
use Rattle.exact.specs.Float64.{◌⊘◌, ◌⊗◌, ◌≤f◌, +0}
use Rattle.elementary.specs.Functions.{exp_of}
use Rattle.junction.specs.declared.Junction.{Junction}
use Rattle.junction.specs.Junction.{shockley_of, junction_exponential_of, junction_at_of, bulk_junction_of}

-- by the test of isat, whatever it says
by_test : (b : Bool) (j : Junction) (isat e v vt gmin : Float) → cond b j (shockley_of isat e v vt gmin) ≡ cond b j (shockley_of isat (cond b +0 e) v vt gmin)
by_test true j isat e v vt gmin = refl
by_test false j isat e v vt gmin = refl

pub over_exponential : (isat v vt gmin : Float) → bulk_junction_of isat v vt gmin ≡ junction_at_of isat (junction_exponential_of isat v vt) v vt gmin
unfolding bulk_junction_of junction_at_of junction_exponential_of
over_exponential isat v vt gmin = by_test (isat ≤f +0) (record { i = gmin ⊗ v; g = gmin }) isat (exp_of (v ⊘ vt)) v vt gmin
