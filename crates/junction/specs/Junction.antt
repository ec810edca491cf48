-- A bulk junction after Shockley, with gmin across it.
use Rattle.std.specs.Prelude.{cond, Float}
use Rattle.exact.specs.Float64.{◌⊕◌, ◌⊖◌, ◌⊗◌, ◌⊘◌, ◌≤f◌, +0, +1}
use Rattle.elementary.specs.Functions.{exp_of}
use Rattle.float.specs.Constants.{k_boltzmann, q_electron}
use Rattle.temperature.specs.declared.Kelvin.{Kelvin}
use Rattle.junction.specs.declared.Junction.{Junction}

-- vt = k T / q
unfoldable pub thermal_voltage_of : Kelvin → Float
thermal_voltage_of t = k_boltzmann ⊗ t.0 ⊘ q_electron

-- i = isat (e - 1) + gmin v and g = isat e / vt + gmin, with e = exp(v / vt)
unfoldable pub shockley_of : Float → Float → Float → Float → Float → Junction
shockley_of isat e v vt gmin = record { i = isat ⊗ (e ⊖ +1) ⊕ gmin ⊗ v; g = isat ⊗ e ⊘ vt ⊕ gmin }

-- with isat not above 0 the junction is gmin alone
unfoldable pub bulk_junction_of : Float → Float → Float → Float → Junction
bulk_junction_of isat v vt gmin = cond (isat ≤f +0) (record { i = gmin ⊗ v; g = gmin }) (shockley_of isat (exp_of (v ⊘ vt)) v vt gmin)

-- the exponential by itself: with isat not above 0 nothing reads it, and it is 0
unfoldable pub junction_exponential_of : Float → Float → Float → Float
junction_exponential_of isat v vt = cond (isat ≤f +0) +0 (exp_of (v ⊘ vt))

-- the junction from its exponential e
unfoldable pub junction_at_of : Float → Float → Float → Float → Float → Junction
junction_at_of isat e v vt gmin = cond (isat ≤f +0) (record { i = gmin ⊗ v; g = gmin }) (shockley_of isat e v vt gmin)

-- the Norton offset i - g v, turned back by the polarity
unfoldable pub junction_offset_of : Float → Float → Float → Float → Float
junction_offset_of pol i g v = pol ⊗ (i ⊖ g ⊗ v)
