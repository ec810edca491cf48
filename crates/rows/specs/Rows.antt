-- The refusals of evaluation, commit, noise and reactances, each call's rows as one list in their order.
use Rattle.std.specs.Prelude.{ℕ, Bool, false, not, ◌&&◌, ◌||◌, List, [], ◌∷◌, length, get_or, Float}
use Rattle.std.specs.Float.{binary64}
use Rattle.std.specs.Float.Ieee.{of_bits, neg}
use Rattle.exact.specs.Float64.{+0, +1}
use Rattle.device.specs.Limits.{within, outside_temperatures}
use Rattle.device.specs.Nodes.{any_node_beyond}
use Rattle.device.specs.Refusals.{Row, row_number, ◌when◌}
use Rattle.device.specs.Stages.{unbound, unevaluated}
use Rattle.device.specs.declared.NodeId.{NodeId}
use Rattle.device.specs.declared.NodeId.TheVariants.{Ground, At}
use Rattle.device.specs.declared.Stage.{Stage}
use Rattle.device.specs.declared.Discretisation.{Discretisation}
use Rattle.device.specs.declared.Discretisation.TheVariants.{None, Euler, Trapezoid, Gear}
use Rattle.device.specs.declared.Terminals.{Terminals}
use Rattle.temperature.specs.declared.Kelvin.{Kelvin}
use Rattle.bias.specs.declared.Voltages.{Voltages}

-- 1,000 V
abbrev pub kilovolt : Float
kilovolt = of_bits binary64 0x408f_4000_0000_0000

-- 1e-15 s
abbrev pub shortest_step : Float
shortest_step = of_bits binary64 0x3cd2_03af_9ee7_5616

-- ground is 0; a node is its entry of the lent list
unfoldable pub node_voltage_of : List Float → NodeId → Float
node_voltage_of x Ground = +0
node_voltage_of x (At i) = get_or x i +0

unfoldable pub voltages_of : List Float → Terminals → Voltages
voltages_of x t = record { vd = node_voltage_of x t.drain; vg = node_voltage_of x t.gate; vs = node_voltage_of x t.source; vb = node_voltage_of x t.bulk }

-- not from lo to hi, or NaN
unfoldable pub outside_of : Float → Float → Float → Bool
outside_of lo hi v = not (within v lo hi)

-- row 6: temperature outside 200 to 500 K, gmin outside 0 to 1, or one of them NaN
unfoldable pub row6_of : Kelvin → Float → Bool
row6_of temperature gmin = outside_temperatures temperature || outside_of +0 +1 gmin

-- row 9: one of the four voltages read is not finite or beyond 1,000 V in size
unfoldable pub row9_of : Voltages → Bool
row9_of v =
    outside_of (neg kilovolt) kilovolt v.vd || outside_of (neg kilovolt) kilovolt v.vg || outside_of (neg kilovolt) kilovolt v.vs
    || outside_of (neg kilovolt) kilovolt v.vb

-- row 11: h or the earlier h outside 1e-15 to 1, or NaN
unfoldable pub bad_step_of : Float → Bool
bad_step_of h = outside_of shortest_step +1 h

unfoldable pub row11_of : Discretisation → Bool
row11_of None = false
row11_of (Euler h) = bad_step_of h
row11_of (Trapezoid h) = bad_step_of h
row11_of (Gear h h1) = bad_step_of h || bad_step_of h1

-- Rows 8 and 9 speak of nodes, which do not exist before binding: they do not apply there.
unfoldable pub nodes_outside : Stage → Terminals → List Float → Bool
nodes_outside stage t x = not (unbound stage) && any_node_beyond (length x) t

unfoldable pub voltages_outside : Stage → Terminals → List Float → Bool
voltages_outside stage t x = not (unbound stage) && row9_of (voltages_of x t)

-- ---- the refusals of each call

abbrev pub eval_rows : Stage → Terminals → List Float → Kelvin → Float → Discretisation → List Row
eval_rows stage t x temperature gmin disc =
    (6 when row6_of temperature gmin)
    ∷ (8 when nodes_outside stage t x)
    ∷ (9 when voltages_outside stage t x)
    ∷ (10 when unbound stage)
    ∷ (11 when row11_of disc)
    ∷ []

abbrev pub commit_rows : Stage → Terminals → List Float → List Row
commit_rows stage t x = (8 when nodes_outside stage t x) ∷ (9 when voltages_outside stage t x) ∷ (10 when unevaluated stage) ∷ []

abbrev pub noise_rows : Stage → Kelvin → List Row
noise_rows stage temperature = (6 when outside_temperatures temperature) ∷ (10 when unevaluated stage) ∷ []

abbrev pub reactance_rows : Stage → List Row
reactance_rows stage = (10 when unevaluated stage) ∷ []

-- the number of the row that refuses, 0 where none does
unfoldable pub eval_row_of : Stage → Terminals → List Float → Kelvin → Float → Discretisation → ℕ
eval_row_of stage t x temperature gmin disc = row_number (eval_rows stage t x temperature gmin disc)

unfoldable pub commit_row_of : Stage → Terminals → List Float → ℕ
commit_row_of stage t x = row_number (commit_rows stage t x)

unfoldable pub noise_row_of : Stage → Kelvin → ℕ
noise_row_of stage temperature = row_number (noise_rows stage temperature)
