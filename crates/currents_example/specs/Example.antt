-- A card, a list of calls on its device, and a load after them: an NMOS transistor over two committed steps and a third that is loaded.
-- The list meets every premise of demand 3, and none of them because there is nothing to meet.
use Rattle.std.specs.Prelude.{ℕ, true, List, [], ◌∷◌, ◌++◌, Float}
use Rattle.std.specs.Float.{binary64}
use Rattle.std.specs.Float.Ieee.{of_bits, neg}
use Rattle.exact.specs.Float64.{+0, +1, -1}
use Rattle.temperature.specs.Constants.{reftemp_k}
use Rattle.temperature.specs.declared.Kelvin.{Kelvin}
use Rattle.device.specs.declared.Discretisation.{Discretisation}
use Rattle.device.specs.declared.Discretisation.TheVariants.{Euler, Trapezoid, Gear}
use Rattle.device.specs.declared.NodeId.TheVariants.{Ground, At}
use Rattle.card.specs.Card.{+0·5, +1e-4}
use Rattle.mosfet1.specs.declared.steps.Conditions.{Conditions}
use Rattle.assembly.specs.Assembly.{Pattern}
use Rattle.loading.specs.declared.LoadKind.{LoadKind}
use Rattle.loading.specs.declared.LoadKind.TheVariants.{Transient}
use Rattle.call_lists.specs.Calls.{Call, geometry, scaling, binding, evaluation, loading, commit, noise, reactances}

-- ---- numbers, each the f64 nearest to its name
abbrev pub +0·25 : Float
+0·25 = of_bits binary64 0x3fd0_0000_0000_0000

abbrev pub +2 : Float
+2 = of_bits binary64 0x4000_0000_0000_0000

abbrev pub +2·5 : Float
+2·5 = of_bits binary64 0x4004_0000_0000_0000

abbrev pub +5 : Float
+5 = of_bits binary64 0x4014_0000_0000_0000

abbrev pub +1001 : Float
+1001 = of_bits binary64 0x408f_4800_0000_0000

abbrev pub +0·02 : Float
+0·02 = of_bits binary64 0x3f94_7ae1_47ae_147b

abbrev pub +1e-5 : Float
+1e-5 = of_bits binary64 0x3ee4_f8b5_88e3_68f1

abbrev pub +1e-6 : Float
+1e-6 = of_bits binary64 0x3eb0_c6f7_a0b5_ed8d

abbrev pub +2e-8 : Float
+2e-8 = of_bits binary64 0x3e55_798e_e230_8c3a

abbrev pub +1e-9 : Float
+1e-9 = of_bits binary64 0x3e11_2e0b_e826_d695

abbrev pub +2e-9 : Float
+2e-9 = of_bits binary64 0x3e21_2e0b_e826_d695

abbrev pub +1e-10 : Float
+1e-10 = of_bits binary64 0x3ddb_7cdf_d9d7_bdbb

abbrev pub +4e-10 : Float
+4e-10 = of_bits binary64 0x3dfb_7cdf_d9d7_bdbb

abbrev pub +1e-12 : Float
+1e-12 = of_bits binary64 0x3d71_9799_812d_ea11

-- ---- the card: NMOS, tox 2e-8, lambda 0.02, gamma 0.5, cgso 4e-10, cj 1e-4
abbrev pub card_bytes : List ℕ
card_bytes =
    116 ∷ 111 ∷ 120
    ∷ 108 ∷ 97 ∷ 109 ∷ 98 ∷ 100 ∷ 97
    ∷ 103 ∷ 97 ∷ 109 ∷ 109 ∷ 97
    ∷ 99 ∷ 103 ∷ 115 ∷ 111
    ∷ 99 ∷ 106
    ∷ []

abbrev pub card_offsets : List ℕ
card_offsets = 0 ∷ 3 ∷ 9 ∷ 14 ∷ 18 ∷ []

abbrev pub card_lengths : List ℕ
card_lengths = 3 ∷ 6 ∷ 5 ∷ 4 ∷ 2 ∷ []

abbrev pub card_values : List Float
card_values = +2e-8 ∷ +0·02 ∷ +0·5 ∷ +4e-10 ∷ +1e-4 ∷ []

-- ---- the calls
-- w 1e-5, l 1e-6, as 1e-10: the source's junction has a capacitance, the drain's has none
abbrev pub geometry_call : Call
geometry_call = geometry (119 ∷ 108 ∷ 97 ∷ 115 ∷ []) (0 ∷ 1 ∷ 2 ∷ []) (1 ∷ 1 ∷ 2 ∷ []) (+1e-5 ∷ +1e-6 ∷ +1e-10 ∷ []) []

-- 300.15 K, which is the card's nominal temperature too
abbrev pub kelvin : Kelvin
kelvin = record { 0 = reftemp_k }

-- drain 0, gate 1, source at ground, bulk 2
abbrev pub binding_call : Call
binding_call = binding (At 0) (At 1) Ground (At 2) 3

-- the voltages of drain, gate and bulk at the three steps
abbrev pub x1 : List Float
x1 = +1 ∷ +2 ∷ -1 ∷ []

abbrev pub x2 : List Float
x2 = +1 ∷ +2·5 ∷ neg +0·5 ∷ []

abbrev pub x3 : List Float
x3 = +2 ∷ +5 ∷ +0·25 ∷ []

-- row 9: a drain voltage of 1,001 V
abbrev pub x_refused : List Float
x_refused = +1001 ∷ +5 ∷ +0·25 ∷ []

-- at 300.15 K, with gmin 1e-12 and the limiter on
abbrev pub conditions_with : Discretisation → Conditions
conditions_with method = record { temperature = kelvin; gmin = +1e-12; limiter = true; method = method }

abbrev pub conditions1 : Conditions
conditions1 = conditions_with (Euler +1e-9)

abbrev pub conditions2 : Conditions
conditions2 = conditions_with (Trapezoid +1e-9)

abbrev pub conditions3 : Conditions
conditions3 = conditions_with (Gear +2e-9 +1e-9)

-- ---- the load: all nine cells, empty but for the two, (1, 2) and (2, 1), that get no contribution
abbrev pub pattern : Pattern
pattern = record {
  columns = 0 ∷ 1 ∷ 2 ∷ 0 ∷ 1 ∷ 2 ∷ 0 ∷ 1 ∷ 2 ∷ [];
  offsets = 0 ∷ 3 ∷ 6 ∷ [];
  lengths = 3 ∷ 3 ∷ 3 ∷ [];
}

abbrev pub side : List Float
side = +0 ∷ +0 ∷ +0 ∷ []

abbrev pub matrix : List Float
matrix = +0 ∷ +0 ∷ +0 ∷ +0 ∷ +0 ∷ +1 ∷ +0 ∷ +1 ∷ +0 ∷ []

-- under Gear alpha is not read
abbrev pub kind : LoadKind
kind = Transient +1

-- ---- the list: all eight kinds of calls, and refused ones: a commit before the first evaluation and an evaluation beyond 1,000 V
abbrev pub setup : List Call
setup = geometry_call ∷ scaling kelvin ∷ binding_call ∷ commit x1 ∷ []

abbrev pub steps : List Call
steps = evaluation x1 true conditions1 ∷ commit x1 ∷ evaluation x2 true conditions2 ∷ loading kind pattern side matrix ∷ commit x2 ∷ []

abbrev pub rest : List Call
rest = evaluation x_refused true conditions3 ∷ noise kelvin +1 ∷ reactances ∷ []

abbrev pub before : List Call
before = setup ++ steps

abbrev pub calls : List Call
calls = before ++ (evaluation x3 true conditions3 ∷ rest)
