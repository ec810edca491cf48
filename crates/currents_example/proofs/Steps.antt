-- Each call of the example leaves the device of the trace.
use mathlib.Core.Path.{◌≡◌, refl}
use mathlib.Core.Bool.{true, false}
use Rattle.exact.specs.Float64.{+1}
use Rattle.card.specs.Card.{card_of, parameters_of}
use Rattle.device.specs.Refusals.{done}
use Rattle.device.specs.declared.Stage.TheVariants as Stage
use Rattle.device.specs.declared.Mosfet1.{Mosfet1}
use Rattle.entries.specs.Entries.{settings_of}
use Rattle.geometry.specs.Geometry.{geometry_of, sizes_of}
use Rattle.setup.specs.Binding.{binding_of}
use Rattle.setup.specs.Scaling.{scaling_of}
use Rattle.call_lists.specs.Calls.{Call, scaling, evaluation, loading, commit, noise, reactances, answer, device_left, after}
use Rattle.currents_example.specs.Example.{card_bytes, card_offsets, card_lengths, card_values, geometry_call, kelvin, binding_call, x1, x2, x3, x_refused, conditions1, conditions2, conditions3, kind, pattern, side, matrix}
use Rattle.currents_example.specs.Trace.{fresh, sized, bound, evaluated1, committed1, evaluated2, committed2, evaluated3}
use Rattle.currents_example.proofs.Computing.{floats, keys, temperatures, model, rows}

pub card_answered : card_of false card_bytes card_offsets card_lengths card_values 0 ≡ done (record { device = fresh; unknown = 0 })
unfolding card_of parameters_of settings_of keys floats
card_answered = refl

-- a call on the device d leaves the device e
pub record Leaves (c : Call) (d e : Mosfet1) : Type 0 where
  pub is : after c d ≡ e

pub geometry_leaves : Leaves geometry_call fresh (sized Stage.Geometry)
unfolding after answer device_left geometry_of sizes_of settings_of keys floats
geometry_leaves = record { is = refl }

pub binding_leaves : Leaves binding_call (sized Stage.Scaled) bound
unfolding after answer device_left binding_of rows floats
binding_leaves = record { is = refl }

pub scaling_leaves : Leaves (scaling kelvin) (sized Stage.Geometry) (sized Stage.Scaled)
unfolding after answer device_left scaling_of temperatures floats
scaling_leaves = record { is = refl }

-- row 10
pub early_commit_leaves : Leaves (commit x1) bound bound
unfolding after answer device_left rows floats
early_commit_leaves = record { is = refl }

pub first_evaluation_leaves : Leaves (evaluation x1 true conditions1) bound evaluated1
unfolding after answer device_left model rows floats
first_evaluation_leaves = record { is = refl }

pub first_commit_leaves : Leaves (commit x1) evaluated1 committed1
unfolding after answer device_left model rows floats
first_commit_leaves = record { is = refl }

pub second_evaluation_leaves : Leaves (evaluation x2 true conditions2) committed1 evaluated2
unfolding after answer device_left model rows floats
second_evaluation_leaves = record { is = refl }

pub second_commit_leaves : Leaves (commit x2) evaluated2 committed2
unfolding after answer device_left model rows floats
second_commit_leaves = record { is = refl }

pub third_evaluation_leaves : Leaves (evaluation x3 true conditions3) committed2 evaluated3
unfolding after answer device_left model rows floats
third_evaluation_leaves = record { is = refl }

-- row 9
pub refused_evaluation_leaves : Leaves (evaluation x_refused true conditions3) evaluated3 evaluated3
unfolding after answer device_left rows floats
refused_evaluation_leaves = record { is = refl }

-- loading, noise and reactances never change the device
pub load_leaves : {d : Mosfet1} → Leaves (loading kind pattern side matrix) d d
unfolding after answer device_left
load_leaves = record { is = refl }

pub noise_leaves : {d : Mosfet1} → Leaves (noise kelvin +1) d d
unfolding after answer device_left
noise_leaves = record { is = refl }

pub reactances_leaves : {d : Mosfet1} → Leaves reactances d d
unfolding after answer device_left
reactances_leaves = record { is = refl }
