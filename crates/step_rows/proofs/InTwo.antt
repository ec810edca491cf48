-- The row of an evaluation is the first part's where that is not 0, and the last part's otherwise.
-- Assumes nothing.
use Prim.Native.Nat.{ℕ}
use mathlib.Core.Path.{◌≡◌, refl}
use mathlib.Core.Bool.{Bool, true, false, not, ◌&&◌, cond}
use mathlib.Core.List.{List}
use lib.Dec.{eqb}
use lib.ListN.{length}
use lib.Ieee.{Float}
use Rattle.temperature.specs.declared.Kelvin.{Kelvin}
use Rattle.device.specs.Nodes.{any_node_beyond}
use Rattle.device.specs.Stages.{unbound}
use Rattle.device.specs.declared.Stage.{Stage}
use Rattle.device.specs.declared.Discretisation.{Discretisation}
use Rattle.device.specs.declared.Terminals.{Terminals}
use Rattle.rows.specs.Rows.{row6_of, nodes_outside, voltages_outside, row9_of, row11_of, voltages_of, eval_row_of}
use Rattle.step_rows.specs.StepRows.{first_row_of, last_row_of}

abbrev first : Bool → Bool → Bool → ℕ
first six ten eight = cond six 6 (cond ten 10 (cond eight 8 0))

parts : (six ten eight nine eleven : Bool) → cond six 6 (cond (not ten && eight) 8 (cond (not ten && nine) 9 (cond ten 10 (cond eleven 11 0)))) ≡ cond (eqb (first six ten eight) 0) (cond nine 9 (cond eleven 11 0)) (first six ten eight)
parts true ten eight nine eleven = refl
parts false true eight nine eleven = refl
parts false false true nine eleven = refl
parts false false false nine eleven = refl

pub in_two : (stage : Stage) (t : Terminals) (x : List Float) (temperature : Kelvin) (gmin : Float) (disc : Discretisation) → eval_row_of stage t x temperature gmin disc ≡ cond (eqb (first_row_of stage t (length x) temperature gmin) 0) (last_row_of (voltages_of x t) disc) (first_row_of stage t (length x) temperature gmin)
unfolding eval_row_of first_row_of last_row_of nodes_outside voltages_outside
in_two stage t x temperature gmin disc = parts (row6_of temperature gmin) (unbound stage) (any_node_beyond (length x) t) (row9_of (voltages_of x t)) (row11_of disc)

-- where no node is beyond the length, row 8 need not be asked
abbrev inside : Bool → Bool → ℕ → ℕ
inside six ten last = cond six 6 (cond ten 10 last)

parts_inside : (six ten nine eleven : Bool) → inside six false (cond (not ten && false) 8 (cond (not ten && nine) 9 (cond ten 10 (cond eleven 11 0)))) ≡ inside six ten (cond nine 9 (cond eleven 11 0))
parts_inside true ten nine eleven = refl
parts_inside false true nine eleven = refl
parts_inside false false nine eleven = refl

pub row_inside : (stage : Stage) (t : Terminals) (x : List Float) (temperature : Kelvin) (gmin : Float) (disc : Discretisation) → any_node_beyond (length x) t ≡ false → eval_row_of stage t x temperature gmin disc ≡ cond (row6_of temperature gmin) 6 (cond (unbound stage) 10 (last_row_of (voltages_of x t) disc))
unfolding eval_row_of last_row_of nodes_outside voltages_outside
row_inside stage t x temperature gmin disc e = rw (e) (parts_inside (row6_of temperature gmin) (unbound stage) (row9_of (voltages_of x t)) (row11_of disc))
