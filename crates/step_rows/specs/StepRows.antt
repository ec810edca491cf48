-- The rows of an evaluation in two parts: those that need no voltage, and those that need the voltages or the method. 0 where none
-- applies. Of the second part the number counts only where the first is 0 (`proofs/InTwo`).
use Rattle.std.specs.Prelude.{ℕ, [], ◌∷◌, Float}
use Rattle.temperature.specs.declared.Kelvin.{Kelvin}
use Rattle.device.specs.Nodes.{any_node_beyond}
use Rattle.device.specs.Refusals.{row_number, ◌when◌}
use Rattle.device.specs.Stages.{unbound}
use Rattle.device.specs.declared.Stage.{Stage}
use Rattle.device.specs.declared.Discretisation.{Discretisation}
use Rattle.device.specs.declared.Terminals.{Terminals}
use Rattle.bias.specs.declared.Voltages.{Voltages}
use Rattle.rows.specs.Rows.{row6_of, row9_of, row11_of}

-- n is the lent length; before binding no node exists, so row 8 does not apply there
unfoldable pub first_row_of : Stage → Terminals → ℕ → Kelvin → Float → ℕ
first_row_of stage t n temperature gmin =
    row_number ((6 when row6_of temperature gmin) ∷ (10 when unbound stage) ∷ (8 when any_node_beyond n t) ∷ [])

unfoldable pub last_row_of : Voltages → Discretisation → ℕ
last_row_of v disc = row_number ((9 when row9_of v) ∷ (11 when row11_of disc) ∷ [])
