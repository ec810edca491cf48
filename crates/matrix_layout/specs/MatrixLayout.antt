-- What a builder asks before any evaluation. Document 02, Wish 1: "Work out the number of extra nodes from card and geometry, and once bound
-- the full list of cells .. The needed lengths are answered; if the lent slices are short, nothing is written."
use Rattle.std.specs.Prelude.{ℕ, ◌≡◌, Bool, cond, not, ◌&&◌, List, [], ◌∷◌, length}
use Rattle.device.specs.Nodes.{any_node_beyond}
use Rattle.device.specs.Refusals.{Row, unless, Outcome, done, refused, is_accepted, ◌when◌}
use Rattle.device.specs.Stages.{before, unbound}
use Rattle.device.specs.declared.Stage.TheVariants.{Geometry}
use Rattle.device.specs.declared.Mosfet1.{Mosfet1}
use Rattle.setup.specs.Binding.{extra_nodes, node_limit}
use Rattle.cells.specs.Cells.{cells_of}
use Rattle.cell_pattern.specs.CellPattern.{row_count, pattern_of, have_room, over}
use Rattle.cell_pattern.specs.declared.Needed.{Needed}

-- row 10: before the first geometry call
abbrev pub extra_nodes_rows : Mosfet1 → List Row
extra_nodes_rows d = (10 when before d.stage Geometry) ∷ []

-- the number of extra nodes
unfoldable pub extra_nodes_of : Mosfet1 → Outcome ℕ
extra_nodes_of d = unless (extra_nodes_rows d) refused (done (extra_nodes d.geometry))

-- row 8: a node of a bound device is above 2^32 - 1. Binding accepts none such, but a record that a caller wrote may hold one. Row 10: before
-- binding there are no nodes
abbrev pub layout_rows : Mosfet1 → List Row
layout_rows d = (8 when (not (unbound d.stage) && any_node_beyond node_limit d.terminals)) ∷ (10 when unbound d.stage) ∷ []

-- "The needed lengths are answered": of the columns, and of the offsets and the lengths. Short slices are no refusal
unfoldable pub layout_of : Mosfet1 → Outcome Needed
layout_of d =
    unless (layout_rows d) refused (done (record { columns = length (cells_of d.terminals); rows = row_count d.terminals }))

-- whether the pattern is written: the call is accepted, and each of the three slices is long enough
unfoldable pub is_written : Mosfet1 → ℕ → ℕ → ℕ → Bool
is_written d columns offsets lengths =
    is_accepted (layout_of d) && have_room (length (cells_of d.terminals)) (row_count d.terminals) columns offsets lengths

-- a slice at exit: what is written in front of what it held, or as it was
unfoldable pub at_exit : Bool → List ℕ → List ℕ → List ℕ
at_exit written front held = cond written (over front held) held

-- the outcome and the three slices, whole
pub record Layout (d : Mosfet1) (columns offsets lengths : List ℕ) (r : Outcome Needed) (columns' offsets' lengths' : List ℕ) : Type 0 where
  pub answer : r ≡ layout_of d
  pub columns_are : columns' ≡ at_exit (is_written d (length columns) (length offsets) (length lengths)) (pattern_of d.terminals).columns columns
  pub offsets_are : offsets' ≡ at_exit (is_written d (length columns) (length offsets) (length lengths)) (pattern_of d.terminals).offsets offsets
  pub lengths_are : lengths' ≡ at_exit (is_written d (length columns) (length offsets) (length lengths)) (pattern_of d.terminals).lengths lengths
