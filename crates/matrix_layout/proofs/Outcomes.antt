-- What the call answers and leaves, by its tests.
use Prim.Native.Nat.{ℕ}
use mathlib.Core.Path.{◌≡◌, sym, ◌∙◌}
use mathlib.Core.Bool.{Bool, true, false, not, ◌&&◌}
use mathlib.Core.List.{List}
use lib.ListN.{length}
use Rattle.device.specs.Nodes.{any_node_beyond}
use Rattle.device.specs.Refusals.{done, refused}
use Rattle.device.specs.Stages.{before, unbound}
use Rattle.device.specs.declared.Stage.TheVariants.{Bound}
use Rattle.device.specs.declared.Mosfet1.{Mosfet1}
use Rattle.setup.specs.Binding.{node_limit}
use Rattle.loading.specs.Loading.{nodes_outside}
use Rattle.loading.proofs.Rows.{outside_same}
use Rattle.cells.specs.Cells.{cells_of}
use Rattle.cell_pattern.specs.CellPattern.{row_count, pattern_of, LaidOut}
use Rattle.cell_pattern.specs.declared.Needed.{Needed}
use Rattle.cell_pattern.proofs.Outcomes.{pattern_columns, pattern_rows}
use Rattle.matrix_layout.specs.MatrixLayout.{layout_of, is_written, at_exit, Layout}

module _ (d : Mosfet1) where
  abbrev outside : Bool
  outside = not (unbound d.stage) && any_node_beyond node_limit d.terminals

  same : nodes_outside d.stage d.terminals node_limit node_limit ≡ outside
  same = outside_same d.stage d.terminals node_limit

  pub row_8 : nodes_outside d.stage d.terminals node_limit node_limit ≡ true → refused 8 ≡ layout_of d
  unfolding layout_of
  row_8 e = rw (sym same ∙ e)

  pub row_10 : nodes_outside d.stage d.terminals node_limit node_limit ≡ false → before d.stage Bound ≡ true → refused 10 ≡ layout_of d
  unfolding layout_of unbound
  row_10 e f = rw (sym same ∙ e, f)

  pub accepted : (n : Needed) → nodes_outside d.stage d.terminals node_limit node_limit ≡ false → before d.stage Bound ≡ false
      → n.columns ≡ length (cells_of d.terminals) → n.rows ≡ row_count d.terminals → done n ≡ layout_of d
  unfolding layout_of unbound
  accepted n e f c r = rw (sym same ∙ e, f) (λ i. done (record { columns = c i; rows = r i }))

  -- a bound device that is not refused has every node below the limit
  pub inside : nodes_outside d.stage d.terminals node_limit node_limit ≡ false → before d.stage Bound ≡ false → any_node_beyond node_limit d.terminals ≡ false
  unfolding unbound
  inside e f = sym (rw (f)) ∙ sym same ∙ e

  module _ (columns offsets lengths : List ℕ) where
    pub kept : (n : ℕ) → refused n ≡ layout_of d → Layout d columns offsets lengths (refused n) columns offsets lengths
    unfolding is_written at_exit
    kept n e = record { answer = e; columns_are = rw (← e); offsets_are = rw (← e); lengths_are = rw (← e) }

    pub written : (n : Needed) (columns' offsets' lengths' : List ℕ) → done n ≡ layout_of d
        → LaidOut (pattern_of d.terminals) columns offsets lengths columns' offsets' lengths' → Layout d columns offsets lengths (done n) columns' offsets' lengths'
    unfolding is_written at_exit
    written n columns' offsets' lengths' e l = record {
      answer = e;
      columns_are = rw (← e, ← pattern_columns d.terminals, ← pattern_rows d.terminals) l.columns_are;
      offsets_are = rw (← e, ← pattern_columns d.terminals, ← pattern_rows d.terminals) l.offsets_are;
      lengths_are = rw (← e, ← pattern_columns d.terminals, ← pattern_rows d.terminals) l.lengths_are;
    }
