-- Worked cases, computed.
use mathlib.Core.Path.{◌≡◌, refl}
use mathlib.Core.List.{[], ◌∷◌}
use Rattle.device.specs.declared.NodeId.{NodeId}
use Rattle.device.specs.declared.NodeId.TheVariants.{Ground, At}
use Rattle.device.specs.declared.Terminals.{Terminals}
use Rattle.stamps.specs.Stamps.{jac_pairs_of}
use Rattle.cells.specs.Cells.{positions_of, cell_before, cell_numbers, insert_of, insert_all_of, cells_of}
use Rattle.cell_pattern.specs.CellPattern.{columns_in, count_in, lengths_in, running_offsets, rows_to, larger_of, row_count, pattern_in, pattern_of}

abbrev nodes : NodeId → NodeId → NodeId → NodeId → NodeId → NodeId → Terminals
nodes dx sx d g s b = record { drain_ext = dx; source_ext = sx; drain = d; gate = g; source = s; bulk = b }

-- the gate alone off ground, at node 3: one cell, three empty rows
gate_alone : pattern_of (nodes Ground Ground Ground (At 3) Ground Ground) ≡ record { columns = 3 ∷ []; offsets = 0 ∷ 0 ∷ 0 ∷ 0 ∷ []; lengths = 0 ∷ 0 ∷ 0 ∷ 1 ∷ [] }
unfolding pattern_of pattern_in columns_in count_in lengths_in running_offsets rows_to larger_of row_count cells_of insert_all_of insert_of cell_numbers cell_before positions_of jac_pairs_of
gate_alone = refl

-- all nodes ground: nothing
all_ground : pattern_of (nodes Ground Ground Ground Ground Ground Ground) ≡ record { columns = []; offsets = []; lengths = [] }
unfolding pattern_of pattern_in columns_in count_in lengths_in running_offsets rows_to larger_of row_count cells_of insert_all_of insert_of cell_numbers cell_before positions_of jac_pairs_of
all_ground = refl

-- both series resistances: 22 cells
six_nodes : pattern_of (nodes (At 0) (At 2) (At 4) (At 1) (At 5) (At 3))
    ≡ record {
      columns = 0 ∷ 4 ∷ 1 ∷ 3 ∷ 4 ∷ 5 ∷ 2 ∷ 5 ∷ 1 ∷ 3 ∷ 4 ∷ 5 ∷ 0 ∷ 1 ∷ 3 ∷ 4 ∷ 5 ∷ 1 ∷ 2 ∷ 3 ∷ 4 ∷ 5 ∷ [];
      offsets = 0 ∷ 2 ∷ 6 ∷ 8 ∷ 12 ∷ 17 ∷ [];
      lengths = 2 ∷ 4 ∷ 2 ∷ 4 ∷ 5 ∷ 5 ∷ [];
    }
unfolding pattern_of pattern_in columns_in count_in lengths_in running_offsets rows_to larger_of row_count cells_of insert_all_of insert_of cell_numbers cell_before positions_of jac_pairs_of
six_nodes = refl

-- outer nodes that are the same, the bulk at the source
aliased : pattern_of (nodes (At 1) (At 0) (At 1) (At 1) (At 0) (At 0)) ≡ record { columns = 0 ∷ 1 ∷ 0 ∷ 1 ∷ []; offsets = 0 ∷ 2 ∷ []; lengths = 2 ∷ 2 ∷ [] }
unfolding pattern_of pattern_in columns_in count_in lengths_in running_offsets rows_to larger_of row_count cells_of insert_all_of insert_of cell_numbers cell_before positions_of jac_pairs_of
aliased = refl

-- the largest node: the largest cell, and 2 ^ 32 rows
largest_cell : cells_of (nodes Ground Ground Ground (At 4294967295) Ground Ground) ≡ 18446744073709551615 ∷ []
unfolding cells_of insert_all_of insert_of cell_numbers cell_before positions_of jac_pairs_of
largest_cell = refl

largest_rows : row_count (nodes Ground Ground Ground (At 4294967295) Ground Ground) ≡ 4294967296
unfolding rows_to larger_of row_count
largest_rows = refl
