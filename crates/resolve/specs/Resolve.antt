-- The cells of a bound device in a pattern, looked up once (`resolve_cells` of mosfet1.rs). They are 37 numbers that the caller holds, in
-- place of the Rust's `jac_cells`.
use Rattle.std.specs.Prelude.{ℕ, Bool, true, not, ◌&&◌, List, [], ◌∷◌, ◌++◌, length}
use Rattle.pattern.specs.Pattern.{well_formed}
use Rattle.device.specs.Nodes.{any_node_beyond}
use Rattle.device.specs.Refusals.{Row, unless, row_number, Outcome, done, refused, ◌when◌}
use Rattle.device.specs.Stages.{unbound}
use Rattle.device.specs.declared.Terminals.{Terminals}
use Rattle.device.specs.declared.Mosfet1.{Mosfet1}
use Rattle.stamps.specs.Stamps.{position, jac_pairs_of}
use Rattle.stamps.specs.declared.Position.{Position}
use Rattle.places.specs.Places.{index_of, numbers_of}
use Rattle.assembly.specs.Assembly.{Pattern, place_of, there}
unfoldable pub use Rattle.loading.specs.Loading.{numbers_from}

-- the six nodes by their index; ground's number is 2^64 - 1
unfoldable pub node_numbers : Terminals → List ℕ
node_numbers t =
    index_of t.drain_ext ∷ index_of t.source_ext ∷ index_of t.drain ∷ index_of t.gate ∷ index_of t.source ∷ index_of t.bulk ∷ []

-- the five cells that only the gate's charge branches have
unfoldable pub gate_pairs_of : Terminals → List Position
gate_pairs_of t =
    position t.gate t.gate ∷ position t.gate t.source ∷ position t.gate t.drain ∷ position t.gate t.bulk
    ∷ position t.bulk t.gate ∷ []

-- The numbers: 0 to 5 the nodes, 6 the pattern's row count, 7 its value count, 8 to 31 the places of the 24 pairs' cells, 32 to 36 of the
-- gate's five. A cell that is not in the pattern has 2^64 - 2, and one of ground 2^64 - 1
unfoldable pub resolved_cells : Terminals → Pattern → List ℕ
resolved_cells t P =
    node_numbers t ++ (length P.offsets ∷ length P.columns ∷ []) ++ numbers_of P (jac_pairs_of t) ++ numbers_of P (gate_pairs_of t)

-- each position without a ground end is in the pattern
unfoldable pub positions_there : Pattern → List Position → Bool
positions_there P [] = true
positions_there P (c ∷ cs) = there (place_of P c.row c.col) && positions_there P cs

-- The refusals: a node is not below the row count, the device is not bound, the pattern is not well formed, one of the 24 pairs' cells is not
-- in it. A charge branch's cell may be absent: a branch may have no capacitance
abbrev pub resolve_rows : Mosfet1 → Pattern → List Row
resolve_rows d P =
    (8 when (not (unbound d.stage) && any_node_beyond (length P.offsets) d.terminals))
    ∷ (10 when unbound d.stage)
    ∷ (12 when not (well_formed P.columns P.offsets P.lengths (length P.columns)))
    ∷ (13 when not (positions_there P (jac_pairs_of d.terminals)))
    ∷ []

unfoldable pub resolve_of : Mosfet1 → Pattern → Outcome (List ℕ)
resolve_of d P = unless (resolve_rows d P) refused (done (resolved_cells d.terminals P))

-- what a refusal answers in their place: zeros
abbrev pub no_cells : List ℕ
no_cells =
    0 ∷ 0 ∷ 0 ∷ 0 ∷ 0 ∷ 0 ∷ 0 ∷ 0 ∷ 0 ∷ 0 ∷ 0 ∷ 0 ∷ 0 ∷ 0 ∷ 0 ∷ 0 ∷ 0 ∷ 0 ∷ 0 ∷ 0 ∷ 0 ∷ 0 ∷ 0 ∷ 0 ∷ 0 ∷ 0 ∷ 0 ∷ 0 ∷ 0 ∷ 0 ∷ 0 ∷ 0 ∷ 0 ∷ 0 ∷ 0 ∷ 0 ∷ 0 ∷ []

-- the number of the first three rows, 0 where none applies
unfoldable pub early_row_of : Mosfet1 → Pattern → ℕ
early_row_of d P =
    row_number ((8 when (not (unbound d.stage) && any_node_beyond (length P.offsets) d.terminals)) ∷ (10 when unbound d.stage)
    ∷ (12 when not (well_formed P.columns P.offsets P.lengths (length P.columns))) ∷ [])
