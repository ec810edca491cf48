-- The steps of the code, by node numbers: what the functions of this crate and of `charges_resolved` answer. A reader of the calls needs none of it.
use Rattle.std.specs.Prelude.{ℕ, cond, List, [], ◌∷◌, ◌++◌, get_or, eqb, Float}
use Rattle.device.specs.declared.OperatingPoint.{OperatingPoint}
use Rattle.stamps.specs.Stamps.{position, pair_between, values_between, channel_values}
use Rattle.stamps.specs.declared.Position.{Position}
use Rattle.stamps.specs.declared.ChargeBranch.{ChargeBranch}
use Rattle.stamps.specs.declared.ChargeBranches.{ChargeBranches}
use Rattle.places.specs.Places.{skipped_number, node_at}
use Rattle.places.specs.declared.Nodes.{Nodes}
use Rattle.adding.specs.Adding.{Source, branch_history}
use Rattle.assembly.specs.Assembly.{paired, conductance_pair, branch_cells}
use Rattle.resolved_rows.specs.LoadResolved.{numbers_from, branch_places, add_stored}

-- the place at which a value is added: ground's positions are skipped
unfoldable pub place_between : ℕ → ℕ → ℕ → ℕ
place_between row column p = cond (eqb row skipped_number) skipped_number (cond (eqb column skipped_number) skipped_number p)

-- the channel's eight values
abbrev pub channel_pairs : Nodes → List Position
channel_pairs n =
    position (node_at n.drain) (node_at n.gate) ∷ position (node_at n.drain) (node_at n.drain)
    ∷ position (node_at n.drain) (node_at n.source) ∷ position (node_at n.drain) (node_at n.bulk)
    ∷ position (node_at n.source) (node_at n.gate) ∷ position (node_at n.source) (node_at n.drain)
    ∷ position (node_at n.source) (node_at n.source) ∷ position (node_at n.source) (node_at n.bulk) ∷ []

unfoldable pub add_channel : Nodes → List ℕ → OperatingPoint → List Float → List Float
add_channel n w p xs = add_stored (paired (channel_pairs n) (channel_values p [])) (numbers_from w 8 8) xs

-- four of them: the row of one node, its columns the gate, the drain, the source and the bulk
unfoldable pub add_row : Nodes → ℕ → Float → Float → Float → Float → ℕ → ℕ → ℕ → ℕ → List Float → List Float
add_row n row g d s b pg pd ps pb xs =
    add_stored
    (paired
    (position (node_at row) (node_at n.gate) ∷ position (node_at row) (node_at n.drain) ∷ position (node_at row) (node_at n.source) ∷ position (node_at row) (node_at n.bulk) ∷ [])
    (g ∷ d ∷ s ∷ b ∷ []))
    (pg ∷ pd ∷ ps ∷ pb ∷ []) xs

-- a conductance between two nodes, in the order of the pairs
unfoldable pub add_pair : ℕ → ℕ → Float → ℕ → ℕ → ℕ → ℕ → List Float → List Float
add_pair a b g aa ab ba bb xs = add_stored (paired (pair_between (node_at a) (node_at b) []) (values_between g [])) (aa ∷ ab ∷ ba ∷ bb ∷ []) xs

-- a conductance between two nodes, in the order of a charge branch's cells
unfoldable pub add_conductance : ℕ → ℕ → Float → ℕ → ℕ → ℕ → ℕ → List Float → List Float
add_conductance a b g aa ab bb ba xs = add_stored (conductance_pair (node_at a) (node_at b) g) (aa ∷ ab ∷ bb ∷ ba ∷ []) xs

-- a charge branch
unfoldable pub add_branch : ChargeBranch → ℕ → ℕ → ℕ → ℕ → ℕ → ℕ → List Float → List Float
add_branch br a b aa ab bb ba xs = add_stored (branch_cells (node_at a) (node_at b) br) (branch_places br aa ab bb ba) xs

unfoldable pub add_branches_stored : Nodes → List ℕ → ChargeBranches → List Float → List Float
add_branches_stored n w br xs =
    add_branch br.bd n.bulk n.drain (get_or w 24 0) (get_or w 29 0) (get_or w 9 0) (get_or w 11 0)
    (add_branch br.bs n.bulk n.source (get_or w 24 0) (get_or w 25 0) (get_or w 14 0) (get_or w 15 0)
    (add_branch br.gb n.gate n.bulk (get_or w 32 0) (get_or w 35 0) (get_or w 24 0) (get_or w 36 0)
    (add_branch br.gd n.gate n.drain (get_or w 32 0) (get_or w 34 0) (get_or w 9 0) (get_or w 8 0)
    (add_branch br.gs n.gate n.source (get_or w 32 0) (get_or w 33 0) (get_or w 14 0) (get_or w 12 0) xs))))

-- the history currents of gs, gd, gb, bs, bd
unfoldable pub history_sources : Nodes → ChargeBranches → List Source
history_sources n br =
    branch_history (node_at n.gate) (node_at n.source) br.gs
    ++ branch_history (node_at n.gate) (node_at n.drain) br.gd
    ++ branch_history (node_at n.gate) (node_at n.bulk) br.gb
    ++ branch_history (node_at n.bulk) (node_at n.source) br.bs
    ++ branch_history (node_at n.bulk) (node_at n.drain) br.bd
