-- A device's contributions to the matrix and the right-hand side, and what adding them in turn leaves.
use Rattle.std.specs.Prelude.{◌≡◌, Bool, true, false, cond, ◌&&◌, List, [], ◌∷◌, ◌++◌, Float}
use Rattle.std.specs.Float.Ieee.{neg}
use Rattle.device.specs.declared.NodeId.{NodeId}
use Rattle.device.specs.declared.Terminals.{Terminals}
use Rattle.stamps.specs.Stamps.{position, jac_pairs_of}
use Rattle.stamps.specs.declared.Position.{Position}
use Rattle.stamps.specs.declared.ChargeBranch.{ChargeBranch}
use Rattle.stamps.specs.declared.ChargeBranches.{ChargeBranches}
pub use Rattle.places.specs.Places.{Pattern, Place, ground, missing, at}
unfoldable pub use Rattle.places.specs.Places.{found_place, place_of}
pub use Rattle.adding.specs.Adding.{Source}
unfoldable pub use Rattle.adding.specs.Adding.{add_at, add_node, add_sources, current_pair, branch_history, offset_sources, source_contributions}

-- a value for a cell
pub record Contribution : Type 0 where
  pub position : Position
  pub value : Float

unfoldable pub add_place : Place → Float → List Float → List Float
add_place ground x xs = xs
add_place missing x xs = xs
add_place (at p) x xs = add_at xs p x

-- the matrix after the contributions, each added in turn to its cell; positions of ground are skipped
unfoldable pub add_cells : Pattern → List Contribution → List Float → List Float
add_cells P [] xs = xs
add_cells P (c ∷ cs) xs = add_cells P cs (add_place (place_of P c.position.row c.position.col) c.value xs)

unfoldable pub there : Place → Bool
there ground = true
there missing = false
there (at p) = true

-- row 13 of the refusals does not apply: each cell without a ground end is in the pattern
unfoldable pub all_there : Pattern → List Contribution → Bool
all_there P [] = true
all_there P (c ∷ cs) = there (place_of P c.position.row c.position.col) && all_there P cs

-- each position with its value, in order
unfoldable pub paired : List Position → List Float → List Contribution
paired [] xs = []
paired (c ∷ cs) [] = []
paired (c ∷ cs) (x ∷ xs) = record { position = c; value = x } ∷ paired cs xs

-- `stamp_g_pair`: a conductance between the nodes a and b
unfoldable pub conductance_pair : NodeId → NodeId → Float → List Contribution
conductance_pair a b g =
    record { position = position a a; value = g }
    ∷ record { position = position a b; value = neg g }
    ∷ record { position = position b b; value = g }
    ∷ record { position = position b a; value = neg g }
    ∷ []

-- a branch's conductance, where its evaluated capacitance is not zero
unfoldable pub branch_cells : NodeId → NodeId → ChargeBranch → List Contribution
branch_cells a b br = cond br.conducts (conductance_pair a b br.conductance) []

-- what a device adds to the matrix: the 24 values, then the charge branches gs, gd, gb, bs, bd
unfoldable pub matrix_contributions : Terminals → List Float → ChargeBranches → List Contribution
matrix_contributions t jacobian br =
    paired (jac_pairs_of t) jacobian
    ++ branch_cells t.gate t.source br.gs
    ++ branch_cells t.gate t.drain br.gd
    ++ branch_cells t.gate t.bulk br.gb
    ++ branch_cells t.bulk t.source br.bs
    ++ branch_cells t.bulk t.drain br.bd

-- an assembly's outcome: whether every needed cell is there, and both lists; without a cell both are as they were
pub record Assembled (P : Pattern) (cs : List Contribution) (ss : List Source) (values rhs : List Float) (r : Bool) (values' rhs' : List Float) : Type 0 where
  pub answer : r ≡ all_there P cs
  pub matrix : values' ≡ cond (all_there P cs) (add_cells P cs values) values
  pub side : rhs' ≡ cond (all_there P cs) (add_sources ss rhs) rhs
