-- What adding values at places leaves, and what a device adds to the right-hand side.
use Rattle.std.specs.Prelude.{ℕ, Bool, cond, List, [], ◌∷◌, ◌++◌, get_or, set, Float}
use Rattle.std.specs.Float.{nan}
use Rattle.std.specs.Float.Ieee.{neg}
use Rattle.exact.specs.Float64.{◌⊕◌}
use Rattle.device.specs.declared.NodeId.{NodeId}
use Rattle.device.specs.declared.NodeId.TheVariants.{Ground, At}
use Rattle.device.specs.declared.Terminals.{Terminals}
use Rattle.stamps.specs.declared.Residual.{Residual}
use Rattle.stamps.specs.declared.ChargeBranch.{ChargeBranch}
use Rattle.stamps.specs.declared.ChargeBranches.{ChargeBranches}
use Rattle.places.specs.declared.GatePlaces.{GatePlaces}

-- a value for a node's entry of the right-hand side
pub record Source : Type 0 where
  pub node : NodeId
  pub value : Float

-- a value added to an entry of a list; a place behind the end is no entry
unfoldable pub add_at : List Float → ℕ → Float → List Float
add_at xs p x = set xs p (get_or xs p nan ⊕ x)

-- the right-hand side after the sources, each added in turn to its node's entry; ground has none
unfoldable pub add_node : NodeId → Float → List Float → List Float
add_node Ground x xs = xs
add_node (At i) x xs = add_at xs i x

unfoldable pub add_sources : List Source → List Float → List Float
add_sources [] xs = xs
add_sources (s ∷ ss) xs = add_sources ss (add_node s.node s.value xs)

-- `stamp_hist`: a current into the node a and out of the node b
unfoldable pub current_pair : NodeId → NodeId → Float → List Source
current_pair a b i = record { node = a; value = i } ∷ record { node = b; value = neg i } ∷ []

unfoldable pub branch_history : NodeId → NodeId → ChargeBranch → List Source
branch_history a b br = cond br.remembers (current_pair a b br.history) []

-- `load_residual`: the channel's offset, then each junction's, out of the bulk and into the inner source or drain
unfoldable pub offset_sources : Terminals → Residual → List Source
offset_sources t o =
    record { node = t.drain; value = neg o.jeq }
    ∷ record { node = t.source; value = o.jeq }
    ∷ record { node = t.bulk; value = neg o.ibs_eq }
    ∷ record { node = t.source; value = o.ibs_eq }
    ∷ record { node = t.bulk; value = neg o.ibd_eq }
    ∷ record { node = t.drain; value = o.ibd_eq }
    ∷ []

-- what a device adds to the right-hand side: the offsets, then the history currents of gs, gd, gb, bs, bd
unfoldable pub source_contributions : Terminals → Residual → ChargeBranches → List Source
source_contributions t o br =
    offset_sources t o
    ++ branch_history t.gate t.source br.gs
    ++ branch_history t.gate t.drain br.gd
    ++ branch_history t.gate t.bulk br.gb
    ++ branch_history t.bulk t.source br.bs
    ++ branch_history t.bulk t.drain br.bd

-- values added at places, in turn
unfoldable pub add_all : List Float → List ℕ → List Float → List Float
add_all xs [] vs = xs
add_all xs (p ∷ ps) [] = xs
add_all xs (p ∷ ps) (v ∷ vs) = add_all (add_at xs p v) ps vs

-- a branch's conductance added at the places of its four cells
unfoldable pub add_four : Bool → Float → ℕ → ℕ → ℕ → ℕ → List Float → List Float
add_four loaded g aa ab bb ba xs = cond loaded (add_at (add_at (add_at (add_at xs aa g) ab (neg g)) bb g) ba (neg g)) xs

-- the charge branches from the 24 places p of the Jacobian's values and the gate's five
unfoldable pub add_branches : List ℕ → GatePlaces → ChargeBranches → List Float → List Float
add_branches p q b xs =
    add_four b.bd.conducts b.bd.conductance (get_or p 16 0) (get_or p 21 0) (get_or p 1 0) (get_or p 3 0)
    (add_four b.bs.conducts b.bs.conductance (get_or p 16 0) (get_or p 17 0) (get_or p 6 0) (get_or p 7 0)
    (add_four b.gb.conducts b.gb.conductance q.gg q.gb (get_or p 16 0) q.bg
    (add_four b.gd.conducts b.gd.conductance q.gg q.gd (get_or p 1 0) (get_or p 0 0)
    (add_four b.gs.conducts b.gs.conductance q.gg q.gs (get_or p 6 0) (get_or p 4 0) xs))))
