-- A load by cells that were looked up before (`load_residual`, `load_jacobian` and their transient forms of mosfet1.rs over `jac_cells`). The
-- numbers w are the caller's, as `resolve` answers them (its specs/Resolve lists them); whatever they are, the load is defined.
use Rattle.std.specs.Prelude.{ℕ, ◌≡◌, Bool, true, false, cond, not, ◌&&◌, ◌||◌, List, [], ◌∷◌, ◌++◌, length, get_or, eqb, ltb, Float}
use Rattle.device.specs.Refusals.{Row, unless, row_number, Outcome, done, refused, ◌when◌}
use Rattle.device.specs.Stages.{unevaluated}
use Rattle.device.specs.declared.NodeId.{NodeId}
use Rattle.device.specs.declared.NodeId.TheVariants.{Ground, At}
use Rattle.device.specs.declared.Terminals.{Terminals}
use Rattle.device.specs.declared.Mosfet1.{Mosfet1}
use Rattle.stamps.specs.declared.Position.{Position}
use Rattle.stamps.specs.declared.ChargeBranch.{ChargeBranch}
use Rattle.stamps.specs.declared.ChargeBranches.{ChargeBranches}
use Rattle.places.specs.Places.{index_of}
unfoldable pub use Rattle.loading.specs.Loading.{numbers_from}
use Rattle.assembly.specs.Assembly.{Contribution, Place, ground, at, add_place, add_sources}
use Rattle.loading.specs.Loading.{nodes_outside, alpha_outside, branches_of, jacobian_contributions, rhs_contributions, if_done}
use Rattle.loading.specs.declared.LoadKind.{LoadKind}

-- the numbers were made for the device's nodes
unfoldable pub made_for : List ℕ → Terminals → Bool
made_for w t =
    eqb (index_of t.drain_ext) (get_or w 0 0) && eqb (index_of t.source_ext) (get_or w 1 0) && eqb (index_of t.drain) (get_or w 2 0)
    && eqb (index_of t.gate) (get_or w 3 0) && eqb (index_of t.source) (get_or w 4 0) && eqb (index_of t.bulk) (get_or w 5 0)

-- an end of the position is ground
abbrev pub is_ground : NodeId → Bool
is_ground Ground = true
is_ground (At i) = false

unfoldable pub grounded : Position → Bool
grounded c = is_ground c.row || is_ground c.col

-- Where a contribution goes by a stored place. The device's nodes decide what is ground's, whatever is stored, so that no number can drop
-- one of two contributions that cancel
unfoldable pub stored_place : Position → ℕ → Place
stored_place c p = cond (grounded c) ground (at p)

-- the matrix after the contributions, each added in turn at its stored place
unfoldable pub add_stored : List Contribution → List ℕ → List Float → List Float
add_stored [] ps xs = xs
add_stored (c ∷ cs) [] xs = xs
add_stored (c ∷ cs) (p ∷ ps) xs = add_stored cs ps (add_place (stored_place c.position p) c.value xs)

-- each contribution without a ground end has a place among n values
unfoldable pub all_stored : ℕ → List Contribution → List ℕ → Bool
all_stored n [] ps = true
all_stored n (c ∷ cs) [] = false
all_stored n (c ∷ cs) (p ∷ ps) = (grounded c.position || ltb p n) && all_stored n cs ps

-- the places of a conducting branch's four cells, in the order of `stamp_g_pair`
unfoldable pub branch_places : ChargeBranch → ℕ → ℕ → ℕ → ℕ → List ℕ
branch_places br aa ab bb ba = cond br.conducts (aa ∷ ab ∷ bb ∷ ba ∷ []) []

-- the stored places of a load's contributions, in their order: the 24 pairs', then those of gs, gd, gb, bs, bd
unfoldable pub stored_places : List ℕ → ChargeBranches → List ℕ
stored_places w br =
    numbers_from w 8 24
    ++ branch_places br.gs (get_or w 32 0) (get_or w 33 0) (get_or w 14 0) (get_or w 12 0)
    ++ branch_places br.gd (get_or w 32 0) (get_or w 34 0) (get_or w 9 0) (get_or w 8 0)
    ++ branch_places br.gb (get_or w 32 0) (get_or w 35 0) (get_or w 24 0) (get_or w 36 0)
    ++ branch_places br.bs (get_or w 24 0) (get_or w 25 0) (get_or w 14 0) (get_or w 15 0)
    ++ branch_places br.bd (get_or w 24 0) (get_or w 29 0) (get_or w 9 0) (get_or w 11 0)

-- row 13 does not apply: the nodes are the device's, and every needed place is there
unfoldable pub cells_held : List ℕ → Mosfet1 → LoadKind → ℕ → Bool
cells_held w d k n = made_for w d.terminals && all_stored n (jacobian_contributions d k) (stored_places w (branches_of d k))

-- the refusals of a load into a right-hand side of so many rows and so many values: 8 by that and the stored row count, 12 by the stored value
-- count
abbrev pub load_resolved_rows : Mosfet1 → LoadKind → List ℕ → ℕ → ℕ → List Row
load_resolved_rows d k w rows values =
    (8 when nodes_outside d.stage d.terminals rows (get_or w 6 0))
    ∷ (10 when unevaluated d.stage)
    ∷ (11 when alpha_outside d.disc k)
    ∷ (12 when not (eqb values (get_or w 7 0)))
    ∷ (13 when not (cells_held w d k values))
    ∷ []

unfoldable pub load_resolved_of : Mosfet1 → LoadKind → List ℕ → List Float → List Float → Outcome Unit
load_resolved_of d k w rhs values = unless (load_resolved_rows d k w (length rhs) (length values)) refused (done tt)

-- the outcome and both slices, whole
pub record LoadedResolved (d : Mosfet1) (k : LoadKind) (w : List ℕ) (rhs values : List Float) (r : Outcome Unit) (rhs' values' : List Float) : Type 0 where
  pub answer : r ≡ load_resolved_of d k w rhs values
  pub side : rhs' ≡ if_done r (add_sources (rhs_contributions d k) rhs) rhs
  pub matrix : values' ≡ if_done r (add_stored (jacobian_contributions d k) (stored_places w (branches_of d k)) values) values

-- the number of the row that refuses, 0 where none does
unfoldable pub resolved_row_of : Mosfet1 → LoadKind → List ℕ → ℕ → ℕ → ℕ
resolved_row_of d k w rows values = row_number (load_resolved_rows d k w rows values)
