-- A load: which row of the refusals applies, and what both slices hold afterwards.
use Rattle.std.specs.Prelude.{ℕ, zero, suc, ◌≡◌, Bool, false, not, ◌&&◌, ◌||◌, List, [], ◌∷◌, length, get_or, Float}
use Rattle.std.specs.Float.{binary64}
use Rattle.std.specs.Float.Ieee.{of_bits}
use Rattle.exact.specs.Float64.{+0, +1}
use Rattle.pattern.specs.Pattern.{well_formed}
use Rattle.device.specs.Limits.{within}
use Rattle.device.specs.Nodes.{any_node_beyond}
use Rattle.device.specs.Refusals.{Row, unless, row_number, Outcome, done, refused, ◌when◌}
use Rattle.device.specs.Stages.{unbound, unevaluated}
use Rattle.device.specs.declared.NodeId.TheVariants.{Ground}
use Rattle.device.specs.declared.Stage.{Stage}
use Rattle.device.specs.declared.Discretisation.{Discretisation}
use Rattle.device.specs.declared.Terminals.{Terminals}
use Rattle.device.specs.declared.Mosfet1.{Mosfet1}
use Rattle.reactive.specs.Charge.{has_step_of}
use Rattle.stamps.specs.Stamps.{jac_values_of, residual_of, charge_branches_of}
use Rattle.stamps.specs.declared.ChargeBranch.{ChargeBranch}
use Rattle.stamps.specs.declared.ChargeBranches.{ChargeBranches}
use Rattle.assembly.specs.Assembly.{Pattern, Contribution, Source, matrix_contributions, source_contributions, all_there, add_cells, add_sources}
use Rattle.loading.specs.declared.LoadKind.{LoadKind}
use Rattle.loading.specs.declared.LoadKind.TheVariants.{DirectCurrent, Transient}

-- row 8: a node is not below the lent length or the row count; before binding there are no nodes
unfoldable pub nodes_outside : Stage → Terminals → ℕ → ℕ → Bool
nodes_outside stage t len rows = not (unbound stage) && (any_node_beyond len t || any_node_beyond rows t)

-- row 11: a transient load's alpha is outside 1 to 1e16, where the last evaluation had no step; a NaN is outside
abbrev pub alpha_limit : Float
alpha_limit = of_bits binary64 0x4341_c379_37e0_8000

unfoldable pub alpha_inside : Float → Bool
alpha_inside alpha = within alpha +1 alpha_limit

unfoldable pub alpha_outside : Discretisation → LoadKind → Bool
alpha_outside disc DirectCurrent = false
alpha_outside disc (Transient alpha) = not (has_step_of disc) && not (alpha_inside alpha)

-- the charge branches of a load: none at direct current, else under the one alpha
unfoldable pub no_branch : ChargeBranch
no_branch = record { pos = Ground; neg = Ground; conducts = false; conductance = +0; remembers = false; history = +0 }

unfoldable pub no_branches : ChargeBranches
no_branches = record { gs = no_branch; gd = no_branch; gb = no_branch; bs = no_branch; bd = no_branch }

unfoldable pub branches_of : Mosfet1 → LoadKind → ChargeBranches
branches_of d DirectCurrent = no_branches
branches_of d (Transient alpha) = charge_branches_of d alpha

-- the device's contributions to the matrix and to the right-hand side, in order, ground counted
unfoldable pub jacobian_contributions : Mosfet1 → LoadKind → List Contribution
jacobian_contributions d k = matrix_contributions d.terminals (jac_values_of d) (branches_of d k)

unfoldable pub rhs_contributions : Mosfet1 → LoadKind → List Source
rhs_contributions d k = source_contributions d.terminals (residual_of d) (branches_of d k)

-- the refusals of a load; row 12 is the pattern's own test, row 13 a needed cell that is not in it
abbrev pub load_rows : Mosfet1 → LoadKind → Pattern → List Float → List Float → List Row
load_rows d k P rhs values =
    (8 when nodes_outside d.stage d.terminals (length rhs) (length P.offsets))
    ∷ (10 when unevaluated d.stage)
    ∷ (11 when alpha_outside d.disc k)
    ∷ (12 when not (well_formed P.columns P.offsets P.lengths (length values)))
    ∷ (13 when not (all_there P (jacobian_contributions d k)))
    ∷ []

unfoldable pub load_of : Mosfet1 → LoadKind → Pattern → List Float → List Float → Outcome Unit
load_of d k P rhs values = unless (load_rows d k P rhs values) refused (done tt)

-- a refused load leaves a slice as it was
unfoldable pub if_done : Outcome Unit → List Float → List Float → List Float
if_done (done u) after before = after
if_done (refused n) after before = before

-- the outcome and both slices, whole
pub record Loaded (d : Mosfet1) (k : LoadKind) (P : Pattern) (rhs values : List Float) (r : Outcome Unit) (rhs' values' : List Float) : Type 0 where
  pub answer : r ≡ load_of d k P rhs values
  pub side : rhs' ≡ if_done r (add_sources (rhs_contributions d k) rhs) rhs
  pub matrix : values' ≡ if_done r (add_cells P (jacobian_contributions d k) values) values

-- the first four rows, before the cells are looked up: the number of the one that refuses, 0 where none does
unfoldable pub early_row : Bool → Bool → Bool → Bool → ℕ
early_row row8 row10 row11 row12 = row_number ((8 when row8) ∷ (10 when row10) ∷ (11 when row11) ∷ (12 when row12) ∷ [])

-- n of a list's numbers from the k-th on; for the lookup of cells and the load by them
unfoldable pub numbers_from : List ℕ → ℕ → ℕ → List ℕ
numbers_from w k zero = []
numbers_from w k (suc n) = get_or w k 0 ∷ numbers_from w (suc k) n
