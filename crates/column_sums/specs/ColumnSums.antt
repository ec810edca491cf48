-- "At every accepted load, with ground counted, the contributions to each column and to the right-hand side, where all are
-- finite, sum to exactly zero, and no entry of another cell changes." The contributions are the lists that `Loaded` adds.
use Rattle.std.specs.Prelude.{ℕ, ◌≡◌, Bool, true, false, cond, ◌&&◌, ◌||◌, List, [], ◌∷◌, length, get_or, T, eqb, Float}
use Rattle.std.specs.Float.{nan}
use Rattle.std.specs.Float.Ieee.Scale.{finite}
use Rattle.exact.specs.Fraction.{ℚ, nat, ◌+q◌, ◌≈q◌}
use Rattle.exact.specs.FloatValue.{value}
use Rattle.device.specs.declared.NodeId.{NodeId}
use Rattle.device.specs.declared.NodeId.TheVariants.{Ground, At}
use Rattle.device.specs.declared.Mosfet1.{Mosfet1}
use Rattle.assembly.specs.Assembly.{Pattern, Contribution, Source, Place, ground, missing, at, place_of}
use Rattle.loading.specs.declared.LoadKind.{LoadKind}
use Rattle.loading.specs.Loading.{jacobian_contributions, rhs_contributions}

-- two nodes are one: both are ground, or both have the same index
unfoldable pub same_node : NodeId → NodeId → Bool
same_node Ground Ground = true
same_node Ground (At j) = false
same_node (At i) Ground = false
same_node (At i) (At j) = eqb i j

-- a contribution is to a node's column, whatever its row; ground has a column too
unfoldable pub in_column : NodeId → Contribution → Bool
in_column n c = same_node n c.position.col

-- the values of the contributions to a node's column
unfoldable pub column : NodeId → List Contribution → List Float
column n [] = []
column n (c ∷ cs) = cond (in_column n c) (c.value ∷ column n cs) (column n cs)

-- the values of the contributions to the right-hand side, to ground too
unfoldable pub currents : List Source → List Float
currents [] = []
currents (s ∷ ss) = s.value ∷ currents ss

-- the exact sum; it says something where all are finite, since a NaN and an infinity have the value 0
unfoldable pub sum : List Float → ℚ
sum [] = nat 0
sum (x ∷ xs) = value x +q sum xs

unfoldable pub all_finite : List Float → Bool
all_finite [] = true
all_finite (x ∷ xs) = finite x && all_finite xs

-- the sum is exactly zero where all are finite
pub record SumsToZero (xs : List Float) : Type 0 where
  pub exactly : T (all_finite xs) → sum xs ≈q nat 0

-- for each node, ground too, the contributions to its column
pub record ColumnsCancel (d : Mosfet1) (k : LoadKind) : Type 0 where
  pub column_of : (n : NodeId) → SumsToZero (column n (jacobian_contributions d k))

-- the contributions to the right-hand side
pub record SourcesCancel (d : Mosfet1) (k : LoadKind) : Type 0 where
  pub side : SumsToZero (currents (rhs_contributions d k))

-- a place of the matrix values gets a contribution: it is the place of one
unfoldable pub is_place : Place → ℕ → Bool
is_place ground i = false
is_place missing i = false
is_place (at p) i = eqb p i

unfoldable pub place_gets : Pattern → List Contribution → ℕ → Bool
place_gets P [] i = false
place_gets P (c ∷ cs) i = is_place (place_of P c.position.row c.position.col) i || place_gets P cs i

-- a cell gets a contribution: one has its row and its column
unfoldable pub cell_gets : List Contribution → ℕ → ℕ → Bool
cell_gets [] r c = false
cell_gets (x ∷ xs) r c = same_node x.position.row (At r) && same_node x.position.col (At c) || cell_gets xs r c

-- an entry of the right-hand side gets a contribution: it is the node of one
unfoldable pub entry_gets : List Source → ℕ → Bool
entry_gets [] i = false
entry_gets (s ∷ ss) i = same_node s.node (At i) || entry_gets ss i

-- two lists of one length that agree at each index that gets nothing
pub record OthersUnchanged (gets : ℕ → Bool) (before after : List Float) : Type 0 where
  pub same_length : length after ≡ length before
  pub same_entry : (i : ℕ) → gets i ≡ false → get_or after i nan ≡ get_or before i nan

-- the entry of each cell of the pattern that gets nothing ("another cell is one that gets none")
pub record OtherCellsUnchanged (P : Pattern) (cs : List Contribution) (before after : List Float) : Type 0 where
  pub same_cell : (r c p : ℕ) → place_of P (At r) (At c) ≡ at p → cell_gets cs r c ≡ false → get_or after p nan ≡ get_or before p nan

-- what holds of a load of the device d, of either kind, that left rhs' and values': the sums, and what did not change, by cells of
-- the matrix, by all places of its values (those between the rows too), and by entries of the right-hand side
pub record LoadCancels (d : Mosfet1) (k : LoadKind) (P : Pattern) (rhs values rhs' values' : List Float) : Type 0 where
  pub columns : ColumnsCancel d k
  pub right_hand_side : SourcesCancel d k
  pub other_cells : OtherCellsUnchanged P (jacobian_contributions d k) values values'
  pub other_places : OthersUnchanged (place_gets P (jacobian_contributions d k)) values values'
  pub other_entries : OthersUnchanged (entry_gets (rhs_contributions d k)) rhs rhs'
