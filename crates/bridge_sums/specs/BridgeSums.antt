-- What an accepted load of a bridge or of a block says of each of its devices, of all contributions together and of the entries that get
-- none. Quotations are from document 02, Wish 2. Of the devices, the pattern and what the slices hold nothing is asked but that the load is
-- accepted, and for the current bound what demand 3 asks of a device.
use Rattle.std.specs.Prelude.{ℕ, ◌+◌, ◌≤◌, ◌<◌, ◌≡◌, Bool, false, List, [], ◌∷◌, ◌++◌, length, get_or, Float}
use Rattle.std.specs.Float.{nan}
use Rattle.exact.specs.Float64.{+0}
use Rattle.device.specs.Refusals.{done}
use Rattle.device.specs.declared.NodeId.{NodeId}
use Rattle.device.specs.declared.NodeId.TheVariants.{At}
use Rattle.device.specs.declared.Mosfet1.{Mosfet1}
use Rattle.assembly.specs.Assembly.{Pattern, Contribution, Source, at, place_of, add_cells, add_sources}
use Rattle.loading.specs.Loading.{jacobian_contributions, rhs_contributions, Loaded}
use Rattle.loading.specs.declared.LoadKind.{LoadKind}
use Rattle.column_sums.specs.ColumnSums.{SumsToZero, column, currents, place_gets, cell_gets, entry_gets, OthersUnchanged, OtherCellsUnchanged}
use Rattle.call_lists.specs.Calls.{Call, run}
use Rattle.call_lists.specs.F64.{Every, IsF64, Fresh}
use Rattle.currents.specs.Currents.{LoadHolds}
use Rattle.bridge.specs.Bridge.{Slices, load_one, load_in_order, zeroed, bridge_of, bridge_slices, part_of, with_part, block_of, block_slices}

-- ---- both slices before the first device
-- "the whole one after zeroing both slices"
abbrev pub zero_slices : List Float → List Float → Slices
zero_slices rhs values = record { side = zeroed rhs; matrix = zeroed values }

-- "Load each block into its own run of rows"; "In its own test a block has a matrix of its own"
abbrev pub own_slices : ℕ → List ℕ → List ℕ → List Float → List Float → Slices
own_slices block starts counts rhs values = record { side = part_of (get_or starts block 0) (get_or counts block 0) rhs; matrix = values }

-- ---- "Either load equals loading its devices in device order"
-- the load of d alone on the slices s is accepted (`Loaded` is the contract of a single load), and leaves the slices s'
abbrev pub LoadedAlone : Mosfet1 → LoadKind → Pattern → Slices → Slices → Type 0
LoadedAlone d k P s s' = Loaded d k P s.side s.matrix (done tt) s'.side s'.matrix

-- so it is with each of the devices, on the slices that the devices before it left
pub record EachLoaded (ds : List Mosfet1) (k : LoadKind) (P : Pattern) (first : Slices) : Type 0 where
  pub each : (before : List Mosfet1) (d : Mosfet1) (after : List Mosfet1) → ds ≡ before ++ (d ∷ after)
      → LoadedAlone d k P (load_in_order k P before first) (load_one k P d (load_in_order k P before first))

-- "Either load": no device of an accepted one is left out or refused
pub record EveryDeviceIsLoaded : Type 0 where
  pub of_a_bridge : (ds : List Mosfet1) (starts counts : List ℕ) (k : LoadKind) (P : Pattern) (rhs values : List Float)
      → bridge_of ds starts counts k P rhs values ≡ done tt
      → EachLoaded ds k P (zero_slices rhs values)
  pub of_a_block : (ds : List Mosfet1) (block : ℕ) (starts counts : List ℕ) (k : LoadKind) (P : Pattern) (rhs values : List Float)
      → block_of ds block starts counts k P rhs values ≡ done tt
      → EachLoaded ds k P (own_slices block starts counts rhs values)

-- ---- "The exact cancelling of contributions now covers the whole bridge"
-- the contributions of all devices, to ground too, in device order
unfoldable pub all_cells : LoadKind → List Mosfet1 → List Contribution
all_cells k [] = []
all_cells k (d ∷ ds) = jacobian_contributions d k ++ all_cells k ds

unfoldable pub all_sources : LoadKind → List Mosfet1 → List Source
all_sources k [] = []
all_sources k (d ∷ ds) = rhs_contributions d k ++ all_sources k ds

-- they are what is added, each in turn, to the slices before the first device, and nothing besides
pub record AllAdded (ds : List Mosfet1) (k : LoadKind) (P : Pattern) (first last : Slices) : Type 0 where
  pub side : last.side ≡ add_sources (all_sources k ds) first.side
  pub matrix : last.matrix ≡ add_cells P (all_cells k ds) first.matrix

-- of "Either load": what an accepted one leaves is these contributions, added in device order
pub record EveryContributionIsAdded : Type 0 where
  pub of_a_bridge : (ds : List Mosfet1) (starts counts : List ℕ) (k : LoadKind) (P : Pattern) (rhs values : List Float)
      → bridge_of ds starts counts k P rhs values ≡ done tt
      → AllAdded ds k P (zero_slices rhs values) (bridge_slices ds k P rhs values)
  pub of_a_block : (ds : List Mosfet1) (block : ℕ) (starts counts : List ℕ) (k : LoadKind) (P : Pattern) (rhs values : List Float)
      → block_of ds block starts counts k P rhs values ≡ done tt
      → AllAdded ds k P (own_slices block starts counts rhs values) (block_slices ds block starts counts k P rhs values)

-- those to each column, for every node, ground too, and those to the right-hand side sum to exactly zero where all of them are
-- finite. "there blocks share nodes": nothing is asked of the nodes. It holds of any list of devices, so of a block's too
pub record BridgeCancels (ds : List Mosfet1) (k : LoadKind) : Type 0 where
  pub column_of : (n : NodeId) → SumsToZero (column n (all_cells k ds))
  pub right_hand_side : SumsToZero (currents (all_sources k ds))

-- ---- "that no entry of another cell changes counts from the zeroing"
-- a list as long as the one before, in which each entry that gets nothing is +0
pub record OthersZero (gets : ℕ → Bool) (before after : List Float) : Type 0 where
  pub same_length : length after ≡ length before
  pub zero : (i : ℕ) → i < length before → gets i ≡ false → get_or after i nan ≡ +0

-- the entry of each cell of the pattern that gets nothing
pub record OtherCellsZero (P : Pattern) (cs : List Contribution) (after : List Float) : Type 0 where
  pub zero_cell : (r c p : ℕ) → place_of P (At r) (At c) ≡ at p → cell_gets cs r c ≡ false → get_or after p nan ≡ +0

-- of a bridge, by cells of the matrix, by all places of its values (those between the rows too) and by entries of the right-hand side,
-- whatever the slices held
pub record BridgeOthers (ds : List Mosfet1) (k : LoadKind) (P : Pattern) (rhs values : List Float) (last : Slices) : Type 0 where
  pub cells : OtherCellsZero P (all_cells k ds) last.matrix
  pub places : OthersZero (place_gets P (all_cells k ds)) values last.matrix
  pub entries : OthersZero (entry_gets (all_sources k ds)) rhs last.side

-- "A block owns a run of rows that begins somewhere inside the shared right-hand side": a list that is as before in each entry before the
-- run, in each of the run that gets nothing, counted "from the start of its run", and in each behind it
pub record OtherRowsUnchanged (start count : ℕ) (gets : ℕ → Bool) (before after : List Float) : Type 0 where
  pub same_length : length after ≡ length before
  pub before_the_run : (i : ℕ) → i < start → get_or after i nan ≡ get_or before i nan
  pub in_the_run : (i : ℕ) → i < count → gets i ≡ false → get_or after (start + i) nan ≡ get_or before (start + i) nan
  pub behind_the_run : (i : ℕ) → start + count ≤ i → get_or after i nan ≡ get_or before i nan

-- of a block, whose load zeroes nothing: its own matrix, its part of the right-hand side, and the whole right-hand side with that part
pub record BlockOthers (ds : List Mosfet1) (start count : ℕ) (k : LoadKind) (P : Pattern) (rhs values : List Float) (last : Slices) : Type 0 where
  pub cells : OtherCellsUnchanged P (all_cells k ds) values last.matrix
  pub places : OthersUnchanged (place_gets P (all_cells k ds)) values last.matrix
  pub entries : OthersUnchanged (entry_gets (all_sources k ds)) (part_of start count rhs) last.side
  pub whole_side : OtherRowsUnchanged start count (entry_gets (all_sources k ds)) rhs (with_part start count last.side rhs)

-- of an accepted load of a bridge, where it "counts from the zeroing", and of a block's, where nothing is zeroed
pub record OthersStayZero : Type 0 where
  pub of_a_bridge : (ds : List Mosfet1) (starts counts : List ℕ) (k : LoadKind) (P : Pattern) (rhs values : List Float)
      → bridge_of ds starts counts k P rhs values ≡ done tt
      → BridgeOthers ds k P rhs values (bridge_slices ds k P rhs values)
  pub of_a_block : (ds : List Mosfet1) (block : ℕ) (starts counts : List ℕ) (k : LoadKind) (P : Pattern) (rhs values : List Float)
      → block_of ds block starts counts k P rhs values ≡ done tt
      → BlockOthers ds (get_or starts block 0) (get_or counts block 0) k P rhs values (block_slices ds block starts counts k P rhs values)

-- ---- "and each device keeps its own current bound"
-- the claims of demand 3 (`LoadHolds`) at a load from the slices s to the slices s'
abbrev pub HoldsBetween : List Call → Mosfet1 → LoadKind → Pattern → Slices → Slices → Type 0
HoldsBetween calls d k P s s' = LoadHolds calls d k P s.side s.matrix s'.side s'.matrix

-- so it is with each of the devices that a list of calls made of a fresh one, at its own load, on the slices that the devices before it
-- left, whatever the other devices are
pub record EachHolds (ds : List Mosfet1) (k : LoadKind) (P : Pattern) (first : Slices) : Type 0 where
  pub each : (before : List Mosfet1) (d : Mosfet1) (calls : List Call) (after : List Mosfet1) → Fresh d → Every IsF64 calls
      → ds ≡ before ++ (run calls d ∷ after)
      → HoldsBetween calls d k P (load_in_order k P before first) (load_one k P (run calls d) (load_in_order k P before first))

-- "each device", of an accepted load of a bridge and of a block
pub record EveryDeviceKeepsItsBound : Type 0 where
  pub of_a_bridge : (ds : List Mosfet1) (starts counts : List ℕ) (k : LoadKind) (P : Pattern) (rhs values : List Float)
      → bridge_of ds starts counts k P rhs values ≡ done tt
      → EachHolds ds k P (zero_slices rhs values)
  pub of_a_block : (ds : List Mosfet1) (block : ℕ) (starts counts : List ℕ) (k : LoadKind) (P : Pattern) (rhs values : List Float)
      → block_of ds block starts counts k P rhs values ≡ done tt
      → EachHolds ds k P (own_slices block starts counts rhs values)
