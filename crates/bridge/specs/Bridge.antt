-- The loads of a block and of a whole bridge: which row of the refusals applies, and what both slices hold afterwards. Quotations are from
-- document 02, Wish 2.
use Rattle.std.specs.Prelude.{ℕ, not, List, [], ◌∷◌, ◌++◌, length, get_or, take, drop, Float}
use Rattle.exact.specs.Float64.{+0}
use Rattle.pattern.specs.Pattern.{well_formed}
use Rattle.device.specs.Refusals.{Row, unless, Outcome, done, refused, ◌when◌}
use Rattle.device.specs.Stages.{unevaluated}
use Rattle.device.specs.declared.Mosfet1.{Mosfet1}
use Rattle.assembly.specs.Assembly.{Pattern, all_there, add_cells, add_sources}
use Rattle.loading.specs.Loading.{nodes_outside, alpha_outside, jacobian_contributions, rhs_contributions, load_of, if_done}
use Rattle.loading.specs.declared.LoadKind.{LoadKind}
use Rattle.bridge.specs.Runs.{any_of, bridge_refused, block_refused}

-- The rows of a single load, each asked of all devices before the next one, for a right-hand side of so many rows and so many values. Row
-- 12 speaks of the pattern alone, whatever the devices are
abbrev pub devices_rows : List Mosfet1 → LoadKind → Pattern → ℕ → ℕ → List Row
devices_rows ds k P rows values =
    (8 when any_of (λ (d : Mosfet1). nodes_outside d.stage d.terminals rows (length P.offsets)) ds)
    ∷ (10 when any_of (λ (d : Mosfet1). unevaluated d.stage) ds)
    ∷ (11 when any_of (λ (d : Mosfet1). alpha_outside d.disc k) ds)
    ∷ (12 when not (well_formed P.columns P.offsets P.lengths values))
    ∷ (13 when any_of (λ (d : Mosfet1). not (all_there P (jacobian_contributions d k))) ds)
    ∷ []

-- both slices of a load
pub record Slices : Type 0 where
  pub side : List Float
  pub matrix : List Float

-- what the load of a single device leaves (`Loaded`)
unfoldable pub load_one : LoadKind → Pattern → Mosfet1 → Slices → Slices
load_one k P d s =
    let r = load_of d k P s.side s.matrix in
    record {
      side = if_done r (add_sources (rhs_contributions d k) s.side) s.side;
      matrix = if_done r (add_cells P (jacobian_contributions d k) s.matrix) s.matrix;
    }

-- "Either load equals loading its devices in device order"
unfoldable pub load_in_order : LoadKind → Pattern → List Mosfet1 → Slices → Slices
load_in_order k P [] s = s
load_in_order k P (d ∷ ds) s = load_in_order k P ds (load_one k P d s)

-- ---- the whole bridge: "the whole one after zeroing both slices"
unfoldable pub zeroed : List Float → List Float
zeroed [] = []
zeroed (x ∷ xs) = +0 ∷ zeroed xs

abbrev pub bridge_rows : List Mosfet1 → List ℕ → List ℕ → LoadKind → Pattern → List Float → List Float → List Row
bridge_rows ds starts counts k P rhs values =
    (14 when bridge_refused starts counts (length rhs) (length ds)) ∷ devices_rows ds k P (length rhs) (length values)

unfoldable pub bridge_of : List Mosfet1 → List ℕ → List ℕ → LoadKind → Pattern → List Float → List Float → Outcome Unit
bridge_of ds starts counts k P rhs values = unless (bridge_rows ds starts counts k P rhs values) refused (done tt)

unfoldable pub bridge_slices : List Mosfet1 → LoadKind → Pattern → List Float → List Float → Slices
bridge_slices ds k P rhs values = load_in_order k P ds (record { side = zeroed rhs; matrix = zeroed values })

-- ---- a block: "Load each block into its own run of rows". It "numbers nodes and columns from the start of its run"
-- the part of a list that begins at a place and has so many entries, and the list with another such part
abbrev pub part_of : ℕ → ℕ → List Float → List Float
part_of start count xs = take count (drop start xs)

abbrev pub with_part : ℕ → ℕ → List Float → List Float → List Float
with_part start count part xs = take start xs ++ (part ++ drop count (drop start xs))

abbrev pub block_rows : List Mosfet1 → ℕ → List ℕ → List ℕ → LoadKind → Pattern → List Float → List Float → List Row
block_rows ds block starts counts k P rhs values =
    (14 when block_refused block starts counts (length rhs) (length ds)) ∷ devices_rows ds k P (get_or counts block 0) (length values)

unfoldable pub block_of : List Mosfet1 → ℕ → List ℕ → List ℕ → LoadKind → Pattern → List Float → List Float → Outcome Unit
block_of ds block starts counts k P rhs values = unless (block_rows ds block starts counts k P rhs values) refused (done tt)

-- its devices loaded on its own part of the right-hand side and its own matrix
unfoldable pub block_slices : List Mosfet1 → ℕ → List ℕ → List ℕ → LoadKind → Pattern → List Float → List Float → Slices
block_slices ds block starts counts k P rhs values =
    load_in_order k P ds (record { side = part_of (get_or starts block 0) (get_or counts block 0) rhs; matrix = values })
