-- The loads of a block and of a whole bridge of devices that are records in a caller's bank: a record with an unknown tag is refused under 100,
-- before every row of the table, any others as their devices are.
use Rattle.std.specs.Prelude.{ℕ, Bool, cond, ◌&&◌, List, leb, get_or, Float}
use Rattle.assembly.specs.Assembly.{Pattern}
use Rattle.device.specs.Refusals.{number}
use Rattle.loading.specs.Loading.{if_done}
use Rattle.record_loading.specs.Load.{kind_from}
use Rattle.device_bank.specs.Bank.{devices_of, bank_good}
use Rattle.bank_resolved.specs.Resolved.{bridge_celled_of, bridge_celled_slices}
use Rattle.bridge.specs.Bridge.{bridge_of, bridge_slices, block_of, block_slices, with_part}

-- every tag of the bank's records is known, and so is the kind of the load
unfoldable pub good_loads : List (List Float) → ℕ → Bool
good_loads bank transient = bank_good bank && leb transient 1

-- ---- the whole bridge: the answer, and both slices afterwards
unfoldable pub bridge_call : List (List Float) → List ℕ → List ℕ → ℕ → Float → Pattern → List Float → List Float → ℕ
bridge_call bank starts counts transient alpha P rhs values =
    cond (good_loads bank transient) (number (bridge_of (devices_of bank) starts counts (kind_from transient alpha) P rhs values)) 100

unfoldable pub bridge_side : List (List Float) → List ℕ → List ℕ → ℕ → Float → Pattern → List Float → List Float → List Float
bridge_side bank starts counts transient alpha P rhs values =
    let ds = devices_of bank in
    let k = kind_from transient alpha in
    cond (good_loads bank transient) (if_done (bridge_of ds starts counts k P rhs values) (bridge_slices ds k P rhs values).side rhs) rhs

unfoldable pub bridge_matrix : List (List Float) → List ℕ → List ℕ → ℕ → Float → Pattern → List Float → List Float → List Float
bridge_matrix bank starts counts transient alpha P rhs values =
    let ds = devices_of bank in
    let k = kind_from transient alpha in
    cond (good_loads bank transient) (if_done (bridge_of ds starts counts k P rhs values) (bridge_slices ds k P rhs values).matrix values) values

-- ---- one block: all of the right-hand side but its run stays
unfoldable pub block_call : List (List Float) → ℕ → List ℕ → List ℕ → ℕ → Float → Pattern → List Float → List Float → ℕ
block_call bank block starts counts transient alpha P rhs values =
    cond (good_loads bank transient) (number (block_of (devices_of bank) block starts counts (kind_from transient alpha) P rhs values)) 100

unfoldable pub block_side : List (List Float) → ℕ → List ℕ → List ℕ → ℕ → Float → Pattern → List Float → List Float → List Float
block_side bank block starts counts transient alpha P rhs values =
    let ds = devices_of bank in
    let k = kind_from transient alpha in
    cond (good_loads bank transient)
    (if_done (block_of ds block starts counts k P rhs values)
    (with_part (get_or starts block 0) (get_or counts block 0) (block_slices ds block starts counts k P rhs values).side rhs) rhs)
    rhs

unfoldable pub block_matrix : List (List Float) → ℕ → List ℕ → List ℕ → ℕ → Float → Pattern → List Float → List Float → List Float
block_matrix bank block starts counts transient alpha P rhs values =
    let ds = devices_of bank in
    let k = kind_from transient alpha in
    cond (good_loads bank transient) (if_done (block_of ds block starts counts k P rhs values) (block_slices ds block starts counts k P rhs values).matrix values) values

-- ---- the whole bridge by cells that were looked up before, a list of 37 numbers for each device
unfoldable pub resolved_bridge_call : List (List Float) → List ℕ → List ℕ → ℕ → Float → List (List ℕ) → List Float → List Float → ℕ
resolved_bridge_call bank starts counts transient alpha cells rhs values =
    cond (good_loads bank transient) (number (bridge_celled_of bank starts counts (kind_from transient alpha) cells rhs values)) 100

unfoldable pub resolved_bridge_side : List (List Float) → List ℕ → List ℕ → ℕ → Float → List (List ℕ) → List Float → List Float → List Float
resolved_bridge_side bank starts counts transient alpha cells rhs values =
    let k = kind_from transient alpha in
    cond (good_loads bank transient) (if_done (bridge_celled_of bank starts counts k cells rhs values) (bridge_celled_slices bank k cells rhs values).side rhs) rhs

unfoldable pub resolved_bridge_matrix : List (List Float) → List ℕ → List ℕ → ℕ → Float → List (List ℕ) → List Float → List Float → List Float
resolved_bridge_matrix bank starts counts transient alpha cells rhs values =
    let k = kind_from transient alpha in
    cond (good_loads bank transient) (if_done (bridge_celled_of bank starts counts k cells rhs values) (bridge_celled_slices bank k cells rhs values).matrix values) values
