-- Looking up and loading by cells, of a device that is a record: a record with an unknown tag is refused under 100, any other as its device is.
use Rattle.std.specs.Prelude.{ℕ, cond, List, Float}
use Rattle.assembly.specs.Assembly.{Pattern, add_sources}
use Rattle.device.specs.Refusals.{Outcome, refused, number}
use Rattle.loading.specs.Loading.{branches_of, jacobian_contributions, rhs_contributions, if_done}
use Rattle.resolve.specs.Resolve.{resolve_of}
use Rattle.resolved_rows.specs.LoadResolved.{load_resolved_of, add_stored, stored_places}
use Rattle.record.specs.declared.DeviceRecord.{DeviceRecord}
use Rattle.from_record.specs.Devices.{device_from}
use Rattle.from_record.specs.Tags.{good_tags}
use Rattle.record_loading.specs.Load.{kind_from, good_load}

-- the 37 numbers, or a refusal
unfoldable pub resolve_call : DeviceRecord → Pattern → Outcome (List ℕ)
resolve_call r P = cond (good_tags r) (resolve_of (device_from r) P) (refused 100)

-- a load's answer by the numbers w
unfoldable pub load_resolved_call : DeviceRecord → ℕ → Float → List ℕ → List Float → List Float → ℕ
load_resolved_call r transient alpha w rhs values =
    cond (good_load r transient) (number (load_resolved_of (device_from r) (kind_from transient alpha) w rhs values)) 100

-- the right-hand side afterwards
unfoldable pub resolved_side : DeviceRecord → ℕ → Float → List ℕ → List Float → List Float → List Float
resolved_side r transient alpha w rhs values =
    let d = device_from r in
    let k = kind_from transient alpha in
    cond (good_load r transient) (if_done (load_resolved_of d k w rhs values) (add_sources (rhs_contributions d k) rhs) rhs) rhs

-- the matrix afterwards
unfoldable pub resolved_matrix : DeviceRecord → ℕ → Float → List ℕ → List Float → List Float → List Float
resolved_matrix r transient alpha w rhs values =
    let d = device_from r in
    let k = kind_from transient alpha in
    cond (good_load r transient) (if_done (load_resolved_of d k w rhs values) (add_stored (jacobian_contributions d k) (stored_places w (branches_of d k)) values) values) values
