-- Loading a device that is a record: a record with an unknown tag is refused under 100, any other as its device is.
use Rattle.std.specs.Prelude.{ℕ, Bool, cond, ◌&&◌, List, eqb, leb, Float}
use Rattle.assembly.specs.Assembly.{Pattern, add_cells, add_sources}
use Rattle.device.specs.Refusals.{number}
use Rattle.loading.specs.Loading.{jacobian_contributions, rhs_contributions, load_of, if_done}
use Rattle.loading.specs.declared.LoadKind.{LoadKind}
use Rattle.loading.specs.declared.LoadKind.TheVariants.{DirectCurrent, Transient}
use Rattle.record.specs.declared.DeviceRecord.{DeviceRecord}
use Rattle.from_record.specs.Devices.{device_from}
use Rattle.from_record.specs.Tags.{good_tags}

unfoldable pub kind_from : ℕ → Float → LoadKind
kind_from transient alpha = cond (eqb transient 0) DirectCurrent (Transient alpha)

unfoldable pub good_load : DeviceRecord → ℕ → Bool
good_load r transient = good_tags r && leb transient 1

-- the answer
unfoldable pub load_call : DeviceRecord → ℕ → Float → Pattern → List Float → List Float → ℕ
load_call r transient alpha P rhs values =
    cond (good_load r transient) (number (load_of (device_from r) (kind_from transient alpha) P rhs values)) 100

-- the right-hand side afterwards
unfoldable pub loaded_side : DeviceRecord → ℕ → Float → Pattern → List Float → List Float → List Float
loaded_side r transient alpha P rhs values =
    let d = device_from r in
    let k = kind_from transient alpha in
    cond (good_load r transient) (if_done (load_of d k P rhs values) (add_sources (rhs_contributions d k) rhs) rhs) rhs

-- the matrix afterwards
unfoldable pub loaded_matrix : DeviceRecord → ℕ → Float → Pattern → List Float → List Float → List Float
loaded_matrix r transient alpha P rhs values =
    let d = device_from r in
    let k = kind_from transient alpha in
    cond (good_load r transient) (if_done (load_of d k P rhs values) (add_cells P (jacobian_contributions d k) values) values) values
