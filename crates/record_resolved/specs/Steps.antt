-- The steps of the code. A reader of the calls needs none of it.
use Rattle.std.specs.Prelude.{ℕ, cond, List, ◌==◌, Float}
use Rattle.device.specs.declared.Mosfet1.{Mosfet1}
use Rattle.stamps.specs.Stamps.{jac_pairs_of, jac_values_of, residual_of, charge_branches_of}
use Rattle.places.specs.Places.{nodes_of, terminals_at}
use Rattle.adding.specs.Adding.{add_sources, offset_sources}
use Rattle.assembly.specs.Assembly.{paired}
use Rattle.resolved_rows.specs.LoadResolved.{numbers_from, add_stored, resolved_row_of}
use Rattle.load_resolved.specs.ByNumbers.{add_branches_stored, history_sources}
use Rattle.record.specs.declared.DeviceRecord.{DeviceRecord}
use Rattle.from_record.specs.Devices.{device_from}
use Rattle.record_loading.specs.Load.{kind_from, good_load}

-- a load's answer into so many rows and so many values
unfoldable pub resolved_number : DeviceRecord → ℕ → Float → List ℕ → ℕ → ℕ → ℕ
resolved_number r transient alpha w rhs values =
    cond (good_load r transient) (resolved_row_of (device_from r) (kind_from transient alpha) w rhs values) 100

-- what the static part adds of a device, and what its charge branches do
unfoldable pub static_sources : Mosfet1 → List Float → List Float
static_sources d rhs = add_sources (offset_sources (terminals_at (nodes_of d.terminals)) (residual_of d)) rhs

unfoldable pub static_values : Mosfet1 → List ℕ → List Float → List Float
static_values d w values =
    add_stored (paired (jac_pairs_of (terminals_at (nodes_of d.terminals))) (jac_values_of d)) (numbers_from w 8 24) values

unfoldable pub charge_sources : Mosfet1 → Float → List Float → List Float
charge_sources d alpha rhs = add_sources (history_sources (nodes_of d.terminals) (charge_branches_of d alpha)) rhs

unfoldable pub charge_values : Mosfet1 → Float → List ℕ → List Float → List Float
charge_values d alpha w values = add_branches_stored (nodes_of d.terminals) w (charge_branches_of d alpha) values

-- both slices after the static part, where a load's answer is `row`: where it is not 0, as they were
unfoldable pub static_side : ℕ → DeviceRecord → List Float → List Float
static_side row r rhs = cond (row == 0) (static_sources (device_from r) rhs) rhs

unfoldable pub static_matrix : ℕ → DeviceRecord → List ℕ → List Float → List Float
static_matrix row r w values = cond (row == 0) (static_values (device_from r) w values) values

-- both slices after the charge branches, which only a transient load adds
unfoldable pub charged_side : ℕ → DeviceRecord → ℕ → Float → List Float → List Float
charged_side row r transient alpha rhs = cond (row == 0) (cond (transient == 1) (charge_sources (device_from r) alpha rhs) rhs) rhs

unfoldable pub charged_matrix : ℕ → DeviceRecord → ℕ → Float → List ℕ → List Float → List Float
charged_matrix row r transient alpha w values =
    cond (row == 0) (cond (transient == 1) (charge_values (device_from r) alpha w values) values) values
