-- The load of a whole bridge by cells that were looked up before (`resolve`), one list of 37 numbers for each device: no pattern, no search.
-- Whatever the numbers are, the load is defined.
use Rattle.std.specs.Prelude.{ℕ, Bool, not, ◌||◌, List, [], ◌∷◌, length, get_or, eqb, ltb, Float}
use Rattle.device.specs.Refusals.{Row, unless, Outcome, done, refused, ◌when◌}
use Rattle.device.specs.Stages.{unevaluated}
use Rattle.device.specs.declared.Mosfet1.{Mosfet1}
use Rattle.assembly.specs.Assembly.{add_sources}
use Rattle.loading.specs.Loading.{nodes_outside, alpha_outside, branches_of, jacobian_contributions, rhs_contributions, if_done}
use Rattle.loading.specs.declared.LoadKind.{LoadKind}
use Rattle.resolved_rows.specs.LoadResolved.{add_stored, stored_places, cells_held, load_resolved_of}
use Rattle.from_record.specs.Devices.{device_from}
use Rattle.record_words.specs.Words.{record_of}
use Rattle.bridge.specs.Runs.{any_of, bridge_refused}
use Rattle.bridge.specs.Bridge.{Slices, zeroed}

-- a device with the numbers of its cells
pub record Celled : Type 0 where
  pub device : Mosfet1
  pub cells : List ℕ

-- the devices of a bank that have a list of cells, in device order; lists behind the last device are not read
unfoldable pub celled_of : List (List Float) → List (List ℕ) → List Celled
celled_of [] cs = []
celled_of (w ∷ ws) [] = []
celled_of (w ∷ ws) (c ∷ cs) = record { device = device_from (record_of w); cells = c } ∷ celled_of ws cs

-- The rows of a single load by cells, each asked of all devices before the next one. Row 13 applies too where a device lacks a list of cells
abbrev pub celled_rows : List Celled → Bool → LoadKind → ℕ → ℕ → List Row
celled_rows ls lacking k rows values =
    (8 when any_of (λ (l : Celled). nodes_outside l.device.stage l.device.terminals rows (get_or l.cells 6 0)) ls)
    ∷ (10 when any_of (λ (l : Celled). unevaluated l.device.stage) ls)
    ∷ (11 when any_of (λ (l : Celled). alpha_outside l.device.disc k) ls)
    ∷ (12 when any_of (λ (l : Celled). not (eqb values (get_or l.cells 7 0))) ls)
    ∷ (13 when (any_of (λ (l : Celled). not (cells_held l.cells l.device k values)) ls || lacking))
    ∷ []

-- what the load of a single device by its cells leaves (`LoadedResolved`)
unfoldable pub load_celled : LoadKind → Celled → Slices → Slices
load_celled k l s =
    let d = l.device in
    let r = load_resolved_of d k l.cells s.side s.matrix in
    record {
      side = if_done r (add_sources (rhs_contributions d k) s.side) s.side;
      matrix = if_done r (add_stored (jacobian_contributions d k) (stored_places l.cells (branches_of d k)) s.matrix) s.matrix;
    }

-- in device order
unfoldable pub load_celled_in_order : LoadKind → List Celled → Slices → Slices
load_celled_in_order k [] s = s
load_celled_in_order k (l ∷ ls) s = load_celled_in_order k ls (load_celled k l s)

-- the whole bridge, after zeroing both slices
abbrev pub bridge_celled_rows : List (List Float) → List ℕ → List ℕ → LoadKind → List (List ℕ) → List Float → List Float → List Row
bridge_celled_rows bank starts counts k cells rhs values =
    (14 when bridge_refused starts counts (length rhs) (length bank))
    ∷ celled_rows (celled_of bank cells) (ltb (length cells) (length bank)) k (length rhs) (length values)

unfoldable pub bridge_celled_of : List (List Float) → List ℕ → List ℕ → LoadKind → List (List ℕ) → List Float → List Float → Outcome Unit
bridge_celled_of bank starts counts k cells rhs values = unless (bridge_celled_rows bank starts counts k cells rhs values) refused (done tt)

unfoldable pub bridge_celled_slices : List (List Float) → LoadKind → List (List ℕ) → List Float → List Float → Slices
bridge_celled_slices bank k cells rhs values = load_celled_in_order k (celled_of bank cells) (record { side = zeroed rhs; matrix = zeroed values })
