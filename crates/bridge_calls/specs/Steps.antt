-- A step of the code: a call's number by the lengths of its slices, all that it reads of them before the first write. A reader of the calls
-- needs none of it.
use Rattle.std.specs.Prelude.{ℕ, cond, List, ◌∷◌, ltb, length, get_or, Float}
use Rattle.assembly.specs.Assembly.{Pattern}
use Rattle.device.specs.Refusals.{row_number, ◌when◌}
use Rattle.record_loading.specs.Load.{kind_from}
use Rattle.device_bank.specs.Bank.{devices_of}
use Rattle.bridge.specs.Runs.{bridge_refused, block_refused}
use Rattle.bank_resolved.specs.Resolved.{celled_of, celled_rows}
use Rattle.bridge.specs.Bridge.{devices_rows}
use Rattle.bridge_calls.specs.Calls.{good_loads}

unfoldable pub bridge_number : List (List Float) → List ℕ → List ℕ → ℕ → Float → Pattern → ℕ → ℕ → ℕ
bridge_number bank starts counts transient alpha P rows values =
    cond (good_loads bank transient)
    (row_number ((14 when bridge_refused starts counts rows (length (devices_of bank))) ∷ devices_rows (devices_of bank) (kind_from transient alpha) P rows values)) 100

unfoldable pub block_number : List (List Float) → ℕ → List ℕ → List ℕ → ℕ → Float → Pattern → ℕ → ℕ → ℕ
block_number bank block starts counts transient alpha P rows values =
    cond (good_loads bank transient)
    (row_number ((14 when block_refused block starts counts rows (length (devices_of bank))) ∷ devices_rows (devices_of bank) (kind_from transient alpha) P (get_or counts block 0) values)) 100

unfoldable pub resolved_bridge_number : List (List Float) → List ℕ → List ℕ → ℕ → Float → List (List ℕ) → ℕ → ℕ → ℕ
resolved_bridge_number bank starts counts transient alpha cells rows values =
    cond (good_loads bank transient)
    (row_number ((14 when bridge_refused starts counts rows (length bank)) ∷ celled_rows (celled_of bank cells) (ltb (length cells) (length bank)) (kind_from transient alpha) rows values)) 100
