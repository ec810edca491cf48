-- A bank: devices that a caller holds one behind the other, each as the 113 words of its record.
use Rattle.std.specs.Prelude.{ℕ, Bool, not, List, [], ◌∷◌, length, Float}
use Rattle.device.specs.Refusals.{row_number}
use Rattle.device.specs.declared.Mosfet1.{Mosfet1}
use Rattle.assembly.specs.Assembly.{Pattern}
use Rattle.loading.specs.declared.LoadKind.{LoadKind}
use Rattle.from_record.specs.Devices.{device_from}
use Rattle.from_record.specs.Tags.{good_tags}
use Rattle.record_words.specs.Words.{record_of}
use Rattle.bridge.specs.Runs.{any_of}
use Rattle.bridge.specs.Bridge.{devices_rows}

-- the devices that the words stand for, in device order
unfoldable pub devices_of : List (List Float) → List Mosfet1
devices_of [] = []
devices_of (w ∷ ws) = device_from (record_of w) ∷ devices_of ws

-- every tag of every record is known
unfoldable pub bank_good : List (List Float) → Bool
bank_good bank = not (any_of (λ (w : List Float). not (good_tags (record_of w))) bank)

-- a step of the code: the number of the first row that refuses the devices, 0 where none does
unfoldable pub bank_row : List (List Float) → LoadKind → Pattern → ℕ → ℕ → ℕ
bank_row bank k P rows values = row_number (devices_rows (devices_of bank) k P rows values)
