-- Card and geometry of a device that is a record: a record with an unknown tag is refused under 100, any other as its device is.
-- `space` is the lent list's length.
use Rattle.std.specs.Prelude.{ℕ, cond, List, eqb, leb, Float}
use Rattle.device.specs.Refusals.{Outcome, done, refused}
use Rattle.entries.specs.declared.Keyed.{Keyed}
use Rattle.card.specs.Card.{card_of, card_list_of}
use Rattle.geometry.specs.Geometry.{geometry_of, geometry_list_of}
use Rattle.record.specs.Records.{device_record}
use Rattle.record.specs.declared.DeviceRecord.{DeviceRecord}
use Rattle.from_record.specs.Devices.{device_from}
use Rattle.from_record.specs.Tags.{good_tags}
use Rattle.record_card.specs.declared.KeysOutcome.{KeysOutcome}

-- what a card or a geometry call gives: the number, the count of unknown keys and the record; a refusal's count is 0, its record the
-- one handed in
unfoldable pub keys_outcome : DeviceRecord → Outcome Keyed → KeysOutcome
keys_outcome old (done k) = record { refusal = 0; unknown = k.unknown; device = device_record k.device }
keys_outcome old (refused n) = record { refusal = n; unknown = 0; device = old }

-- polarity 0 is NMOS, 1 PMOS
unfoldable pub card_call : DeviceRecord → ℕ → List ℕ → List ℕ → List ℕ → List Float → ℕ → KeysOutcome
card_call old polarity bytes offsets lengths values space =
    cond (leb polarity 1) (keys_outcome old (card_of (eqb polarity 1) bytes offsets lengths values space)) (record { refusal = 100; unknown = 0; device = old })

unfoldable pub card_call_list : ℕ → List ℕ → List ℕ → List ℕ → List Float → List ℕ → List ℕ
card_call_list polarity bytes offsets lengths values list =
    cond (leb polarity 1) (card_list_of bytes offsets lengths values list) list

unfoldable pub geometry_call : DeviceRecord → List ℕ → List ℕ → List ℕ → List Float → ℕ → KeysOutcome
geometry_call r bytes offsets lengths values space =
    cond (good_tags r) (keys_outcome r (geometry_of (device_from r) bytes offsets lengths values space)) (record { refusal = 100; unknown = 0; device = r })

unfoldable pub geometry_call_list : DeviceRecord → List ℕ → List ℕ → List ℕ → List Float → List ℕ → List ℕ
geometry_call_list r bytes offsets lengths values list =
    cond (good_tags r) (geometry_list_of (device_from r) bytes offsets lengths values list) list
