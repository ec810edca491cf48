-- The load of a whole bridge by cells (`bank_resolved`) beside its load on a pattern (`bridge`), where the cells were looked up for its devices
-- in that pattern. So whatever is proved of the loads of a bridge on a pattern holds of these.
use Rattle.std.specs.Prelude.{ℕ, ◌≤◌, ◌≡◌, List, [], ◌∷◌, length, Float}
use Rattle.device.specs.Refusals.{done}
use Rattle.device.specs.declared.Mosfet1.{Mosfet1}
use Rattle.places.specs.Places.{missing_number}
use Rattle.assembly.specs.Assembly.{Pattern}
use Rattle.loading.specs.declared.LoadKind.{LoadKind}
use Rattle.resolve.specs.Resolve.{resolve_of}
use Rattle.from_record.specs.Devices.{device_from}
use Rattle.record_words.specs.Words.{record_of}
use Rattle.bridge.specs.Bridge.{bridge_of, bridge_slices}
use Rattle.device_bank.specs.Bank.{devices_of}
use Rattle.bank_resolved.specs.Resolved.{bridge_celled_of, bridge_celled_slices}

-- the numbers are what a lookup in the pattern answered, when the device had the nodes that it has now; all else of it may have changed since
pub record LookedUpFor (P : Pattern) (d : Mosfet1) (w : List ℕ) : Type 0 where
  pub made : Mosfet1
  pub nodes : d.terminals ≡ made.terminals
  pub answered : resolve_of made P ≡ done w

-- so it is of each device of a bank, in device order; lists behind the last device are not read
unfoldable pub LookedUp : Pattern → List (List Float) → List (List ℕ) → Type 0
LookedUp P [] cs = Unit
LookedUp P (w ∷ ws) [] = ⊥
LookedUp P (w ∷ ws) (c ∷ cs) = LookedUpFor P (device_from (record_of w)) c × LookedUp P ws cs

-- the load by cells answers what the load on the pattern answers, and makes the same two slices
pub record SameBridge (bank : List (List Float)) (starts counts : List ℕ) (k : LoadKind) (P : Pattern) (cells : List (List ℕ)) (rhs values : List Float) : Type 0 where
  pub answer : bridge_celled_of bank starts counts k cells rhs values ≡ bridge_of (devices_of bank) starts counts k P rhs values
  pub slices : bridge_celled_slices bank k cells rhs values ≡ bridge_slices (devices_of bank) k P rhs values

-- Of every bank with at least one device, for all lists that a machine can hold. With no device there is no lookup either: the load by cells
-- knows no pattern, and its row 12 never applies
unfoldable pub ResolvedBridgeIsBridge : Type 0
ResolvedBridgeIsBridge =
    (bank : List (List Float)) (starts counts : List ℕ) (k : LoadKind) (P : Pattern) (cells : List (List ℕ)) (rhs values : List Float)
    → 1 ≤ length bank
    → LookedUp P bank cells
    → length P.columns ≤ missing_number
    → length values ≤ missing_number
    → SameBridge bank starts counts k P cells rhs values
