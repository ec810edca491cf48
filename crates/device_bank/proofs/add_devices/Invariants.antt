use mathlib.Core.Path.{◌≡◌}
use lib.ListN.{length, drop}
use Rattle.pattern.specs.Pattern.{lists}
use Rattle.bridge.specs.Bridge.{load_in_order}
use Rattle.bridge.proofs.InOrder.{Passed}
use Rattle.device_bank.specs.Bank.{devices_of}
use Rattle.device_bank.proofs.add_devices.Given as goal

abbrev pub invariant-loop-w : goal.invariant-loop-w
invariant-loop-w l = record {
  passed : Passed (devices_of (drop l.w-index l.bank)) l.kind (lists l.pattern) (length l.initial.rhs) (length l.initial.values);
  loaded : load_in_order l.kind (lists l.pattern) (devices_of l.bank) (record { side = l.initial.rhs; matrix = l.initial.values })
      ≡ load_in_order l.kind (lists l.pattern) (devices_of (drop l.w-index l.bank)) (record { side = l.rhs; matrix = l.values });
}
