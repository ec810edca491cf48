use mathlib.Core.Path.{◌≡◌}
use lib.Dec.{ltb}
use lib.ListN.{length, drop}
use Rattle.bridge_devices.specs.Steps.{lower}
use Rattle.bank_resolved.specs.Steps.{number_from}
use Rattle.bank_resolved.proofs.lowest_number.Given as goal

abbrev pub invariant-loop-w : goal.invariant-loop-w
invariant-loop-w l =
    lower l.number (number_from l.transient l.alpha l.rows l.values (ltb (length l.cells) (length l.bank)) (drop (length l.yielded) l.bank) (drop (length l.yielded) l.cells))
    ≡ number_from l.transient l.alpha l.rows l.values (ltb (length l.cells) (length l.bank)) l.bank l.cells
