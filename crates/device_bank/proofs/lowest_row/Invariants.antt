use mathlib.Core.Path.{◌≡◌}
use lib.ListN.{take}
use Rattle.std.specs.Prelude.{is_some}
use Rattle.pattern.specs.Pattern.{lists}
use Rattle.device.specs.Refusals.{number, outcome}
use Rattle.device_bank.specs.Bank.{devices_of}
use Rattle.device_bank.proofs.Rows.{row_of}
use Rattle.device_bank.proofs.lowest_row.Given as goal

abbrev pub invariant-loop-w : goal.invariant-loop-w
invariant-loop-w l = number (outcome l.row) ≡ row_of l.kind (lists l.pattern) (is_some l.tested) l.rows (devices_of (take l.w-index l.bank))
