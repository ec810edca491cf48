use native.Mathlib.Omega.{arith}
use Prim.Native.Nat.{ℕ}
use mathlib.Core.List.{List}
use lib.Ieee.{Float}
use Rattle.std.proofs.Common.{sym, ap, ◌∙◌}
use Rattle.std.proofs.lemmas.List.{take_all}
use Rattle.std.specs.Prelude.{is_some}
use Rattle.pattern.specs.Pattern.{lists}
use Rattle.device_bank.specs.Bank.{devices_of}
use Rattle.device_bank.proofs.Rows.{row_of, none_asked, row_more, all_rows}
use Rattle.device_bank.proofs.lowest_row.Goals as goal

-- `device_bank::lowest_row`: from the first device to the last.

pub loop-w-init : goal.loop-w-init
loop-w-init c = none_asked c.args.kind (lists c.args.pattern) (is_some c.tested-tested.result) c.args.rows c.args.bank.now _ c.pattern_row-row.ensures

pub loop-w-preserved : goal.loop-w-preserved
loop-w-preserved c =
    row_more c.args.kind (lists c.args.pattern) (is_some c.tested-tested.result) c.args.rows c.args.bank.now c.loop-w.w-index _ _ _ _ (omega arith)
    c.device_of.ensures c.device_row-own.ensures c.loop-w.invariant c.lower-row.ensures

pub returns : goal.returns
returns c =
    c.loop-w.invariant
    ∙ ap (λ (ws : List (List Float)). row_of c.args.kind (lists c.args.pattern) (is_some c.tested-tested.result) c.args.rows (devices_of ws)) (take_all c.loop-w.w-index c.args.bank.now (omega arith))
    ∙ all_rows c.args.bank.now c.args.kind (lists c.args.pattern) c.args.rows c.args.values (is_some c.tested-tested.result) c.tested-tested.ensures.answer
