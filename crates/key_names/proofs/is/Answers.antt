use Prim.Native.Nat.{◌+◌}
use native.Mathlib.Omega.{arith}
use mathlib.Core.Bool.{Bool, ◌&&◌}
use lib.ListN.{drop}
use Rattle.std.specs.Str.{str_eq_ignore_ascii_case}
use Rattle.key_names.proofs.Spelling.{case_step, case_end}
use Rattle.key_names.proofs.is.Goals as goal
-- `key_names::is` meets its contract.
-- Assumes nothing.
use mathlib.Core.Path.{◌∙◌, sym, ap}

pub returns-then-not-is_byte : goal.returns-then-not-is_byte
returns-then-not-is_byte c =
    let k = c.args.key.now in
    let n = c.args.name.now in
    let i = c.loop-i.i in
    sym (c.loop-i.invariant ∙ case_step k n i (omega arith) (omega arith) ∙ ap (λ (b : Bool). b && str_eq_ignore_ascii_case (drop (i + 1) k) (drop (i + 1) n)) (sym c.is_byte.ensures ∙ c.if-not-is_byte.true))

pub loop-i-preserved : goal.loop-i-preserved
loop-i-preserved c =
    let k = c.args.key.now in
    let n = c.args.name.now in
    let i = c.loop-i.i in
    c.loop-i.invariant ∙ case_step k n i (omega arith) (omega arith) ∙ ap (λ (b : Bool). b && str_eq_ignore_ascii_case (drop (i + 1) k) (drop (i + 1) n)) (sym c.is_byte.ensures ∙ c.if-not-is_byte.false)

pub returns : goal.returns
returns c = sym (c.loop-i.invariant ∙ case_end _ _ c.loop-i.i (omega arith) (omega arith))
