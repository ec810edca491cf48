use mathlib.Core.Bool.{false}
use native.Mathlib.Omega.{arith}
use Rattle.device.specs.Stages.{unbound}
use Rattle.loading.specs.Loading.{nodes_outside}
use Rattle.loading.proofs.Rows.{outside_len, outside_rows}
use Rattle.loading.proofs.nodes_outside.Goals as goal
-- `loading::nodes_outside`: row 8, by the smaller length.
use mathlib.Core.Path.{◌≡◌, sym, ◌∙◌}

pub returns-then-is_unbound : goal.returns-then-is_unbound
unfolding nodes_outside
returns-then-is_unbound c = rw (← c.is_unbound.ensures, c.if-is_unbound.true)

pub returns-then-len-rows : goal.returns-then-len-rows
returns-then-len-rows c =
    let bound : unbound c.args.stage ≡ false = sym c.is_unbound.ensures ∙ c.if-is_unbound.false in
    c.any_beyond.ensures ∙ outside_len c.args.stage c.args.t c.args.len c.args.rows bound (omega (arith, c.if-len-rows.true))

pub returns : goal.returns
returns c =
    let bound : unbound c.args.stage ≡ false = sym c.is_unbound.ensures ∙ c.if-is_unbound.false in
    c.any_beyond-2.ensures ∙ outside_rows c.args.stage c.args.t c.args.len c.args.rows bound c.if-len-rows.false
