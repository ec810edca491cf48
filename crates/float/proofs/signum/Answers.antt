use Rattle.std.proofs.Common.{sym, ◌∙◌}
use Rattle.float.proofs.Signs.{below_sign, above_sign, nan_sign, zero_below_sign, zero_above_sign}
use Rattle.float.proofs.signum.Goals as goal

pub returns-then-x : goal.returns-then-x
returns-then-x c = below_sign _ c.if-x.true

pub returns-then-x-2 : goal.returns-then-x-2
returns-then-x-2 c = above_sign _ c.if-x-2.true

pub returns-then-is_nan : goal.returns-then-is_nan
returns-then-is_nan c = nan_sign _ (sym c.is_nan.ensures.value ∙ c.if-is_nan.true)

pub returns-then-x-3 : goal.returns-then-x-3
returns-then-x-3 c = zero_below_sign _ c.if-x-2.false c.if-x-3.true

pub returns : goal.returns
returns c = zero_above_sign _ c.if-x.false (sym c.is_nan.ensures.value ∙ c.if-is_nan.false) c.if-x-3.false
