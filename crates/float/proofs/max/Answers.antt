use Rattle.std.proofs.Common.{◌≡◌, true, false}
use lib.Ieee.{is_nan}
use Rattle.float.proofs.Signs.{max_first, max_of_nan, max_second}
use Rattle.float.proofs.max.Goals as goal
use Rattle.float.proofs.max.Goals.{then-x-y, else-x-y}

pub returns-then-is_nan : goal.returns-then-is_nan
returns-then-is_nan c = elim c.if-x-y.branch [
  | then-x-y w ↦ max_first _ _ w.if-x-y.true
  | else-x-y w ↦ let n : is_nan c.args.y ≡ true = cc (w.is_nan.ensures.value, w.value-is, c.if-is_nan.true) in max_of_nan _ _ n
]

pub returns-else-is_nan : goal.returns-else-is_nan
returns-else-is_nan c = elim c.if-x-y.branch [
  | then-x-y w ↦ cc (w.value-is, c.if-is_nan.false)
  | else-x-y w ↦ let n : is_nan c.args.y ≡ false = cc (w.is_nan.ensures.value, w.value-is, c.if-is_nan.false) in max_second _ _ w.if-x-y.false n
]
