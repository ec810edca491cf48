use Rattle.std.proofs.Common.{length}
use Rattle.replay.specs.Lists.{items}
use Rattle.replay.proofs.script_lists.Filling.{Going}
use Rattle.replay.proofs.script_lists.list.Given as goal

abbrev pub invariant-loop-n : goal.invariant-loop-n
invariant-loop-n g l = Going g.T.Item.item (length l.initial.out) (items l.fn.w) l.initial.out (items l.rest) l.n l.out
