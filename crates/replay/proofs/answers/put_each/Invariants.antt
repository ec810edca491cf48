use Rattle.std.proofs.Common.{◌++◌, drop}
use Rattle.replay.specs.Text.{each_by}
use Rattle.hex_text.proofs.Joining.{Left}
use Rattle.replay.proofs.answers.put_each.Given as goal

abbrev pub invariant-loop-x : goal.invariant-loop-x
invariant-loop-x g l = Left l.initial.out l.fn.at (each_by (λ y. l.fn.before ++ g.T.Text.text y) l.fn.xs) l.out l.n (each_by (λ y. l.fn.before ++ g.T.Text.text y) (drop l.x-index l.fn.xs))
