use Rattle.std.proofs.Common.{◌≡◌, ◌+◌, length}
use Rattle.replay.specs.Word.{words}
use Rattle.replay.proofs.script.word.word_count.Given as goal

abbrev pub invariant-loop-behind : goal.invariant-loop-behind
invariant-loop-behind l = l.n + length (words l.rest) ≡ length (words l.line)

abbrev pub decreases-loop-behind : goal.decreases-loop-behind
decreases-loop-behind l = length (words l.rest)
