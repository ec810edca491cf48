use Rattle.std.proofs.Common.{◌≡◌, drop}
use Rattle.replay.specs.Word.{words}
use Rattle.replay.proofs.script.word.from_word.Given as goal

abbrev pub invariant-loop : goal.invariant-loop
invariant-loop l = words l.rest ≡ drop l.counter (words l.line)
