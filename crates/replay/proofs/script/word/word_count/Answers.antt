use Rattle.std.proofs.Common.{arith, ap, length}
use Rattle.replay.proofs.script.Words.{few_words}
use Rattle.replay.proofs.script.word.word_count.Goals as goal

pub overflow_add-n : goal.overflow_add-n
overflow_add-n c = omega (arith, few_words c.args.line.now, ap length c.in-Some.ensures)
