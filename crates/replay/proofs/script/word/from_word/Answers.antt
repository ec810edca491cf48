use Rattle.std.proofs.Common.{◌≡◌, drop, arith, ◌∙◌, ap}
use Rattle.replay.specs.Word.{words}
use Rattle.replay.proofs.script.Words.{trimmed_words, next_words, none_left}
use Rattle.replay.proofs.script.word.from_word.Goals as goal

pub loop-preserved : goal.loop-preserved
loop-preserved c = next_words c.args.line.now c.loop.rest.now _ c.in-Some.behind.now c.loop.counter c.loop.invariant c.in-Some.ensures

pub returns-in-None : goal.returns-in-None
returns-in-None c = none_left c.args.line.now c.loop.rest.now c.loop.counter c.args.k c.loop.invariant c.in-None.ensures (omega arith)

pub returns : goal.returns
returns c =
    let all : c.loop.counter ≡ c.args.k = omega arith in
    ap words c.trimmed.ensures ∙ trimmed_words c.loop.rest.now ∙ c.loop.invariant ∙ ap (λ n. drop n (words c.args.line.now)) all
