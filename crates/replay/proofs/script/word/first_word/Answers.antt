use Rattle.std.proofs.Common.{◌≡◌, ◌<◌, List, ℕ, ◌∷◌, length, position, eqb, arith, tests, ◌∙◌, sym, ap, ap₂}
use Rattle.std.specs.Option.{unwrap_or}
use Rattle.replay.specs.Word.{words}
use Rattle.replay.proofs.script.Words.{no_word, word_first}
use Rattle.replay.proofs.script.word.first_word.Goals as goal

pub returns-then-is_empty : goal.returns-then-is_empty
returns-then-is_empty c =
    let rest = c.trimmed-rest in
    let empty : length rest.result.now ≡ 0 = grind (arith, tests) in
    no_word c.args.line.now rest.result.now rest.ensures empty

pub returns : goal.returns
returns c =
    let rest = c.trimmed-rest in
    let some_left : 0 < length rest.result.now = grind (arith, tests) in
    let end : c.unwrap_or-end.result ≡ unwrap_or (position (λ b. eqb b 32) rest.result.now) (length rest.result.now) = c.unwrap_or-end.ensures ∙ ap (λ o. unwrap_or o (length rest.result.now)) c.place_of.ensures.value in
    word_first c.args.line.now rest.result.now rest.ensures c.unwrap_or-end.result some_left end
    ∙ sym (ap₂ (λ (word behind : List ℕ). word ∷ words behind) c.split_at.ensures.front c.split_at.ensures.back)
