use Rattle.std.specs.Prelude.{Float}
use Rattle.std.specs.Prelude.{Option, Some, None}
use mathlib.Core.Path.{◌≡◌, sym, ◌∙◌, ap}
use mathlib.Core.List.{[], ◌∷◌}
use lib.ListN.{length}
use Rattle.hex_text.specs.Text.{end_of, text_at, number_text}
use Rattle.replay.specs.Text.{given_text}
use Rattle.hex_text.proofs.Joining.{Written}
use Rattle.replay.proofs.answers.put_given.Goals as goal

pub returns-in-None : goal.returns-in-None
unfolding given_text
returns-in-None c =
    let A = c.args in
    let P1 = c.put_text in
    let v1 : Written A.out.now A.at (110 ∷ 111 ∷ 110 ∷ 101 ∷ []) P1.result P1.new.out = record { ends = P1.ensures.value; holds = P1.ensures.out_after } in
    let all = v1 in
    let e : A.given ≡ None = c.in-None.is in
    record { value = all.ends ∙ ap (λ (q : Option Float). end_of (length A.out.now) A.at (given_text q)) (sym e); out_after = all.holds ∙ ap (λ (q : Option Float). text_at A.out.now A.at (given_text q)) (sym e) }

pub returns-in-Some : goal.returns-in-Some
unfolding given_text
returns-in-Some c =
    let A = c.args in
    let P1 = c.put_number in
    let v1 : Written A.out.now A.at (number_text c.in-Some.x) P1.result P1.new.out = record { ends = P1.ensures.value; holds = P1.ensures.out_after } in
    let all = v1 in
    let e : A.given ≡ Some c.in-Some.x = c.in-Some.is in
    record { value = all.ends ∙ ap (λ (q : Option Float). end_of (length A.out.now) A.at (given_text q)) (sym e); out_after = all.holds ∙ ap (λ (q : Option Float). text_at A.out.now A.at (given_text q)) (sym e) }
