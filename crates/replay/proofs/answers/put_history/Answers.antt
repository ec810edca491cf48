use mathlib.Core.List.{[], ◌∷◌}
use Rattle.hex_text.specs.Text.{number_text}
use Rattle.replay.specs.Text.{history_text, given_text}
use Rattle.hex_text.proofs.Joining.{Written, joined}
use Rattle.replay.proofs.answers.put_history.Goals as goal

pub returns : goal.returns
unfolding history_text
returns c =
    let A = c.args in
    let P1 = c.put_number-a in
    let P2 = c.put_text-b in
    let P3 = c.put_given-c in
    let P4 = c.put_text-d in
    let P5 = c.put_number in
    let v1 : Written A.out.now A.at (number_text A.h.q_prev) P1.result P1.new.out = record { ends = P1.ensures.value; holds = P1.ensures.out_after } in
    let v2 : Written P1.new.out P1.result (47 ∷ []) P2.result P2.new.out = record { ends = P2.ensures.value; holds = P2.ensures.out_after } in
    let v3 : Written P2.new.out P2.result (given_text A.h.q_prev2) P3.result P3.new.out = record { ends = P3.ensures.value; holds = P3.ensures.out_after } in
    let v4 : Written P3.new.out P3.result (47 ∷ []) P4.result P4.new.out = record { ends = P4.ensures.value; holds = P4.ensures.out_after } in
    let v5 : Written P4.new.out P4.result (number_text A.h.i_prev) P5.result P5.new.out = record { ends = P5.ensures.value; holds = P5.ensures.out_after } in
    let all = joined v1 (joined v2 (joined v3 (joined v4 v5))) in
    record { value = all.ends; out_after = all.holds }
