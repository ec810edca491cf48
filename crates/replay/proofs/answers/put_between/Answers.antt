use mathlib.Core.List.{[], ◌∷◌}
use Rattle.hex_text.specs.Text.{number_text}
use Rattle.replay.specs.Text.{between_text, node_text}
use Rattle.hex_text.proofs.Joining.{Written, joined}
use Rattle.replay.proofs.answers.put_between.Goals as goal

pub returns : goal.returns
unfolding between_text
returns c =
    let A = c.args in
    let P1 = c.put_text-a in
    let P2 = c.put_node-b in
    let P3 = c.put_text-c in
    let P4 = c.put_node-d in
    let P5 = c.put_text-e in
    let P6 = c.put_number in
    let v1 : Written A.out.now A.at (32 ∷ []) P1.result P1.new.out = record { ends = P1.ensures.value; holds = P1.ensures.out_after } in
    let v2 : Written P1.new.out P1.result (node_text A.pos) P2.result P2.new.out = record { ends = P2.ensures.value; holds = P2.ensures.out_after } in
    let v3 : Written P2.new.out P2.result (58 ∷ []) P3.result P3.new.out = record { ends = P3.ensures.value; holds = P3.ensures.out_after } in
    let v4 : Written P3.new.out P3.result (node_text A.neg) P4.result P4.new.out = record { ends = P4.ensures.value; holds = P4.ensures.out_after } in
    let v5 : Written P4.new.out P4.result (58 ∷ []) P5.result P5.new.out = record { ends = P5.ensures.value; holds = P5.ensures.out_after } in
    let v6 : Written P5.new.out P5.result (number_text A.x) P6.result P6.new.out = record { ends = P6.ensures.value; holds = P6.ensures.out_after } in
    let all = joined v1 (joined v2 (joined v3 (joined v4 (joined v5 v6)))) in
    record { value = all.ends; out_after = all.holds }
