use Rattle.hex_text.proofs.Joining.{Written, joined}
use Rattle.replay.proofs.answers.put_behind.Goals as goal

pub returns : goal.returns
returns g c =
    let A = c.args in let P = c.put_text-n in let Q = c.put in
    let v : Written A.out.now A.at A.before.now P.result P.new.out = record { ends = P.ensures.value; holds = P.ensures.out_after } in
    let w : Written P.new.out P.result (g.T.Text.text A.x) Q.result Q.new.out = record { ends = Q.ensures.value; holds = Q.ensures.out_after } in
    let all = joined v w in
    record { value = all.ends; out_after = all.holds }
