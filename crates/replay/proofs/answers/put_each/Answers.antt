use Rattle.std.proofs.Common.{◌++◌, arith, rules}
use Rattle.hex_text.proofs.Joining.{Written, further, finished, left_is}
use Rattle.replay.proofs.answers.Lists.{each_next, each_end}
use Rattle.replay.proofs.answers.put_each.Goals as goal

pub loop-x-preserved : goal.loop-x-preserved
loop-x-preserved g c =
    let A = c.args in let L = c.loop-x in let P = c.put_behind-n in
    let w : Written L.out L.n (A.before.now ++ g.T.Text.text c.x-item.result) P.result P.new.out = record { ends = P.ensures.value; holds = P.ensures.out_after } in
    further (left_is (each_next (λ y. A.before.now ++ g.T.Text.text y) A.xs.now L.x-index c.x-item.result (omega arith) c.x-item.is) L.invariant) w

pub returns : goal.returns
returns g c =
    let A = c.args in let L = c.loop-x in
    let all = finished (left_is (each_end (λ y. A.before.now ++ g.T.Text.text y) A.xs.now L.x-index (omega arith)) L.invariant) in
    record { value = all.ends; out_after = all.holds }
