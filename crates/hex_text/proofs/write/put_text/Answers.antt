use Rattle.std.proofs.Common.{◌≡◌, [], drop, arith}
use Rattle.std.proofs.lemmas.List.{drop_more, drop_all}
use Rattle.hex_text.proofs.Joining.{one_byte, further, finished, left_is}
use Rattle.hex_text.proofs.write.put_text.Goals as goal

pub loop-b-preserved : goal.loop-b-preserved
loop-b-preserved c =
    let P = c.put_byte-n.ensures in
    further (left_is (drop_more c.args.text.now c.loop-b.b-index 0 (omega arith)) c.loop-b.invariant) (one_byte P.value P.out_after)

pub returns : goal.returns
returns c =
    let none : drop c.loop-b.b-index c.args.text.now ≡ [] = drop_all c.loop-b.b-index c.args.text.now (omega arith) in
    let W = finished (left_is none c.loop-b.invariant) in record { value = W.ends; out_after = W.holds }
