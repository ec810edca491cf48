use Rattle.std.proofs.Common.{◌≡◌, ℕ, Option, true, false, Some, None, length, refl, sym, ◌∙◌, arith, rules}
use Rattle.std.proofs.lemmas.Option.{MatchOption-at_some, MatchOption-at_none}
use Rattle.replay.specs.Lists.{items, is_empty_list, count_of}
use Rattle.replay.proofs.script_lists.Filling.{Read, begun, further, finished, not_read, no_place, empty_read, list_read}
use Rattle.replay.proofs.script_lists.list.Goals as goal

pub returns-then-eq : goal.returns-then-eq
returns-then-eq g c =
    let A = c.args in let f : is_empty_list A.w.now ≡ true = search rules in
    let R = empty_read g.T.Item.item (length A.out.now) A.w.now A.out.now f in record { value = R.count; out_after = R.left }

pub returns-in_err-out : goal.returns-in_err-out
returns-in_err-out g c =
    let A = c.args in let L = c.loop-n in let f : is_empty_list A.w.now ≡ false = search rules in
    let i : g.T.Item.item c.first_item.result.0.now ≡ None = search rules in
    let R = list_read f (not_read L.rest.now c.first_item.result.0.now c.first_item.result.1 L.invariant c.first_item.ensures (omega arith) i) in
    let n : ◌≡◌ {A = Option ℕ} None (count_of g.T.Item.item (length A.out.now) A.w.now) = R.count in
    record { value = cc; out_after = R.left }

pub returns-in-None : goal.returns-in-None
returns-in-None g c =
    let A = c.args in let L = c.loop-n in let f : is_empty_list A.w.now ≡ false = search rules in
    let i : g.T.Item.item c.first_item.result.0.now ≡ Some c.in_ok-out.field-0 = search rules in
    let R = list_read f (finished (further L.invariant (MatchOption-at_none _ _ c.in-None.is c.first_item.ensures) (omega arith) c.in_ok-out.field-0 i) refl) in record { value = R.count; out_after = R.left }

pub loop-n-preserved : goal.loop-n-preserved
loop-n-preserved g c =
    let L = c.loop-n in
    let i : g.T.Item.item c.first_item.result.0.now ≡ Some c.in_ok-out.field-0 = search rules in
    further L.invariant (MatchOption-at_some _ _ c.in-Some.s c.in-Some.is c.first_item.ensures) (omega arith) c.in_ok-out.field-0 i

pub returns : goal.returns
returns g c =
    let A = c.args in let L = c.loop-n in let f : is_empty_list A.w.now ≡ false = search rules in
    let R = list_read f (no_place L.rest.now L.invariant (omega arith)) in record { value = R.count; out_after = R.left }
