use mathlib.Core.List.{[]}
use lib.Dec.{ltb}
use lib.ListN.{length}
use Rattle.std.proofs.Common.{refl, sym, ap, ◌∙◌}
use Rattle.std.proofs.lemmas.List.{length_push}
use Rattle.std.proofs.lemmas.Slice.Zip.{zip_turn, zip_end}
use Rattle.bridge_devices.specs.Steps.{lower}
use Rattle.bank_resolved.specs.Steps.{lowest_number}
use Rattle.bank_resolved.proofs.Numbers.{lower_0, none_left, one_more}
use Rattle.bank_resolved.proofs.lowest_number.Goals as goal

-- `bank_resolved::lowest_number`: the devices that have a list of cells, then whether one lacks it.

pub loop-w-init : goal.loop-w-init
loop-w-init c = lower_0 _

pub loop-w-preserved : goal.loop-w-preserved
loop-w-preserved c =
    let turn = zip_turn c.args.bank.now c.args.cells.now c.loop-w.yielded c.into_iter-w-iterator.result c.loop-w.w-iterator c.next.new.self c.next.result (cc) (cc) c.loop-w.yielded_by (c.in-Some.w, c.in-Some.list) c.in-Some.is c.next.ensures.steps in
    rw (length_push c.loop-w.yielded (c.in-Some.w, c.in-Some.list))
    (one_more c.args.transient c.args.alpha c.args.rows c.args.values (ltb (length c.args.cells.now) (length c.args.bank.now)) c.args.bank.now c.args.cells.now (length c.loop-w.yielded)
    c.number_of-own.result c.loop-w.number _ _ turn.0 turn.1 (c.number_of-own.ensures ∙ rw (turn.2 [], turn.3 []) refl) c.lower-number.ensures c.loop-w.invariant)

pub returns : goal.returns
unfolding lowest_number
returns c =
    let end = zip_end c.args.bank.now c.args.cells.now c.loop-w.yielded c.into_iter-w-iterator.result c.loop-w.w-iterator c.next.new.self c.next.result (cc) (cc) c.loop-w.yielded_by c.in-None.is c.next.ensures.steps in
    c.lower.ensures
    ∙ ap (lower c.loop-w.number) (c.lacking_row.ensures ∙ sym (none_left c.args.transient c.args.alpha c.args.rows c.args.values (ltb (length c.args.cells.now) (length c.args.bank.now)) c.args.bank.now c.args.cells.now (length c.loop-w.yielded) end))
    ∙ c.loop-w.invariant
