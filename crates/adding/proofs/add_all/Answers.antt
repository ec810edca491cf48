use mathlib.Core.List.{List}
use lib.Ieee.{Float, nan}
use lib.ListN.{length, drop}
use Prim.Native.Nat.{◌+◌}
use Rattle.std.proofs.lemmas.List.{length_push}
use Rattle.std.proofs.lemmas.Slice.Zip.{zip_turn, zip_end}
use Rattle.adding.specs.Adding.{add_all}
use Rattle.adding.proofs.Adding.{add_more, add_end}
use Rattle.adding.proofs.add_all.Goals as goal
-- `adding::add_all`: what is left to add, added to the present list, is all added to the list at entry.
use mathlib.Core.Path.{refl, sym, ap, ◌∙◌}

pub loop-place-init : goal.loop-place-init
loop-place-init c = refl

pub loop-place-preserved : goal.loop-place-preserved
loop-place-preserved c =
    let turn = zip_turn c.args.places.now c.args.values.now c.loop-place.yielded c.into_iter-place-iterator.result c.loop-place.place-iterator c.next.new.self c.next.result (cc) (cc) c.loop-place.yielded_by (c.in-Some.place, c.in-Some.value) c.in-Some.is c.next.ensures.steps in
    let n = length c.loop-place.yielded in
    let added = c.add_at.ensures ∙ rw (turn.2 0, turn.3 nan) refl in
    rw (length_push c.loop-place.yielded (c.in-Some.place, c.in-Some.value))
    (c.loop-place.invariant
    ∙ add_more c.loop-place.xs c.args.places.now c.args.values.now n turn.0 turn.1
    ∙ ap (λ (xs : List Float). add_all xs (drop (n + 1) c.args.places.now) (drop (n + 1) c.args.values.now)) (sym added))

pub returns : goal.returns
returns c =
    let end = zip_end c.args.places.now c.args.values.now c.loop-place.yielded c.into_iter-place-iterator.result c.loop-place.place-iterator c.next.new.self c.next.result (cc) (cc) c.loop-place.yielded_by c.in-None.is c.next.ensures.steps in
    sym (c.loop-place.invariant ∙ add_end c.loop-place.xs c.args.places.now c.args.values.now (length c.loop-place.yielded) end)
