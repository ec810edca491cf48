use native.Mathlib.Omega.{arith}
use mathlib.Core.List.{[]}
use lib.ListN.{length}
use Rattle.std.proofs.Common.{refl, sym, ◌∙◌}
use Rattle.std.proofs.lemmas.List.{length_push}
use Rattle.std.proofs.lemmas.Slice.Zip.{zip_turn, zip_end}
use Rattle.record_loading.specs.Load.{kind_from}
use Rattle.bank_resolved.proofs.InTurn.{all_passed, enough_cells, here_accepted, later_passed, one_turn, last_turn}
use Rattle.bank_resolved.proofs.add_devices.Goals as goal

-- `bank_resolved::add_devices`: device by device, each load accepted because no row applies to any.

pub loop-w-init : goal.loop-w-init
loop-w-init c = record { passed = all_passed c.args.bank.now (kind_from c.args.transient c.args.alpha) c.args.cells.now (length c.args.rhs.now) (length c.args.values.now) c.requires.1.1; loaded = refl }

pub add_device-requires : goal.add_device-requires
add_device-requires c =
    let turn = zip_turn c.args.bank.now c.args.cells.now c.loop-w.yielded c.into_iter-w-iterator.result c.loop-w.w-iterator c.next.new.self c.next.result (cc) (cc) c.loop-w.yielded_by (c.in-Some.w, c.in-Some.list) c.in-Some.is c.next.ensures.steps in
    rw (turn.2 [], turn.3 [], c.loop-w.auto.rhs, c.loop-w.auto.values)
    (here_accepted c.args.bank.now c.args.cells.now c.args.transient c.args.alpha c.requires.0 c.requires.1.0 (length c.loop-w.yielded) turn.0 turn.1 _ _ c.loop-w.invariant.passed)

pub loop-w-preserved : goal.loop-w-preserved
loop-w-preserved c =
    let turn = zip_turn c.args.bank.now c.args.cells.now c.loop-w.yielded c.into_iter-w-iterator.result c.loop-w.w-iterator c.next.new.self c.next.result (cc) (cc) c.loop-w.yielded_by (c.in-Some.w, c.in-Some.list) c.in-Some.is c.next.ensures.steps in
    let n = length c.loop-w.yielded in
    rw (length_push c.loop-w.yielded (c.in-Some.w, c.in-Some.list))
    (record {
      passed = later_passed c.args.bank.now c.args.cells.now c.args.transient c.args.alpha c.requires.0 c.requires.1.0 n turn.0 turn.1 _ _ c.loop-w.invariant.passed;
      loaded = c.loop-w.invariant.loaded
          ∙ one_turn c.args.bank.now c.args.cells.now c.args.transient c.args.alpha c.requires.0 c.requires.1.0 n turn.0 turn.1 c.loop-w.rhs c.loop-w.values _ _
          (c.add_device.ensures.0 ∙ rw (turn.2 [], turn.3 []) refl) (c.add_device.ensures.1 ∙ rw (turn.2 [], turn.3 []) refl);
    })

pub returns : goal.returns
returns c =
    let end = zip_end c.args.bank.now c.args.cells.now c.loop-w.yielded c.into_iter-w-iterator.result c.loop-w.w-iterator c.next.new.self c.next.result (cc) (cc) c.loop-w.yielded_by c.in-None.is c.next.ensures.steps in
    let enough = enough_cells c.args.bank.now (kind_from c.args.transient c.args.alpha) c.args.cells.now (length c.args.rhs.now) (length c.args.values.now) c.requires.1.1 in
    sym (c.loop-w.invariant.loaded ∙ last_turn c.args.bank.now c.args.cells.now (length c.loop-w.yielded) (kind_from c.args.transient c.args.alpha) (record { side = c.loop-w.rhs; matrix = c.loop-w.values }) (omega (arith, end, enough)))
