use native.Mathlib.Omega.{arith}
use lib.ListN.{length}
use Rattle.std.proofs.Common.{refl, sym, ◌∙◌}
use Rattle.pattern.specs.Pattern.{lists}
use Rattle.device_bank.proofs.InTurn.{all_passed, pattern_well, here_accepted, later_passed, one_turn, last_turn}
use Rattle.device_bank.proofs.add_devices.Goals as goal

-- `device_bank::add_devices`: device by device, each load accepted because no row applies to any.

pub invariant_of-tested : goal.invariant_of-tested
invariant_of-tested c = record { fits = pattern_well c.args.bank.now c.args.kind (lists c.args.pattern) (length c.args.rhs.now) (length c.args.values.now) c.requires }

pub loop-w-init : goal.loop-w-init
loop-w-init c = record { passed = all_passed c.args.bank.now c.args.kind (lists c.args.pattern) (length c.args.rhs.now) (length c.args.values.now) c.requires; loaded = refl }

pub add_device-requires : goal.add_device-requires
add_device-requires c =
    here_accepted c.args.bank.now c.loop-w.w-index (omega arith) c.device_of.result c.device_of.ensures c.args.kind (lists c.args.pattern)
    (length c.args.rhs.now) (length c.args.values.now) c.loop-w.invariant.passed c.loop-w.rhs c.loop-w.values c.loop-w.auto.rhs c.loop-w.auto.values

pub loop-w-preserved : goal.loop-w-preserved
loop-w-preserved c = record {
  passed = later_passed c.args.bank.now c.loop-w.w-index (omega arith) c.device_of.result c.device_of.ensures c.args.kind (lists c.args.pattern) (length c.args.rhs.now) (length c.args.values.now) c.loop-w.invariant.passed;
  loaded = c.loop-w.invariant.loaded
      ∙ one_turn c.args.bank.now c.loop-w.w-index (omega arith) c.device_of.result c.device_of.ensures c.args.kind (lists c.args.pattern) c.loop-w.rhs c.loop-w.values _ _ c.add_device.ensures;
}

pub returns : goal.returns
returns c =
    sym (c.loop-w.invariant.loaded ∙ last_turn c.args.bank.now c.loop-w.w-index c.args.kind (lists c.args.pattern) (record { side = c.loop-w.rhs; matrix = c.loop-w.values }) (omega arith))
