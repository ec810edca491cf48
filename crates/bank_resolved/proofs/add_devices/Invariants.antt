use mathlib.Core.Path.{◌≡◌}
use lib.ListN.{length, drop}
use Rattle.record_loading.specs.Load.{kind_from}
use Rattle.bank_resolved.specs.Resolved.{celled_of, load_celled_in_order}
use Rattle.bank_resolved.proofs.InTurn.{Passed}
use Rattle.bank_resolved.proofs.add_devices.Given as goal

abbrev pub invariant-loop-w : goal.invariant-loop-w
invariant-loop-w l = record {
  passed : Passed (celled_of (drop (length l.yielded) l.bank) (drop (length l.yielded) l.cells)) (kind_from l.transient l.alpha) (length l.initial.rhs) (length l.initial.values);
  loaded : load_celled_in_order (kind_from l.transient l.alpha) (celled_of l.bank l.cells) (record { side = l.initial.rhs; matrix = l.initial.values })
      ≡ load_celled_in_order (kind_from l.transient l.alpha) (celled_of (drop (length l.yielded) l.bank) (drop (length l.yielded) l.cells)) (record { side = l.rhs; matrix = l.values });
}
