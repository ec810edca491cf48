use native.Mathlib.Omega.{arith}
use lib.ListN.{length}
use Rattle.record_words.specs.Words.{record_of}
use Rattle.record_resolved.proofs.Loaded.{loaded}
use Rattle.bank_resolved.proofs.add_device.Goals as goal
-- `bank_resolved::add_device`: both steps together are the load.
use mathlib.Core.Path.{◌≡◌, sym}

-- the lengths do not change
pub add_charges-requires : goal.add_charges-requires
add_charges-requires c =
    let er : length c.add_static.new.rhs ≡ length c.args.rhs.now = omega arith in
    let em : length c.add_static.new.values ≡ length c.args.values.now = omega arith in
    rw (er, em) c.requires

pub returns : goal.returns
returns c =
    let static = c.add_static.ensures in
    let charges = c.add_charges.ensures in
    (loaded (record_of c.args.w.now) c.args.transient c.args.alpha c.args.cells.now c.args.rhs.now c.args.values.now 0 _ _ _ _ (omega arith) (sym c.requires) static.0 static.1 charges.0 charges.1).1
