-- Where the OR of the six indices is below both row counts, row 8 does not apply.
use Rattle.std.proofs.Common.{◌≡◌, ℕ, ◌<◌, ◌≤◌, Bool, true, false, not, ◌&&◌, ◌||◌, refl, arith}
use Rattle.device.specs.Nodes.{any_node_beyond}
use Rattle.device.specs.Stages.{unbound}
use Rattle.device.specs.declared.Stage.{Stage}
use Rattle.loading.specs.Loading.{nodes_outside}
use Rattle.record.specs.declared.TerminalsRecord.{TerminalsRecord}
use Rattle.from_record.specs.Devices.{terminals_from}
use Rattle.from_record.specs.Inside.{indices_or}
use Rattle.from_record.proofs.Inside.{none_beyond}

neither_outside : (b x y : Bool) → x ≡ false → y ≡ false → (not b && (x || y)) ≡ false
neither_outside true x y p q = refl
neither_outside false x y p q = rw (p, q)

pub inside : (stage : Stage) (t : TerminalsRecord) (n len rows : ℕ) → n ≤ len → n ≤ rows → indices_or t < n
    → nodes_outside stage (terminals_from t) len rows ≡ false
unfolding nodes_outside
inside stage t n len rows g h e =
    neither_outside (unbound stage) (any_node_beyond len (terminals_from t)) (any_node_beyond rows (terminals_from t))
    (none_beyond t len (omega (arith, g, e))) (none_beyond t rows (omega (arith, h, e)))
