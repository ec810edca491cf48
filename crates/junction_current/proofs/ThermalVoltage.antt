-- device.rs's thermal voltage from 200 to 500 K: between 17/1024 and 45/1024 V.
use Prim.Native.Nat.{◌^◌}
use Rattle.temperature.specs.declared.Kelvin.{Kelvin}
use Rattle.exact.specs.Fraction.{◌//◌, nat}
use Rattle.exact.specs.Size.{Range}
use Rattle.exact.proofs.FractionLaws.{lit_≤}
use Rattle.exact.proofs.StrictOrder.{lit_<}
use Rattle.exact.proofs.Computing.{computing}
use Rattle.exact.proofs.Representable.{representable}
use Rattle.exact.proofs.Ranges.{range_point, range_⊗_nonneg, range_⊘}
use Rattle.float.specs.Constants.{k_boltzmann, q_electron}
use Rattle.junction.specs.Junction.{thermal_voltage_of}

pub thermal_voltage_range : (t : Kelvin) → Range t.0 (nat 200) (nat 500) → Range (thermal_voltage_of t) (17 // 1024) (45 // 1024)
unfolding thermal_voltage_of computing
thermal_voltage_range t R =
    let kt = range_⊗_nonneg {lo = 13 // 2 ^ 72} {hi = 33 // 2 ^ 72} (range_point k_boltzmann tt) R (representable tt) (representable tt) (lit_≤ tt) (lit_≤ tt) (lit_≤ tt) (lit_≤ tt) in
    range_⊘ {lo = 17 // 1024} {hi = 45 // 1024} kt (range_point q_electron tt) (representable tt) (representable tt) (lit_< tt) (lit_≤ tt) (lit_≤ tt) (lit_≤ tt) (lit_≤ tt)
