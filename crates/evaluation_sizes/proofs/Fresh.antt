-- A device as an accepted card returns it is in its bounds: everything that evaluations and commits leave is 0.
use mathlib.Core.Path.{◌≡◌, sym, subst}
use lib.IntN.{pos}
use Rattle.exact.specs.Fraction.{nat}
use Rattle.exact.specs.Float64.{+0}
use Rattle.exact.specs.Size.{AtMost}
use Rattle.exact.proofs.Computing.{computing}
use Rattle.exact.proofs.Sizes.{constant_at_most}
use Rattle.temperature_sizes.proofs.Intervals.{constant_in}
use Rattle.device.specs.declared.Discretisation.TheVariants.{None}
use Rattle.device.specs.declared.Mosfet1.{Mosfet1}
use Rattle.card.specs.Card.{fresh_point, fresh_charges, no_history, fresh_histories}
use Rattle.evaluation_sizes.specs.Arguments.{MethodSizes, none}
use Rattle.evaluation_sizes.specs.EvaluationSizes.{PointSizes, EvaluatedGate, ChargeSize, ChargesSizes, absent, HistorySizes, HistoriesSizes, StateSizes}

volts : AtMost +0 (pos 11)
unfolding computing
volts = constant_at_most 0 (pos 11) tt

gate : EvaluatedGate +0
unfolding computing
gate = constant_in 0 (nat 0) (nat 4) tt

gate_charge : AtMost +0 (pos 14)
unfolding computing
gate_charge = constant_at_most 0 (pos 14) tt

junction : AtMost +0 (pos 160)
unfolding computing
junction = constant_at_most 0 (pos 160) tt

charge : ChargeSize +0
unfolding computing
charge = constant_at_most 0 (pos 170) tt

pub fresh_point_lem : PointSizes fresh_point
fresh_point_lem = record { vgs = volts; vds = volts }

pub fresh_charges_lem : ChargesSizes fresh_charges
fresh_charges_lem = record {
  cgs = gate;
  cgd = gate;
  cgb = gate;
  q_gs = gate_charge;
  q_gd = gate_charge;
  q_gb = gate_charge;
  vbs = volts;
  vbd = volts;
  cbs = junction;
  cbd = junction;
  q_bs = charge;
  q_bd = charge;
}

no_history_lem : HistorySizes no_history
no_history_lem = record { last = charge; earlier = absent }

pub fresh_histories_lem : HistoriesSizes fresh_histories
fresh_histories_lem = record { gs = no_history_lem; gd = no_history_lem; gb = no_history_lem; bs = no_history_lem; bd = no_history_lem }

pub fresh_sizes_lem : (d : Mosfet1) → d.point ≡ fresh_point → d.charges ≡ fresh_charges → d.histories ≡ fresh_histories → d.disc ≡ None → StateSizes d
fresh_sizes_lem d p c h m = record {
  point = subst PointSizes (sym p) fresh_point_lem;
  charges = subst ChargesSizes (sym c) fresh_charges_lem;
  histories = subst HistoriesSizes (sym h) fresh_histories_lem;
  method = subst MethodSizes (sym m) none;
}
