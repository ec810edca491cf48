-- Noise and reactances, from their arguments to the answer.
use Rattle.std.specs.Prelude.{cond, Float, Option, Some, None}
use Rattle.exact.specs.Float64.{◌⊕◌, ◌⊗◌, ◌≤f◌, ◌≠f◌, +0}
use Rattle.temperature.specs.declared.Kelvin.{Kelvin}
use Rattle.device.specs.Refusals.{unless, Outcome, done, refused}
use Rattle.device.specs.declared.NodeId.{NodeId}
use Rattle.device.specs.declared.Terminals.{Terminals}
use Rattle.device.specs.declared.Charges.{Charges}
use Rattle.device.specs.declared.Mosfet1.{Mosfet1}
use Rattle.noise.specs.Noise.{thermal_noise_of, flicker_noise_of}
use Rattle.rows.specs.Rows.{noise_rows, reactance_rows}
use Rattle.model.specs.declared.small_signal.NoiseSource.{NoiseSource}
use Rattle.model.specs.declared.small_signal.Capacitor.{Capacitor}
use Rattle.model.specs.declared.small_signal.Reactances.{Reactances}

-- thermal and flicker noise of the last evaluation; W L COX is (W L) COX
unfoldable pub density_of : Mosfet1 → Kelvin → Float → Float
density_of d t freq =
    thermal_noise_of d.point.gm t
    ⊕ flicker_noise_of d.card.kf d.card.af d.point.ids_eval freq (d.geometry.w ⊗ d.geometry.l ⊗ d.card.cox)

-- from drain to source; none where the density is not above 0; a NaN is a source
unfoldable pub source_of : Terminals → Float → Option NoiseSource
source_of t s = cond (s ≤f +0) None (Some (record { pos = t.drain; neg = t.source; density = s }))

unfoldable pub noise_of : Mosfet1 → Kelvin → Float → Outcome (Option NoiseSource)
noise_of d t freq = unless (noise_rows d.stage t) refused (done (source_of d.terminals (density_of d t freq)))

-- absent where the capacitance is zero; it can be negative
unfoldable pub reactance_of : NodeId → NodeId → Float → Option Capacitor
reactance_of a b c = cond (c ≠f +0) (Some (record { pos = a; neg = b; capacitance = c })) None

-- gs gd gb bs bd, with the capacitances of the last transient evaluation
unfoldable pub five_of : Terminals → Charges → Reactances
five_of t q = record {
  gs = reactance_of t.gate t.source q.cgs_eval;
  gd = reactance_of t.gate t.drain q.cgd_eval;
  gb = reactance_of t.gate t.bulk q.cgb_eval;
  bs = reactance_of t.bulk t.source q.cbs_eval;
  bd = reactance_of t.bulk t.drain q.cbd_eval;
}

unfoldable pub reactances_of : Mosfet1 → Outcome Reactances
reactances_of d = unless (reactance_rows d.stage) refused (done (five_of d.terminals d.charges))
