-- Scaling: the parameters at a temperature, derived from the card alone, so that a second scaling does not compound the first.
use Rattle.std.specs.Prelude.{Bool, cond, ◌||◌, List, [], ◌∷◌, Float}
use Rattle.std.specs.Float.{binary64}
use Rattle.std.specs.Float.Ieee.{of_bits}
use Rattle.exact.specs.Float64.{◌⊗◌, ◌<f◌, +0}
use Rattle.temperature.specs.Temperature.{mos_junction_is_factor_of, mobility_factor_of, scaled_phi_of, scaled_junction_potential_of, junction_cap_factor_of, scaled_vto_of}
use Rattle.temperature.specs.declared.Kelvin.{Kelvin}
use Rattle.device.specs.Limits.{outside_temperatures}
use Rattle.device.specs.Refusals.{Row, unless, Outcome, refused, done, ◌when◌}
use Rattle.device.specs.Stages.{before}
use Rattle.device.specs.declared.Card.{Card}
use Rattle.device.specs.declared.Mosfet1.{Mosfet1}
use Rattle.device.specs.declared.Scaled.{Scaled}
use Rattle.device.specs.declared.Stage.{Stage}

-- the formulas of `setup_model`; a polarity below 0 is PMOS
abbrev pub scaled_at : Card → Kelvin → Scaled
scaled_at c t =
    let tnom = c.tnom in
    let phi_t = scaled_phi_of c.phi t tnom in
    record {
      isat_t_factor = mos_junction_is_factor_of t tnom;
      pb_t = scaled_junction_potential_of c.pb t tnom;
      cj_t_factor = junction_cap_factor_of c.pb c.mj t tnom;
      cjsw_t_factor = junction_cap_factor_of c.pb c.mjsw t tnom;
      vto_t = scaled_vto_of c.vto c.gamma c.phi phi_t t tnom (c.polarity <f +0);
      kp_t = c.kp ⊗ mobility_factor_of t tnom;
      phi_t = phi_t;
    }

-- 0.05
abbrev pub least_potential : Float
least_potential = of_bits binary64 0x3fa9_9999_9999_999a

-- row 7: scaled phi or pb below 0.05 V
abbrev pub potentials_low : Scaled → Bool
potentials_low s = (s.phi_t <f least_potential) || (s.pb_t <f least_potential)

-- a scaling is accepted at any later stage, and takes none back
abbrev pub scaled_stage : Stage → Stage
scaled_stage s = cond (before s Stage.Scaled) Stage.Scaled s

abbrev pub scaled_to : Mosfet1 → Scaled → Mosfet1
scaled_to d s =
    record {
      card = d.card;
      geometry = d.geometry;
      scaled = s;
      terminals = d.terminals;
      point = d.point;
      charges = d.charges;
      histories = d.histories;
      disc = d.disc;
      stage = scaled_stage d.stage;
    }

-- its refusals; row 10: before the geometry
abbrev pub scaling_rows : Mosfet1 → Kelvin → List Row
scaling_rows d t =
    (6 when outside_temperatures t) ∷ (7 when potentials_low (scaled_at d.card t)) ∷ (10 when before d.stage Stage.Geometry) ∷ []

-- the scaling call
unfoldable pub scaling_of : Mosfet1 → Kelvin → Outcome Mosfet1
scaling_of d t = unless (scaling_rows d t) refused (done (scaled_to d (scaled_at d.card t)))
