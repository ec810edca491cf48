-- Demand 3 for a bulk junction, over plain floats: what its loaded values return at the junction's voltage. Quotations are from document 01, "What demand 3 measures".
-- v0 is the node difference from the bulk to the source or the drain, isat "the rounded product of the current with its temperature factor", t the evaluation's temperature.
use Rattle.std.specs.Prelude.{ℕ, ◌^◌, ◌≡◌, ◌⊎◌, T, pos, Float}
use Rattle.std.specs.Float.Ieee.{neg}
use Rattle.std.specs.Float.Ieee.Scale.{finite}
use Rattle.exact.specs.Fraction.{ℚ, ◌//◌, nat, ◌+q◌, ◌-q◌, ◌*q◌, ◌/q◌, absq, ◌≤q◌, Within}
use Rattle.exact.specs.FloatValue.{value}
use Rattle.exact.specs.Float64.{◌⊗◌, +1}
use Rattle.exact.specs.Size.{AtMost, NonNegative, Range}
use Rattle.temperature.specs.declared.Kelvin.{Kelvin}
use Rattle.elementary.specs.Accuracy.{E, Enough}
use Rattle.junction.specs.Junction.{thermal_voltage_of, bulk_junction_of, junction_offset_of}
use Rattle.junction.specs.declared.Junction.{Junction}

-- ---- what the evaluation leaves
-- "v is the rounded node difference"; "junction voltages are that evaluation's, flipped"
abbrev pub junction_voltage : (pol v0 : Float) → Float
junction_voltage pol v0 = pol ⊗ v0

-- the current i and the conductance g, by the Level-1 definition
abbrev pub junction_at : (isat pol v0 : Float) (t : Kelvin) (gmin : Float) → Junction
junction_at isat pol v0 t gmin = bulk_junction_of isat (junction_voltage pol v0) (thermal_voltage_of t) gmin

-- the offset (ibs_eq, ibd_eq), turned back by the polarity
abbrev pub offset_at : (isat pol v0 : Float) (t : Kelvin) (gmin : Float) → Float
offset_at isat pol v0 t gmin = junction_offset_of pol (junction_at isat pol v0 t gmin).i (junction_at isat pol v0 t gmin).g (junction_voltage pol v0)

-- "conductance times v plus offset"; "polarity multiplies jeq and the offsets"
abbrev pub returned_current : (g offset pol v0 : Float) → ℚ
returned_current g offset pol v0 = value g *q value (junction_voltage pol v0) +q value pol *q value offset

-- ---- what it is measured against, with e for E
-- "E (below) is at the exact quotient of v by the rounded thermal voltage"
abbrev pub thermal_quotient : (pol v0 : Float) (t : Kelvin) → ℚ
thermal_quotient pol v0 t = value (junction_voltage pol v0) /q value (thermal_voltage_of t)

-- "against isat·(E − 1) + gmin·v"
abbrev pub exact_current : (isat gmin v : Float) → ℚ → ℚ
exact_current isat gmin v e = value isat *q (e -q nat 1) +q value gmin *q value v

-- "Scale: isat·(E + 1) plus the size of gmin·v"
abbrev pub current_scale : (isat gmin v : Float) → ℚ → ℚ
current_scale isat gmin v e = value isat *q (e +q nat 1) +q absq (value gmin *q value v)

-- demand 3: "within 2^-40 of each branch's scale plus 2^-900 A"
abbrev pub relative_error : ℚ
relative_error = 1 // 2 ^ 40

abbrev pub absolute_error : ℚ
absolute_error = 1 // 2 ^ 900

abbrev pub allowed_error : ℚ → ℚ
allowed_error scale = relative_error *q scale +q absolute_error

-- ---- premises
-- bounds that hold at every accepted evaluation
pub record JunctionSizes (isat pol v0 : Float) (t : Kelvin) (gmin : Float) : Type 0 where
  pub isat_sign : NonNegative isat
  pub isat_size : AtMost isat (pos 89)
  pub polarity : (pol ≡ +1) ⊎ (pol ≡ neg +1)
  pub v0_size : AtMost v0 (pos 11)
  pub t_range : Range t.0 (nat 200) (nat 500)
  pub gmin_range : Range gmin (nat 0) (nat 1)

-- "both junctions lie within ±500 thermal voltages"
abbrev pub greatest_quotient : ℚ
greatest_quotient = nat 500

pub record WithinThermalVoltages (pol v0 : Float) (t : Kelvin) : Type 0 where
  pub size : absq (value (junction_voltage pol v0)) ≤q greatest_quotient *q value (thermal_voltage_of t)

-- ---- the promise of a conductance g and an offset: both are finite and, multiplied out, return the current, whichever sum of 4,000 terms or more is taken for E
pub record JunctionReturns (g offset isat pol v0 : Float) (t : Kelvin) (gmin : Float) : Type 0 where
  pub conductance_finite : T (finite g)
  pub offset_finite : T (finite offset)
  pub close : (N : ℕ) → Enough N → let e = E N (thermal_quotient pol v0 t) in let v = junction_voltage pol v0 in
      Within (returned_current g offset pol v0) (exact_current isat gmin v e) (allowed_error (current_scale isat gmin v e))
