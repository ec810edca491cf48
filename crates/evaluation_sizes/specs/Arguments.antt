-- What the arguments of an accepted evaluation and of an accepted commit satisfy: the opposite of document 01's refusals.
use Rattle.std.specs.Prelude.{◌≡◌, false, List, length, Float}
use Rattle.exact.specs.Fraction.{nat, negq}
use Rattle.exact.specs.FloatValue.{value}
use Rattle.exact.specs.Size.{Range}
use Rattle.device.specs.Nodes.{any_node_beyond}
use Rattle.device.specs.Stages.{unbound, unevaluated}
use Rattle.device.specs.declared.Discretisation.{Discretisation}
use Rattle.device.specs.declared.Discretisation.TheVariants.{None, Euler, Trapezoid, Gear}
use Rattle.device.specs.declared.Mosfet1.{Mosfet1}
use Rattle.bias.specs.declared.Voltages.{Voltages}
use Rattle.mosfet1.specs.declared.steps.Conditions.{Conditions}
use Rattle.rows.specs.Rows.{shortest_step, voltages_of}

-- row 9: "one of the four voltages read is not finite or beyond ±1,000 V"
abbrev pub NodeVoltage : Float → Type 0
NodeVoltage v = Range v (negq (nat 1000)) (nat 1000)

pub record VoltagesSizes (v : Voltages) : Type 0 where
  pub vd : NodeVoltage v.vd
  pub vg : NodeVoltage v.vg
  pub vs : NodeVoltage v.vs
  pub vb : NodeVoltage v.vb

-- row 11: "h or earlier h outside 1e-15 to 1"; the shortest step is the f64 nearest to 1e-15
abbrev pub Step : Float → Type 0
Step h = Range h (value shortest_step) (nat 1)

pub data MethodSizes : Discretisation → Type 0 where
  none : MethodSizes None
  euler : {h : Float} → Step h → MethodSizes (Euler h)
  trapezoid : {h : Float} → Step h → MethodSizes (Trapezoid h)
  gear : {h h1 : Float} → Step h → Step h1 → MethodSizes (Gear h h1)

-- no row of an evaluation applies: rows 6, 8, 9, 10 and 11
pub record EvaluationAccepted (d : Mosfet1) (x : List Float) (k : Conditions) : Type 0 where
  pub temperature : Range k.temperature.0 (nat 200) (nat 500)
  pub gmin : Range k.gmin (nat 0) (nat 1)
  pub nodes : any_node_beyond (length x) d.terminals ≡ false
  pub voltages : VoltagesSizes (voltages_of x d.terminals)
  pub bound : unbound d.stage ≡ false
  pub method : MethodSizes k.method

-- no row of a commit applies: rows 8, 9 and 10
pub record CommitAccepted (d : Mosfet1) (x : List Float) : Type 0 where
  pub nodes : any_node_beyond (length x) d.terminals ≡ false
  pub voltages : VoltagesSizes (voltages_of x d.terminals)
  pub evaluated : unevaluated d.stage ≡ false
