-- An accepted scaling and an accepted binding: the device is the one that the definition makes, and no row applies.
use Prim.Native.Nat.{ℕ}
use mathlib.Core.Path.{◌≡◌}
use mathlib.Core.Bool.{false}
use Rattle.temperature.specs.declared.Kelvin.{Kelvin}
use Rattle.device.specs.Limits.{outside_temperatures}
use Rattle.device.specs.Nodes.{any_node_beyond}
use Rattle.device.specs.Refusals.{done}
use Rattle.device.specs.Stages.{before}
use Rattle.device.specs.declared.Mosfet1.{Mosfet1}
use Rattle.device.specs.declared.NodeId.{NodeId}
use Rattle.device.specs.declared.Stage.TheVariants as Stage
use Rattle.device.specs.declared.Terminals.{Terminals}
use Rattle.device.proofs.Rows.{passed}
use Rattle.setup.specs.Binding.{bound_terminals, node_limit, outside_binding, bound_to, binding_rows, binding_of}
use Rattle.setup.specs.Scaling.{scaled_at, potentials_low, scaled_to, scaling_rows, scaling_of}

pub record ScalingAccepted (d : Mosfet1) (t : Kelvin) (after : Mosfet1) : Type 0 where
  pub made : after ≡ scaled_to d (scaled_at d.card t)
  pub row_6 : outside_temperatures t ≡ false
  pub row_7 : potentials_low (scaled_at d.card t) ≡ false
  pub row_10 : before d.stage Stage.Geometry ≡ false

pub scaling_accepted : (d : Mosfet1) (t : Kelvin) (after : Mosfet1) → scaling_of d t ≡ done after → ScalingAccepted d t after
unfolding scaling_of
scaling_accepted d t after e =
    let h = passed (scaling_rows d t) e in
    record { made = h.1; row_6 = h.0.0; row_7 = h.0.1.0; row_10 = h.0.1.1.0 }

pub record BindingAccepted (d : Mosfet1) (t : Terminals) (after : Mosfet1) : Type 0 where
  pub made : after ≡ bound_to d t
  pub row_8 : any_node_beyond node_limit t ≡ false
  pub row_10 : outside_binding d.stage ≡ false

pub binding_accepted : (d : Mosfet1) (drain gate source bulk : NodeId) (first : ℕ) (after : Mosfet1) → binding_of d drain gate source bulk first ≡ done after → BindingAccepted d (bound_terminals d drain gate source bulk first) after
unfolding binding_of
binding_accepted d drain gate source bulk first after e =
    let h = passed (binding_rows d (bound_terminals d drain gate source bulk first)) e in
    record { made = h.1; row_8 = h.0.0; row_10 = h.0.1.0 }
