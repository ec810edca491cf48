-- Arguments that are f64s, and a fresh device. The logic's floats are wider than f64: these are the premises that a caller's numbers meet.
use Rattle.std.specs.Prelude.{ℕ, ◌≡◌, Bool, List, Float}
use Rattle.device.specs.declared.Discretisation.{Discretisation}
use Rattle.device.specs.declared.Discretisation.TheVariants.{None, Euler, Trapezoid, Gear}
use Rattle.device.specs.declared.Mosfet1.{Mosfet1}
use Rattle.card.specs.Card.{card_of}
use Rattle.device.specs.Refusals.{done}
use Rattle.loading.specs.declared.LoadKind.{LoadKind}
use Rattle.loading.specs.declared.LoadKind.TheVariants.{DirectCurrent, Transient}
pub use Rattle.parameter_sizes.specs.ParameterSizes.{F64, Every, none, next}
use Rattle.call_lists.specs.Calls.{Call, geometry, scaling, binding, evaluation, loading, commit, noise, reactances}

-- the step lengths
abbrev pub MethodIsF64 : Discretisation → Type 0
MethodIsF64 None = Unit {0}
MethodIsF64 (Euler h) = F64 h
MethodIsF64 (Trapezoid h) = F64 h
MethodIsF64 (Gear h h1) = F64 h × F64 h1

-- alpha
abbrev pub KindIsF64 : LoadKind → Type 0
KindIsF64 DirectCurrent = Unit {0}
KindIsF64 (Transient alpha) = F64 alpha

-- every float of a call's arguments is an f64
abbrev pub IsF64 : Call → Type 0
IsF64 (geometry bytes offsets lengths values list) = Every F64 values
IsF64 (scaling t) = F64 t.0
IsF64 (binding drain gate source bulk first) = Unit {0}
IsF64 (evaluation x transient k) = Every F64 x × F64 k.temperature.0 × F64 k.gmin × MethodIsF64 k.method
IsF64 (loading kind P rhs values) = KindIsF64 kind × Every F64 rhs × Every F64 values
IsF64 (commit x) = Every F64 x
IsF64 (noise t freq) = F64 t.0 × F64 freq
IsF64 reactances = Unit {0}

-- "Fresh: as an accepted card call returns it"
pub record Fresh (d : Mosfet1) : Type 0 where
  pub is_pmos : Bool
  pub bytes : List ℕ
  pub offsets : List ℕ
  pub lengths : List ℕ
  pub values : List Float
  pub space : ℕ
  pub count : ℕ
  pub f64 : Every F64 values
  pub returned : card_of is_pmos bytes offsets lengths values space ≡ done (record { device = d; unknown = count })
