-- A charge branch under the integration methods: its current, the Jacobian's factor, the history current and the past.
use Rattle.std.specs.Prelude.{Bool, true, false, cond, Float, Option, Some, None}
use Rattle.exact.specs.Float64.{◌⊕◌, ◌⊖◌, ◌⊗◌, ◌⊘◌, +0, +1, maximum}
use Rattle.device.specs.declared.Discretisation.{Discretisation}
use Rattle.device.specs.declared.Discretisation.TheVariants as Discretisation
use Rattle.device.specs.declared.Discretisation.TheVariants.{Euler, Trapezoid, Gear}
use Rattle.device.specs.declared.ChargeHistory.{ChargeHistory}
use Rattle.float.specs.Constants.{two, capacitance_floor}
use Rattle.reactive.specs.declared.Branch.{Branch}

-- (q - q1) / h, as 1/h times the difference
unfoldable pub euler_of : Float → Float → Float → Branch
euler_of h q q1 = record { i = +1 ⊘ h ⊗ (q ⊖ q1); scale = +1 ⊘ h }

-- 2 (q - q1) / h - i1
unfoldable pub trapezoid_of : Float → Float → Float → Float → Branch
trapezoid_of h q q1 i1 = record { i = two ⊘ h ⊗ (q ⊖ q1) ⊖ i1; scale = two ⊘ h }

-- BDF-2, with rho = h / h1: (1 + 2 rho) / (h (1 + rho)) q - (1 + rho) / h q1 + rho² / (h (1 + rho)) q2
unfoldable pub gear_at_of : Float → Float → Float → Float → Float → Branch
gear_at_of h rho q q1 q2 = record {
  i = (+1 ⊕ two ⊗ rho) ⊘ (h ⊗ (+1 ⊕ rho)) ⊗ q ⊖ (+1 ⊕ rho) ⊘ h ⊗ q1 ⊕ rho ⊗ rho ⊘ (h ⊗ (+1 ⊕ rho)) ⊗ q2;
  scale = (+1 ⊕ two ⊗ rho) ⊘ (h ⊗ (+1 ⊕ rho));
}

unfoldable pub gear_of : Float → Float → Float → Float → Float → Branch
gear_of h h1 q q1 q2 = gear_at_of h (h ⊘ h1) q q1 q2

-- Gear with no charge before the last is Euler
unfoldable pub gear_or_euler_of : Option Float → Float → Float → Float → Float → Branch
gear_or_euler_of (Some q2) h h1 q q1 = gear_of h h1 q q1 q2
gear_or_euler_of None h h1 q q1 = euler_of h q q1

-- a branch's current at the charge q after its past; with no step alpha takes the place of 1/h
unfoldable pub charge_current_of : Discretisation → Float → Float → ChargeHistory → Branch
charge_current_of Discretisation.None alpha q past = record { i = alpha ⊗ (q ⊖ past.q_prev); scale = alpha }
charge_current_of (Euler h) alpha q past = euler_of h q past.q_prev
charge_current_of (Trapezoid h) alpha q past = trapezoid_of h q past.q_prev past.i_prev
charge_current_of (Gear h h1) alpha q past = gear_or_euler_of past.q_prev2 h h1 q past.q_prev

-- a capacitor's conductance: C / h, 2 C / h, C (1 + 2 rho) / (h (1 + rho))
unfoldable pub euler_conductance_of : Float → Float → Float
euler_conductance_of c h = maximum c capacitance_floor ⊘ h

unfoldable pub trapezoid_conductance_of : Float → Float → Float
trapezoid_conductance_of c h = two ⊗ maximum c capacitance_floor ⊘ h

unfoldable pub gear_conductance_of : Float → Float → Float → Float
gear_conductance_of c h h1 = maximum c capacitance_floor ⊗ (+1 ⊕ two ⊗ (h ⊘ h1)) ⊘ (h ⊗ (+1 ⊕ h ⊘ h1))

-- the Jacobian's factor: the conductance of 1 F, BDF-2's under Gear whatever the past holds
unfoldable pub scale_of : Discretisation → Float → Float
scale_of Discretisation.None alpha = alpha
scale_of (Euler h) alpha = euler_conductance_of +1 h
scale_of (Trapezoid h) alpha = trapezoid_conductance_of +1 h
scale_of (Gear h h1) alpha = gear_conductance_of +1 h h1

-- factor · cv less the current, the factor being the current's own
unfoldable pub history_of : Branch → Float → Float
history_of b cv = b.scale ⊗ cv ⊖ b.i

unfoldable pub companion_of : Discretisation → Float → Float → Float → ChargeHistory → Float
companion_of disc alpha q cv past = history_of (charge_current_of disc alpha q past) cv

unfoldable pub has_step_of : Discretisation → Bool
has_step_of Discretisation.None = false
has_step_of (Euler h) = true
has_step_of (Trapezoid h) = true
has_step_of (Gear h h1) = true

-- the current that a commit records: without a step the last one stays
unfoldable pub recorded_of : Discretisation → Float → ChargeHistory → Float
recorded_of disc q past = cond (has_step_of disc) (charge_current_of disc +0 q past).i past.i_prev

-- the last charge becomes the one before, with a step or without
unfoldable pub advance_of : Discretisation → Float → ChargeHistory → ChargeHistory
advance_of disc q past = record { q_prev = q; q_prev2 = Some past.q_prev; i_prev = recorded_of disc q past }
