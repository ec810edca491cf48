-- A charge branch in demand 3: the method's exact current, what a loaded branch returns, and how near the two must be.
use Rattle.std.specs.Prelude.{◌^◌, cond, List, [], ◌∷◌, T, pos, Float, Option, Some, None}
use Rattle.std.specs.Float.{binary64}
use Rattle.std.specs.Float.Ieee.{of_bits}
use Rattle.std.specs.Float.Ieee.Scale.{finite}
use Rattle.exact.specs.Fraction.{ℚ, ◌//◌, nat, ◌+q◌, negq, ◌-q◌, ◌*q◌, ◌/q◌, absq, ◌≤q◌, ◌≈q◌, Within}
use Rattle.exact.specs.FloatValue.{value}
use Rattle.exact.specs.Size.{AtMost, Range}
use Rattle.device.specs.declared.Discretisation.{Discretisation}
use Rattle.device.specs.declared.Discretisation.TheVariants as Discretisation
use Rattle.device.specs.declared.Discretisation.TheVariants.{Euler, Trapezoid, Gear}
use Rattle.device.specs.declared.ChargeHistory.{ChargeHistory}
use Rattle.stamps.specs.declared.ChargeBranch.{ChargeBranch}

-- ---- "the method's exact current for the evaluated charge", term by term; "only the present step's formula is exact"
-- without a step: alpha (q - q1)
unfoldable pub alpha_terms : ℚ → ℚ → ℚ → List ℚ
alpha_terms alpha q q1 = (alpha *q (q -q q1)) ∷ []

-- (q - q1) / h
unfoldable pub euler_terms : ℚ → ℚ → ℚ → List ℚ
euler_terms h q q1 = ((q -q q1) /q h) ∷ []

-- 2 (q - q1) / h, and less the recorded current
unfoldable pub trapezoid_terms : ℚ → ℚ → ℚ → ℚ → List ℚ
trapezoid_terms h q q1 i1 = (nat 2 *q (q -q q1) /q h) ∷ negq i1 ∷ []

-- BDF-2, with rho = h / h1: (1 + 2 rho) / (h (1 + rho)) q, -(1 + rho) / h q1, rho² / (h (1 + rho)) q2
unfoldable pub gear_terms : ℚ → ℚ → ℚ → ℚ → ℚ → List ℚ
gear_terms h rho q q1 q2 =
    ((nat 1 +q nat 2 *q rho) /q (h *q (nat 1 +q rho)) *q q) ∷ negq ((nat 1 +q rho) /q h *q q1) ∷ (rho *q rho /q (h *q (nat 1 +q rho)) *q q2) ∷ []

-- `charge_current` is Euler's where no charge before the last is held
unfoldable pub gear_or_euler_terms : Option Float → ℚ → ℚ → ℚ → ℚ → List ℚ
gear_or_euler_terms (Some q2) h h1 q q1 = gear_terms h (h /q h1) q q1 (value q2)
gear_or_euler_terms None h h1 q q1 = euler_terms h q q1

unfoldable pub exact_terms : Discretisation → Float → Float → ChargeHistory → List ℚ
exact_terms Discretisation.None alpha q past = alpha_terms (value alpha) (value q) (value past.q_prev)
exact_terms (Euler h) alpha q past = euler_terms (value h) (value q) (value past.q_prev)
exact_terms (Trapezoid h) alpha q past = trapezoid_terms (value h) (value q) (value past.q_prev) (value past.i_prev)
exact_terms (Gear h h1) alpha q past = gear_or_euler_terms past.q_prev2 (value h) (value h1) (value q) (value past.q_prev)

-- the sum of the terms, and of their sizes
unfoldable pub total : List ℚ → ℚ
total [] = nat 0
total (x ∷ xs) = x +q total xs

unfoldable pub sizes : List ℚ → ℚ
sizes [] = nat 0
sizes (x ∷ xs) = absq x +q sizes xs

-- ---- what is loaded
-- "Their Jacobian cells are loaded where the evaluated capacitance isn't zero": scale · C
unfoldable pub loaded_conductance : ChargeBranch → ℚ
loaded_conductance b = cond b.conducts (value b.conductance) (nat 0)

-- "History currents are loaded for the three gate branches always, and for a junction where its bottom or sidewall capacitance isn't zero"
unfoldable pub loaded_history : ChargeBranch → ℚ
loaded_history b = cond b.remembers (value b.history) (nat 0)

-- "scale·C·v minus its history current, v the unflipped rounded node difference"
unfoldable pub loaded_current : ChargeBranch → Float → ℚ
loaded_current b v = loaded_conductance b *q value v -q loaded_history b

-- "Scale: the sizes of its terms and of scale·C·v summed"
unfoldable pub charge_scale : ChargeBranch → Float → List ℚ → ℚ
charge_scale b v terms = sizes terms +q absq (loaded_conductance b *q value v)

-- "within 2^-40" of the scale, plus 2 ^ -900
abbrev pub relative_tolerance : ℚ
relative_tolerance = 1 // 2 ^ 40

abbrev pub absolute_tolerance : ℚ
absolute_tolerance = 1 // 2 ^ 900

unfoldable pub charge_bound : ℚ → ℚ
charge_bound scale = relative_tolerance *q scale +q absolute_tolerance

-- what is loaded is finite, and its current is near the sum of the terms
pub record ChargeReturns (b : ChargeBranch) (v : Float) (terms : List ℚ) : Type 0 where
  pub conductance : T b.conducts → T (finite b.conductance)
  pub history : T b.remembers → T (finite b.history)
  pub close : Within (loaded_current b v) (total terms) (charge_bound (charge_scale b v terms))

-- ---- the premises
-- "h or earlier h outside 1e-15 to 1" is refused
abbrev pub shortest_step : Float
shortest_step = of_bits binary64 0x3cd2_03af_9ee7_5616

abbrev pub Step : Float → Type 0
Step h = Range h (value shortest_step) (nat 1)

-- "alpha outside 1 to 1e16 where no step is given" is refused; with a step alpha is any float
abbrev pub MethodSizes : Discretisation → Float → Type 0
MethodSizes Discretisation.None alpha = Range alpha (nat 1) (nat (10 ^ 16))
MethodSizes (Euler h) alpha = Step h
MethodSizes (Trapezoid h) alpha = Step h
MethodSizes (Gear h h1) alpha = Step h × Step h1

-- "under Gear with an earlier step, each branch whose history current is loaded holds a charge before the last"
abbrev pub HoldsBefore : Discretisation → Option Float → Type 0
HoldsBefore Discretisation.None before = Unit {0}
HoldsBefore (Euler h) before = Unit {0}
HoldsBefore (Trapezoid h) before = Unit {0}
HoldsBefore (Gear h h1) None = ⊥
HoldsBefore (Gear h h1) (Some q2) = Unit {0}

-- a fact of the charge before the last, where there is one
abbrev pub IfHeld : (Float → Type 0) → Option Float → Type 0
IfHeld P None = Unit {0}
IfHeld P (Some q2) = P q2

-- "recorded branch currents stay below 1e100 A in size"
pub record RecordedSize (i1 : Float) : Type 0 where
  pub fin : T (finite i1)
  pub size : absq (value i1) ≤q nat (10 ^ 100)

-- a branch whose history current is loaded: capacitance, voltage, charges, recorded current and method
pub record ChargeSizes (disc : Discretisation) (alpha c v q : Float) (past : ChargeHistory) : Type 0 where
  pub capacitance : AtMost c (pos 160)
  pub voltage : AtMost v (pos 11)
  pub charge : AtMost q (pos 170)
  pub last : AtMost past.q_prev (pos 170)
  pub before : IfHeld (λ q2. AtMost q2 (pos 170)) past.q_prev2
  pub current : RecordedSize past.i_prev
  pub method : MethodSizes disc alpha
  pub holds : HoldsBefore disc past.q_prev2

-- +0 or -0
pub record Zero (x : Float) : Type 0 where
  pub fin : T (finite x)
  pub zero : value x ≈q nat 0

-- "a junction whose bottom and sidewall capacitances are both zero at the load has only zeros as evaluated capacitance and charge,
-- earlier charges and recorded current"
pub record OnlyZeros (c q : Float) (past : ChargeHistory) : Type 0 where
  pub capacitance : Zero c
  pub charge : Zero q
  pub last : Zero past.q_prev
  pub before : IfHeld Zero past.q_prev2
  pub current : Zero past.i_prev
