-- An evaluation or a commit that is answered: the device is the one that the definition makes, and the arguments are those that no row refuses.
use mathlib.Core.Path.{◌≡◌, refl, sym}
use mathlib.Core.Bool.{Bool, true, false, not, ◌&&◌, ◌||◌, false≢true}
use mathlib.Core.List.{List}
use lib.Dec.{T}
use lib.Ieee.{Float, neg}
use Rattle.exact.specs.Fraction.{ℚ, nat}
use Rattle.exact.specs.FloatValue.{value}
use Rattle.exact.specs.Float64.{◌≤f◌, +0, +1}
use Rattle.exact.specs.Size.{Range}
use Rattle.exact.proofs.Computing.{computing}
use Rattle.exact.proofs.NatProver.{and_l, and_r}
use Rattle.exact.proofs.Ranges.{range_between, range_neg, range_point, range_weaken}
use Rattle.temperature_sizes.proofs.Intervals.{constant_in}
use Rattle.device.specs.declared.Discretisation.{Discretisation}
use Rattle.device.specs.declared.Discretisation.TheVariants.{None, Euler, Trapezoid, Gear}
use Rattle.device.specs.declared.Mosfet1.{Mosfet1}
use Rattle.device.specs.declared.Stage.{Stage}
use Rattle.device.specs.declared.Stage.TheVariants as Stages
use Rattle.mosfet1.specs.Steps.{evaluated_of, committed_of}
use Rattle.bias.specs.declared.Voltages.{Voltages}
use Rattle.mosfet1.specs.declared.steps.Conditions.{Conditions}
use Rattle.mosfet1.specs.declared.steps.Evaluated.{Evaluated}
use Rattle.temperature.specs.declared.Kelvin.{Kelvin}
use Rattle.device.specs.Limits.{coldest, hottest, outside_temperatures}
use Rattle.device.specs.Refusals.{done}
use Rattle.device.specs.Stages.{unbound, unevaluated}
use Rattle.device.proofs.Rows.{NoneOf, passed, number_0}
use Rattle.rows.specs.Rows.{kilovolt, shortest_step, voltages_of, outside_of, row6_of, row9_of, nodes_outside, voltages_outside, bad_step_of, row11_of, eval_rows, commit_rows, eval_row_of}
use Rattle.model.specs.Calls.{eval_of, commit_of}
use Rattle.evaluation_sizes.specs.Arguments.{VoltagesSizes, Step, MethodSizes, none, euler, trapezoid, gear, EvaluationAccepted, CommitAccepted}

-- ---- rows that do not apply
neither : (a b : Bool) → (a || b) ≡ false → (a ≡ false) × (b ≡ false)
neither true b t = absurd (false≢true (sym t))
neither false b t = (refl, t)

-- a row that is tested only where the nodes exist
applies : (unbound b : Bool) → unbound ≡ false → (not unbound && b) ≡ false → b ≡ false
applies true b u t = absurd (false≢true (sym u))
applies false b u t = t

passes : (b : Bool) → not b ≡ false → T b
passes true e = tt
passes false e = absurd (false≢true (sym e))

module _ {lo hi : Float} {a b c d : ℚ} (L : Range lo a b) (H : Range hi c d) where
  within : (v : Float) → outside_of lo hi v ≡ false → Range v a d
  unfolding outside_of
  within v e =
      let t = passes ((lo ≤f v) && (v ≤f hi)) e in
      range_weaken (range_between lo v hi L.fin H.fin (and_l (lo ≤f v) (v ≤f hi) t) (and_r (lo ≤f v) (v ≤f hi) t)) L.above H.below

-- ---- the constants
cold : Range coldest (nat 200) (nat 200)
unfolding computing
cold = constant_in 0x4069_0000_0000_0000 (nat 200) (nat 200) tt

hot : Range hottest (nat 500) (nat 500)
unfolding computing
hot = constant_in 0x407f_4000_0000_0000 (nat 500) (nat 500) tt

thousand : Range kilovolt (nat 1000) (nat 1000)
unfolding computing
thousand = constant_in 0x408f_4000_0000_0000 (nat 1000) (nat 1000) tt

zero : Range +0 (nat 0) (nat 0)
unfolding computing
zero = constant_in 0 (nat 0) (nat 0) tt

one : Range +1 (nat 1) (nat 1)
unfolding computing
one = constant_in 0x3ff0_0000_0000_0000 (nat 1) (nat 1) tt

shortest : Range shortest_step (value shortest_step) (value shortest_step)
unfolding computing
shortest = range_point shortest_step tt

-- ---- each row's condition
temperature_passes : (t : Kelvin) (gmin : Float) → row6_of t gmin ≡ false → Range t.0 (nat 200) (nat 500) × Range gmin (nat 0) (nat 1)
unfolding row6_of outside_of
temperature_passes t gmin e =
    let both = neither (outside_temperatures t) (outside_of +0 +1 gmin) e in
    (within cold hot t.0 both.0, within zero one gmin both.1)

voltages_pass : (v : Voltages) → row9_of v ≡ false → VoltagesSizes v
unfolding row9_of
voltages_pass v e =
    let out = outside_of (neg kilovolt) kilovolt in
    let inside = within (range_neg thousand) thousand in
    let b = neither (out v.vd || out v.vg || out v.vs) (out v.vb) e in
    let s = neither (out v.vd || out v.vg) (out v.vs) b.0 in
    let g = neither (out v.vd) (out v.vg) s.0 in
    record { vd = inside v.vd g.0; vg = inside v.vg g.1; vs = inside v.vs s.1; vb = inside v.vb b.1 }

step_passes : (h : Float) → bad_step_of h ≡ false → Step h
unfolding bad_step_of
step_passes h e = within shortest one h e

method_passes : (disc : Discretisation) → row11_of disc ≡ false → MethodSizes disc
unfolding row11_of
method_passes None e = none
method_passes (Euler h) e = euler (step_passes h e)
method_passes (Trapezoid h) e = trapezoid (step_passes h e)
method_passes (Gear h h1) e = let both = neither (bad_step_of h) (bad_step_of h1) e in gear (step_passes h both.0) (step_passes h1 both.1)

-- ---- no row applies
module _ (d : Mosfet1) (x : List Float) where
  eval_passed : (k : Conditions) → NoneOf (eval_rows d.stage d.terminals x k.temperature k.gmin k.method) → EvaluationAccepted d x k
  unfolding nodes_outside voltages_outside
  eval_passed k h =
      let warm = temperature_passes k.temperature k.gmin h.0 in
      let bound = h.1.1.1.0 in
      record {
        temperature = warm.0;
        gmin = warm.1;
        nodes = applies (unbound d.stage) _ bound h.1.0;
        voltages = voltages_pass (voltages_of x d.terminals) (applies (unbound d.stage) _ bound h.1.1.0);
        bound = bound;
        method = method_passes k.method h.1.1.1.1.0;
      }

  pub eval_row_accepted : (k : Conditions) → eval_row_of d.stage d.terminals x k.temperature k.gmin k.method ≡ 0 → EvaluationAccepted d x k
  unfolding eval_row_of
  eval_row_accepted k e = eval_passed k (number_0 (eval_rows d.stage d.terminals x k.temperature k.gmin k.method) tt e)

  -- what has been evaluated is bound
  evaluated_bound : (s : Stage) → unevaluated s ≡ false → unbound s ≡ false
  unfolding unbound unevaluated
  evaluated_bound Stages.Card e = e
  evaluated_bound Stages.Geometry e = e
  evaluated_bound Stages.Scaled e = e
  evaluated_bound Stages.Bound e = refl
  evaluated_bound Stages.Evaluated e = refl

  commit_passed : NoneOf (commit_rows d.stage d.terminals x) → CommitAccepted d x
  unfolding nodes_outside voltages_outside
  commit_passed h =
      let evaluated = h.1.1.0 in
      let bound = evaluated_bound d.stage evaluated in
      record {
        nodes = applies (unbound d.stage) _ bound h.0;
        voltages = voltages_pass (voltages_of x d.terminals) (applies (unbound d.stage) _ bound h.1.0);
        evaluated = evaluated;
      }

-- ---- an answer that is not a refusal
pub eval_accepted : (d : Mosfet1) (x : List Float) (transient : Bool) (k : Conditions) (e : Evaluated) → eval_of d x transient k ≡ done e → (e ≡ evaluated_of d (voltages_of x d.terminals) transient k) × EvaluationAccepted d x k
unfolding eval_of
eval_accepted d x transient k e h =
    let p = passed (eval_rows d.stage d.terminals x k.temperature k.gmin k.method) h in
    (p.1, eval_passed d x k p.0)

pub commit_accepted : (d : Mosfet1) (x : List Float) (e : Mosfet1) → commit_of d x ≡ done e → (e ≡ committed_of d (voltages_of x d.terminals)) × CommitAccepted d x
unfolding commit_of
commit_accepted d x e h =
    let p = passed (commit_rows d.stage d.terminals x) h in
    (p.1, commit_passed d x p.0)
