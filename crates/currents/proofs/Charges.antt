-- A transient load's charge branches on a device that holds a transient evaluation.
use Rattle.std.specs.Prelude.{Option}
use mathlib.Core.Path.{◌≡◌, refl, sym, subst}
use mathlib.Core.Bool.{Bool, true, false, not, ◌&&◌}
use mathlib.Core.List.{List}
use Prim.Native.Nat.{◌^◌}
use lib.Dec.{T}
use lib.IntN.{pos}
use lib.Ieee.{Float}
use Rattle.exact.specs.Fraction.{nat}
use Rattle.exact.specs.Float64.{◌⊗◌, ◌≤f◌, +1}
use Rattle.exact.specs.Size.{AtMost, Range}
use Rattle.exact.proofs.Computing.{computing}
use Rattle.exact.proofs.Ranges.{range_constants}
use Rattle.exact.proofs.Sizes.{at_most_weaken}
use Rattle.device.specs.declared.Charges as device
use Rattle.device.specs.declared.Discretisation.{Discretisation}
use Rattle.device.specs.declared.Discretisation.TheVariants as Discretisation
use Rattle.device.specs.declared.Discretisation.TheVariants.{Euler, Trapezoid, Gear}
use Rattle.device.specs.declared.Geometry.{Geometry}
use Rattle.device.specs.declared.Histories.{Histories}
use Rattle.device.specs.declared.Mosfet1.{Mosfet1}
use Rattle.reactive.specs.Charge.{has_step_of}
use Rattle.bias.specs.declared.Voltages.{Voltages}
use Rattle.capacitance.specs.declared.GateShares.{GateShares}
use Rattle.capacitance.specs.declared.Grading.{Grading}
use Rattle.charges.specs.Charges.{charges_of}
use Rattle.mosfet1.specs.Steps.{evaluated_charges_of}
use Rattle.stamps.specs.Stamps.{branch_of, junction_branch_of, charge_branches_of}
use Rattle.stamps.specs.declared.ChargeBranch.{ChargeBranch}
use Rattle.assembly.specs.Assembly.{Pattern}
use Rattle.loading.specs.Loading.{load_rows, load_of, alpha_limit, alpha_inside, alpha_outside}
use Rattle.loading.specs.declared.LoadKind.{LoadKind}
use Rattle.loading.specs.declared.LoadKind.TheVariants.{Transient}
use Rattle.device.specs.Refusals.{done}
use Rattle.device.proofs.Rows.{passed}
use Rattle.evaluation_sizes.specs.Arguments as arguments
use Rattle.evaluation_sizes.specs.EvaluationSizes.{ChargesSizes, EarlierSize, absent, value, HistorySizes, HistoriesSizes, StateSizes}
use Rattle.evaluation_sizes.proofs.Evaluated.{difference_range}
use Rattle.evaluation_sizes.proofs.Gate.{gate_at_most}
use Rattle.evaluation_sizes.proofs.Limiter.{difference_at_most}
use Rattle.call_lists.specs.LastEvaluation.{EvaluationMade, voltages_at, answer_at, charges_at}
use Rattle.charge_current.specs.ChargeCurrent.{exact_terms, ChargeReturns, MethodSizes, HoldsBefore, IfHeld, RecordedSize, OnlyZeros}
use Rattle.charge_current.proofs.Returns.{charge_returns}
use Rattle.currents.specs.Branches.{Branch, gs, gd, gb, bs, bd, pos_of, neg_of, voltage_of, capacitance_of, charge_of, past_of, history_loaded, loaded_branch}

-- ---- row 11 let alpha pass
pub alpha_passed : (d : Mosfet1) (k : LoadKind) (P : Pattern) (rhs values : List Float) → load_of d k P rhs values ≡ done tt → alpha_outside d.disc k ≡ false
unfolding load_of
alpha_passed d k P rhs values e = (passed (load_rows d k P rhs values) e).0.1.1.0

both : (a b : Bool) → not (a && b) ≡ false → T a × T b
both true true e = (tt, tt)
both true false e = absurd (subst (λ (z : Bool). T (not z)) (sym e) tt)
both false b e = absurd (subst (λ (z : Bool). T (not z)) (sym e) tt)

alpha_range : (alpha : Float) → not (alpha_inside alpha) ≡ false → Range alpha (nat 1) (nat (10 ^ 16))
unfolding alpha_inside computing
alpha_range alpha e =
    let inside = both (+1 ≤f alpha) (alpha ≤f alpha_limit) e in
    range_constants alpha 0x3ff0_0000_0000_0000 0x4341_c379_37e0_8000 (nat 1) (nat (10 ^ 16)) tt tt inside.0 inside.1

pub method_sizes : (disc : Discretisation) (alpha : Float) → arguments.MethodSizes disc → alpha_outside disc (Transient alpha) ≡ false → MethodSizes disc alpha
unfolding alpha_outside has_step_of
method_sizes Discretisation.None alpha arguments.none e = alpha_range alpha e
method_sizes (Euler h) alpha (arguments.euler H) e = H
method_sizes (Trapezoid h) alpha (arguments.trapezoid H) e = H
method_sizes (Gear h h1) alpha (arguments.gear H H1) e = (H, H1)

-- ---- a branch of the load, over its name
-- the Jacobian's term at the branch's voltage
unfoldable pub term_of : Branch → device.Charges → Float
term_of gs c = c.q_gs_eval
term_of gd c = c.q_gd_eval
term_of gb c = c.q_gb_eval
term_of bs c = c.cbs_eval ⊗ c.vbs_eval
term_of bd c = c.cbd_eval ⊗ c.vbd_eval

branch_is : (b : Branch) (d : Mosfet1) (alpha : Float) → loaded_branch b (charge_branches_of d alpha) ≡ branch_of (pos_of b d.terminals) (neg_of b d.terminals) (capacitance_of b d.charges) (term_of b d.charges) (charge_of b d.charges) (history_loaded b d.geometry) d.disc alpha (past_of b d.histories)
unfolding loaded_branch charge_branches_of junction_branch_of pos_of neg_of term_of capacitance_of charge_of history_loaded past_of
branch_is gs d alpha = refl
branch_is gd d alpha = refl
branch_is gb d alpha = refl
branch_is bs d alpha = refl
branch_is bd d alpha = refl

-- ---- a transient evaluation's term is its capacitance times its voltage
term_is : (b : Branch) (geometry : Geometry) (shares : GateShares) (grading : Grading) (v : Voltages) → term_of b (charges_of geometry shares grading v) ≡ capacitance_of b (charges_of geometry shares grading v) ⊗ voltage_of b v
unfolding term_of capacitance_of voltage_of charges_of
term_is gs geometry shares grading v = refl
term_is gd geometry shares grading v = refl
term_is gb geometry shares grading v = refl
term_is bs geometry shares grading v = refl
term_is bd geometry shares grading v = refl

pub evaluated_term : (b : Branch) (e : EvaluationMade) → e.transient ≡ true → term_of b (charges_at e) ≡ capacitance_of b (charges_at e) ⊗ voltage_of b (voltages_at e)
unfolding charges_at evaluated_charges_of
evaluated_term b e t = subst (λ (f : Bool). let c = evaluated_charges_of e.device (voltages_at e) f (answer_at e) in term_of b c ≡ capacitance_of b c ⊗ voltage_of b (voltages_at e)) (sym t) (term_is b _ _ _ (voltages_at e))

-- ---- sizes
capacitance_size : (b : Branch) {c : device.Charges} → ChargesSizes c → AtMost (capacitance_of b c) (pos 160)
unfolding capacitance_of
capacitance_size gs C = at_most_weaken (gate_at_most C.cgs) (pos 160) tt
capacitance_size gd C = at_most_weaken (gate_at_most C.cgd) (pos 160) tt
capacitance_size gb C = at_most_weaken (gate_at_most C.cgb) (pos 160) tt
capacitance_size bs C = C.cbs
capacitance_size bd C = C.cbd

charge_size : (b : Branch) {c : device.Charges} → ChargesSizes c → AtMost (charge_of b c) (pos 170)
unfolding charge_of
charge_size gs C = at_most_weaken C.q_gs (pos 170) tt
charge_size gd C = at_most_weaken C.q_gd (pos 170) tt
charge_size gb C = at_most_weaken C.q_gb (pos 170) tt
charge_size bs C = C.q_bs
charge_size bd C = C.q_bd

past_size : (b : Branch) {h : Histories} → HistoriesSizes h → HistorySizes (past_of b h)
unfolding past_of
past_size gs H = H.gs
past_size gd H = H.gd
past_size gb H = H.gb
past_size bs H = H.bs
past_size bd H = H.bd

voltage_size : (b : Branch) {v : Voltages} → arguments.VoltagesSizes v → AtMost (voltage_of b v) (pos 11)
unfolding voltage_of
voltage_size gs W = difference_at_most (difference_range W.vg W.vs)
voltage_size gd W = difference_at_most (difference_range W.vg W.vd)
voltage_size gb W = difference_at_most (difference_range W.vg W.vb)
voltage_size bs W = difference_at_most (difference_range W.vb W.vs)
voltage_size bd W = difference_at_most (difference_range W.vb W.vd)

if_held : {g : Option Float} → EarlierSize g → IfHeld (λ q2. AtMost q2 (pos 170)) g
if_held absent = tt
if_held (value Q) = Q

-- ---- the branch returns its current
told : (b : Bool) → T b → b ≡ true
told true t = refl
told false t = elim t [ ]

told_not : (b : Bool) → T (not b) → b ≡ false
told_not false t = refl
told_not true t = elim t [ ]

module _ (d : Mosfet1) (alpha : Float) (S : StateSizes d) (row : alpha_outside d.disc (Transient alpha) ≡ false) (b : Branch) {v : Voltages} (W : arguments.VoltagesSizes v) (term : term_of b d.charges ≡ capacitance_of b d.charges ⊗ voltage_of b v) where
  method : MethodSizes d.disc alpha
  method = method_sizes d.disc alpha S.method row

  pub branch_returns : RecordedSize (past_of b d.histories).i_prev → (history_loaded b d.geometry ≡ true → HoldsBefore d.disc (past_of b d.histories).q_prev2)
      → (history_loaded b d.geometry ≡ false → OnlyZeros (capacitance_of b d.charges) (charge_of b d.charges) (past_of b d.histories))
      → ChargeReturns (loaded_branch b (charge_branches_of d alpha)) (voltage_of b v) (exact_terms d.disc alpha (charge_of b d.charges) (past_of b d.histories))
  branch_returns recorded before zeros =
      let past = past_size b S.histories in
      let loads = history_loaded b d.geometry in
      subst (λ (z : ChargeBranch). ChargeReturns z (voltage_of b v) (exact_terms d.disc alpha (charge_of b d.charges) (past_of b d.histories))) (sym (branch_is b d alpha))
      (charge_returns (pos_of b d.terminals) (neg_of b d.terminals) d.disc alpha (capacitance_of b d.charges) (voltage_of b v) (charge_of b d.charges) (past_of b d.histories) loads term method
      (λ t. record {
        capacitance = capacitance_size b S.charges;
        voltage = voltage_size b W;
        charge = charge_size b S.charges;
        last = past.last;
        before = if_held past.earlier;
        current = recorded;
        method = method;
        holds = before (told loads t);
      })
      (λ t. zeros (told_not loads t)))
