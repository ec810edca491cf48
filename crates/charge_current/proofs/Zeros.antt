-- Where the capacitance, the charges and the recorded current are zero: the exact current is zero, and no conductance is loaded.
use Rattle.std.specs.Prelude.{Option, Some, None}
use mathlib.Core.Path.{◌≡◌, sym, subst}
use mathlib.Core.Bool.{Bool, true, false, not, cond}
use mathlib.Core.List.{List, [], ◌∷◌}
use lib.Dec.{T}
use lib.Ieee.{Float, ne, eq}
use Rattle.exact.specs.Fraction.{ℚ, nat, ◌+q◌, negq, ◌-q◌, ◌*q◌, ◌/q◌, absq, ◌≤q◌, ◌≈q◌, Within}
use Rattle.exact.specs.FloatValue.{value}
use Rattle.exact.specs.Float64.{◌≠f◌, +0}
use Rattle.exact.proofs.Computing.{computing}
use Rattle.exact.proofs.Constants.{value_+0}
use Rattle.exact.proofs.Comparisons.{≈→eq}
use Rattle.exact.proofs.FractionLaws.{≈_refl, ≈_sym, ≈_trans, +_cong, *_cong_r, *_comm, zero_*, neg_cong, ≤_refl, ≤_trans, lit_≤}
use Rattle.exact.proofs.FractionProver.{qv, ##, ◌⊞◌, ⊝, req, linq, ◌⊑◌by◌}
use Rattle.exact.proofs.StrictOrder.{*_nonneg}
use Rattle.exact.proofs.AbsoluteValue.{abs_nonneg}
use Rattle.exact.proofs.Closeness.{within_refl, within_mono, within_≈}
use Rattle.exact.proofs.FractionDivision.{div_cong, zero_div}
use Rattle.exact.proofs.Tests.{is_false}
use Rattle.device.specs.declared.Discretisation.{Discretisation}
use Rattle.device.specs.declared.Discretisation.TheVariants as Discretisation
use Rattle.device.specs.declared.Discretisation.TheVariants.{Euler, Trapezoid, Gear}
use Rattle.device.specs.declared.ChargeHistory.{ChargeHistory}
use Rattle.charge_current.specs.ChargeCurrent.{euler_terms, trapezoid_terms, gear_or_euler_terms, exact_terms, total, sizes, absolute_tolerance, charge_bound, Step, MethodSizes, IfHeld, Zero, OnlyZeros}
use Rattle.charge_current.proofs.Terms.{alpha_total, euler_total, trapezoid_total, gear_total}
use Rattle.charge_current.proofs.Currents.{step_not_zero}
use Rattle.charge_current.proofs.Errors.{relative_nonneg}

-- ---- sums, products and quotients of zeros
zero_neg : {x : ℚ} → x ≈q nat 0 → negq x ≈q nat 0
zero_neg e = ≈_trans (neg_cong e) (req [] (⊝ (## 0)) (## 0) tt tt)

zero_sum : {x y : ℚ} → x ≈q nat 0 → y ≈q nat 0 → x +q y ≈q nat 0
zero_sum e f = ≈_trans (+_cong e f) (req [] (## 0 ⊞ ## 0) (## 0) tt tt)

zero_difference : {x y : ℚ} → x ≈q nat 0 → y ≈q nat 0 → x -q y ≈q nat 0
unfolding ◌-q◌
zero_difference e f = zero_sum e (zero_neg f)

sum_nonneg : {x y : ℚ} → nat 0 ≤q x → nat 0 ≤q y → nat 0 ≤q x +q y
sum_nonneg {x} {y} = linq (x ∷ y ∷ []) ((## 0 ⊑ qv 0 by 1) ∷ (## 0 ⊑ qv 1 by 1) ∷ []) 0 (## 0) (qv 0 ⊞ qv 1) tt

zero_product : (a : ℚ) {x : ℚ} → x ≈q nat 0 → a *q x ≈q nat 0
zero_product a e = ≈_trans (*_cong_r a e) (≈_trans (*_comm a (nat 0)) (zero_* a))

zero_quotient : {h : Float} {x : ℚ} → Step h → x ≈q nat 0 → x /q value h ≈q nat 0
zero_quotient {h} {x} H e = ≈_sym (≈_trans (≈_sym (zero_div (value h) (step_not_zero H))) (div_cong (step_not_zero H) (≈_sym e) (≈_refl (value h))))

-- ---- the exact current
module _ {q q1 : Float} (Q : Zero q) (Q1 : Zero q1) {h : Float} (H : Step h) where
  zero_euler : total (euler_terms (value h) (value q) (value q1)) ≈q nat 0
  zero_euler = ≈_trans (≈_sym (euler_total (value h) (value q) (value q1))) (zero_quotient H (zero_difference Q.zero Q1.zero))

  zero_trapezoid : (i1 : Float) → Zero i1 → total (trapezoid_terms (value h) (value q) (value q1) (value i1)) ≈q nat 0
  zero_trapezoid i1 I = ≈_trans (≈_sym (trapezoid_total (value h) (value q) (value q1) (value i1))) (zero_difference (zero_quotient H (zero_product (nat 2) (zero_difference Q.zero Q1.zero))) I.zero)

  zero_gear : (h1 : Float) (before : Option Float) → IfHeld Zero before → total (gear_or_euler_terms before (value h) (value h1) (value q) (value q1)) ≈q nat 0
  unfolding gear_or_euler_terms
  zero_gear h1 None none = zero_euler
  zero_gear h1 (Some q2) Q2 = ≈_trans (≈_sym (gear_total (value h) (value h /q value h1) (value q) (value q1) (value q2))) (zero_sum (zero_difference (zero_product _ Q.zero) (zero_product _ Q1.zero)) (zero_product _ Q2.zero))

pub zero_current : (disc : Discretisation) (alpha c q : Float) (past : ChargeHistory) → MethodSizes disc alpha → OnlyZeros c q past → total (exact_terms disc alpha q past) ≈q nat 0
unfolding exact_terms
zero_current Discretisation.None alpha c q past A Z = ≈_trans (≈_sym (alpha_total (value alpha) (value q) (value past.q_prev))) (zero_product (value alpha) (zero_difference Z.charge.zero Z.last.zero))
zero_current (Euler h) alpha c q past H Z = zero_euler Z.charge Z.last H
zero_current (Trapezoid h) alpha c q past H Z = zero_trapezoid Z.charge Z.last H past.i_prev Z.current
zero_current (Gear h h1) alpha c q past H Z = zero_gear Z.charge Z.last H.0 h1 past.q_prev2 Z.before

-- ---- the bound is not negative
sizes_nonneg : (terms : List ℚ) → nat 0 ≤q sizes terms
unfolding sizes
sizes_nonneg [] = ≤_refl (nat 0)
sizes_nonneg (x ∷ xs) = sum_nonneg (abs_nonneg x) (sizes_nonneg xs)

absolute_nonneg : nat 0 ≤q absolute_tolerance
unfolding computing
absolute_nonneg = lit_≤ tt

bound_nonneg : {scale : ℚ} → nat 0 ≤q scale → nat 0 ≤q charge_bound scale
unfolding charge_bound
bound_nonneg h = sum_nonneg (*_nonneg relative_nonneg h) absolute_nonneg

-- ---- nothing is loaded
not_not : (b : Bool) → T b → T (not (not b))
not_not true t = tt
not_not false t = absurd t

pub not_conducting : (c : Float) → Zero c → (c ≠f +0) ≡ false
unfolding computing ne
not_conducting c Z = is_false (c ≠f +0) (not_not (eq c +0) (≈→eq c +0 Z.fin tt (≈_trans Z.zero (≈_sym value_+0))))

none_loaded : (c : Float) (x : ℚ) → Zero c → cond (c ≠f +0) x (nat 0) ≈q nat 0
none_loaded c x Z = subst (λ (b : Bool). cond b x (nat 0) ≈q nat 0) (sym (not_conducting c Z)) (≈_refl (nat 0))

-- x is what a loaded conductance would be
pub zero_close : (terms : List ℚ) (c : Float) (x v : ℚ) → Zero c → total terms ≈q nat 0 → (scale : ℚ) → sizes terms +q absq (cond (c ≠f +0) x (nat 0) *q v) ≤q scale → Within (cond (c ≠f +0) x (nat 0) *q v -q nat 0) (total terms) (charge_bound scale)
zero_close terms c x v Z e scale h =
    let L = cond (c ≠f +0) x (nat 0) in
    let none : L *q v -q nat 0 ≈q nat 0 = zero_difference (≈_trans (*_comm L v) (zero_product v (none_loaded c x Z))) (≈_refl (nat 0)) in
    within_≈ (≈_sym none) (≈_sym e) (within_mono (within_refl (nat 0)) (bound_nonneg (≤_trans (sum_nonneg (sizes_nonneg terms) (abs_nonneg (L *q v))) h)))
