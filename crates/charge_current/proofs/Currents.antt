-- A branch's current under each method stands for the sum of the exact terms, with an error relative to the sum of their sizes.
use Rattle.std.specs.Prelude.{Option, Some, None}
use Prim.Native.Nat.{◌^◌}
use mathlib.Core.List.{List}
use lib.IntN.{pos}
use lib.Ieee.{Float, binary64}
use Rattle.exact.specs.Fraction.{ℚ, ◌//◌, nat, ◌+q◌, ◌-q◌, ◌*q◌, ◌/q◌, absq, ◌≤q◌, ◌≈q◌}
use Rattle.exact.specs.FloatValue.{value}
use Rattle.exact.specs.Float64.{◌⊕◌, ◌⊖◌, ◌⊗◌, ◌⊘◌, +1}
use Rattle.exact.specs.Size.{AtMost}
use Rattle.exact.proofs.Computing.{computing}
use Rattle.exact.proofs.FractionLaws.{≈_refl, ≈_sym, ≈_trans, *_comm, *_cong, one_*, ≤_of_≈, ≤_refl, ≤_trans, lit_≤}
use Rattle.exact.proofs.StrictOrder.{<_≤_trans, lit_<}
use Rattle.exact.proofs.AbsoluteValue.{abs_*_≈, abs_cong, abs_of_nonneg, not_zero_of_pos}
use Rattle.exact.proofs.Closeness.{abs_minus_le}
use Rattle.exact.proofs.FractionDivision.{mul_div, div_cong}
use Rattle.exact.proofs.Rounding.{rounds, sub_rounded}
use Rattle.exact.proofs.RelativeErrors.{Rel, rel_given, rel_at_most, rel_scale, rel_weaken, rel_≈, rel_⊕, rel_⊖, rel_⊗}
use Rattle.device.specs.declared.Discretisation.{Discretisation}
use Rattle.device.specs.declared.Discretisation.TheVariants as Discretisation
use Rattle.device.specs.declared.Discretisation.TheVariants.{Euler, Trapezoid, Gear}
use Rattle.device.specs.declared.ChargeHistory.{ChargeHistory}
use Rattle.float.specs.Constants.{two}
use Rattle.reactive.specs.Charge.{euler_of, trapezoid_of, gear_of, gear_at_of, gear_or_euler_of, charge_current_of, gear_conductance_of, scale_of}
use Rattle.reactive.specs.declared.Branch.{Branch}
use Rattle.charge_current.specs.ChargeCurrent.{alpha_terms, euler_terms, trapezoid_terms, gear_terms, gear_or_euler_terms, exact_terms, total, sizes, Step, IfHeld, HoldsBefore, RecordedSize, ChargeSizes}
use Rattle.charge_current.proofs.Terms.{alpha_total, alpha_sizes, euler_total, euler_sizes, trapezoid_total, trapezoid_sizes, gear_total, gear_sizes}
use Rattle.charge_current.proofs.Factors.{Factor, factor_rel, alpha_factor, euler_factor, euler_matrix_factor, trapezoid_factor, trapezoid_matrix_factor, gear_factor, gear_matrix_factor, last_factor, before_factor}

-- a charge, or the rounded difference of two; a factor times a charge; a sum of such terms
abbrev Charge : Float → ℚ → Type 0
Charge d z = Rel d z (absq z) (nat (2 ^ 171)) (1 // 2 ^ 53) (1 // 2 ^ 1075)

abbrev Term : Float → ℚ → Type 0
Term x y = Rel x y (absq y) (nat (2 ^ 322)) (1 // 2 ^ 47) (1 // 2 ^ 924)

abbrev pub Sum : Float → ℚ → ℚ → Type 0
Sum x z B = Rel x z B (nat (2 ^ 400)) (1 // 2 ^ 46) (1 // 2 ^ 920)

abbrev pub Current : Float → List ℚ → Type 0
Current i terms = Sum i (total terms) (sizes terms)

-- ---- charges
held_charge : {q : Float} → AtMost q (pos 170) → Charge q (value q)
unfolding computing
held_charge {q} Q = rel_weaken (rel_scale (rel_at_most Q) (≤_refl (nat 0)) (≤_refl (absq (value q))) (≤_trans Q.size (lit_≤ tt))) (lit_≤ tt) (lit_≤ tt)

-- one rounding of the exact difference
difference : {q q1 : Float} → AtMost q (pos 170) → AtMost q1 (pos 170) → Charge (q ⊖ q1) (value q -q value q1)
unfolding computing
difference {q} {q1} Q P =
    let z = value q -q value q1 in
    let size : absq z ≤q nat (2 ^ 171) = ≤_trans (abs_minus_le (value q) (value q1) Q.size P.size) (lit_≤ tt) in
    let (t, w) = rounds binary64 (q ⊖ q1) z (sub_rounded binary64 q q1 Q.fin P.fin) (≤_trans size (lit_≤ tt)) in
    record { est = record { fin = t; size = ≤_refl (absq z); close = w }; bound = size }

-- ---- terms
rel_same : {x : Float} {z w B C M k t : ℚ} → Rel x z B M k t → nat 0 ≤q k → z ≈q w → B ≈q C → Rel x w C M k t
rel_same X K e f = rel_≈ (rel_scale X K (≤_of_≈ f) (≤_trans (≤_of_≈ (≈_sym f)) X.bound)) e

-- S z is y
term : {s d : Float} {S z y : ℚ} → Factor s S → Charge d z → S *q z ≈q y → Term (s ⊗ d) y
unfolding computing
term {S = S} {z = z} F D e =
    rel_same (rel_⊗ (factor_rel F) D (nat (2 ^ 322)) (1 // 2 ^ 47) (1 // 2 ^ 924) tt) (lit_≤ tt) e
    (≈_trans (*_cong (≈_sym (abs_of_nonneg F.near.above)) (≈_refl (absq z))) (≈_trans (≈_sym (abs_*_≈ S z)) (abs_cong e)))

-- ---- sums of terms
one_term : {x : Float} {y : ℚ} → Term x y → Sum x y (absq y)
unfolding computing
one_term {y = y} X = rel_weaken (rel_scale X (lit_≤ tt) (≤_refl (absq y)) (≤_trans X.bound (lit_≤ tt))) (lit_≤ tt) (lit_≤ tt)

less_recorded : {x i1 : Float} {y : ℚ} → Term x y → RecordedSize i1 → Sum (x ⊖ i1) (y -q value i1) (absq y +q absq (value i1))
unfolding computing
less_recorded {x} {i1} X I =
    let given : Rel i1 (value i1) (absq (value i1)) (nat (2 ^ 333)) (nat 0) (nat 0) = rel_given i1 I.fin (≤_trans I.size (lit_≤ tt)) in
    rel_⊖ X given (nat (2 ^ 400)) (1 // 2 ^ 46) (1 // 2 ^ 920) tt

three_terms : {x x1 x2 : Float} {y y1 y2 : ℚ} → Term x y → Term x1 y1 → Term x2 y2 → Sum (x ⊖ x1 ⊕ x2) (y -q y1 +q y2) (absq y +q absq y1 +q absq y2)
unfolding computing
three_terms X X1 X2 = rel_⊕ (rel_⊖ X X1 (nat (2 ^ 324)) (5 // 2 ^ 49) (1 // 2 ^ 922) tt) X2 (nat (2 ^ 400)) (1 // 2 ^ 46) (1 // 2 ^ 920) tt

current_of_lem : (terms : List ℚ) {x : Float} {z B : ℚ} → Sum x z B → z ≈q total terms → B ≈q sizes terms → Current x terms
unfolding computing
current_of_lem terms X e f = rel_same X (lit_≤ tt) e f

-- ---- the methods: the matrix's factor g, the current's own and the current
pub record Method (g : Float) (b : Branch) (terms : List ℚ) : Type 0 where
  pub exact : ℚ
  pub matrix : Factor g exact
  pub own : Factor b.scale exact
  pub current : Current b.i terms

pub step_not_zero : {h : Float} → Step h → ¬ (value h ≈q nat 0)
unfolding computing
step_not_zero H = not_zero_of_pos (<_≤_trans (lit_< tt) H.above)

-- (c / h) z is c z / h
factor_div : (c z : ℚ) {h : Float} → Step h → c /q value h *q z ≈q c *q z /q value h
factor_div c z {h} H = let n = step_not_zero H in ≈_trans (*_comm (c /q value h) z) (≈_trans (≈_sym (mul_div z c (value h) n)) (div_cong n (*_comm z c) (≈_refl (value h))))

module _ {q q1 : Float} (Q : AtMost q (pos 170)) (Q1 : AtMost q1 (pos 170)) where
  alpha_current : {alpha : Float} → Factor alpha (value alpha) → Current (alpha ⊗ (q ⊖ q1)) (alpha_terms (value alpha) (value q) (value q1))
  alpha_current {alpha} A = current_of_lem _ (one_term (term A (difference Q Q1) (≈_refl _))) (alpha_total (value alpha) (value q) (value q1)) (alpha_sizes (value alpha) (value q) (value q1))

module _ {q q1 : Float} (Q : AtMost q (pos 170)) (Q1 : AtMost q1 (pos 170)) {h : Float} (H : Step h) where
  euler_current : Current (+1 ⊘ h ⊗ (q ⊖ q1)) (euler_terms (value h) (value q) (value q1))
  euler_current =
      let z = value q -q value q1 in
      let one = ≈_trans (factor_div (nat 1) z H) (div_cong (step_not_zero H) (one_* z) (≈_refl (value h))) in
      current_of_lem _ (one_term (term (euler_factor H) (difference Q Q1) one)) (euler_total (value h) (value q) (value q1)) (euler_sizes (value h) (value q) (value q1))

  trapezoid_current : {i1 : Float} → RecordedSize i1 → Current (two ⊘ h ⊗ (q ⊖ q1) ⊖ i1) (trapezoid_terms (value h) (value q) (value q1) (value i1))
  trapezoid_current {i1} I =
      current_of_lem _ (less_recorded (term (trapezoid_factor H) (difference Q Q1) (factor_div (nat 2) (value q -q value q1) H)) I)
      (trapezoid_total (value h) (value q) (value q1) (value i1)) (trapezoid_sizes (value h) (value q) (value q1) (value i1))

  module _ {h1 : Float} (H1 : Step h1) where
    gear_current : {q2 : Float} → AtMost q2 (pos 170) → Current (gear_of h h1 q q1 q2).i (gear_terms (value h) (value h /q value h1) (value q) (value q1) (value q2))
    unfolding gear_of gear_at_of
    gear_current {q2} Q2 =
        let rho = value h /q value h1 in
        current_of_lem _ (three_terms (term (gear_factor H H1) (held_charge Q) (≈_refl _)) (term (last_factor H H1) (held_charge Q1) (≈_refl _)) (term (before_factor H H1) (held_charge Q2) (≈_refl _)))
        (gear_total (value h) rho (value q) (value q1) (value q2)) (gear_sizes (value h) rho (value q) (value q1) (value q2))

    -- with a charge before the last
    gear_method : (before : Option Float) → HoldsBefore (Gear h h1) before → IfHeld (λ q2. AtMost q2 (pos 170)) before
        → Method (gear_conductance_of +1 h h1) (gear_or_euler_of before h h1 q q1) (gear_or_euler_terms before (value h) (value h1) (value q) (value q1))
    unfolding gear_or_euler_of gear_of gear_at_of gear_or_euler_terms
    gear_method None none P = absurd none
    gear_method (Some q2) held P = record {
      exact = (nat 1 +q nat 2 *q (value h /q value h1)) /q (value h *q (nat 1 +q value h /q value h1));
      matrix = gear_matrix_factor H H1;
      own = gear_factor H H1;
      current = gear_current P;
    }

pub method_of_lem : (disc : Discretisation) {alpha c v q : Float} {past : ChargeHistory} → ChargeSizes disc alpha c v q past → Method (scale_of disc alpha) (charge_current_of disc alpha q past) (exact_terms disc alpha q past)
unfolding scale_of charge_current_of euler_of trapezoid_of exact_terms
method_of_lem Discretisation.None {alpha} P = let A = alpha_factor P.method in record { exact = value alpha; matrix = A; own = A; current = alpha_current P.charge P.last A }
method_of_lem (Euler h) P = let H = P.method in record { exact = nat 1 /q value h; matrix = euler_matrix_factor H; own = euler_factor H; current = euler_current P.charge P.last H }
method_of_lem (Trapezoid h) P = let H = P.method in record { exact = nat 2 /q value h; matrix = trapezoid_matrix_factor H; own = trapezoid_factor H; current = trapezoid_current P.charge P.last H P.current }
method_of_lem (Gear h h1) {past = past} P = let (H, H1) = P.method in gear_method P.charge P.last H H1 past.q_prev2 P.holds P.before
