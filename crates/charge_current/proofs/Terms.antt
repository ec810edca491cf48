-- Each method's terms: their sum is the method's formula, and the sum of their sizes.
use mathlib.Core.List.{[], ◌∷◌}
use Rattle.exact.specs.Fraction.{ℚ, nat, ◌+q◌, negq, ◌-q◌, ◌*q◌, ◌/q◌, absq, ◌≈q◌}
use Rattle.exact.proofs.FractionLaws.{≈_refl, ≈_sym, ≈_trans, +_cong, +_cong_r}
use Rattle.exact.proofs.FractionProver.{qv, ##, ◌⊞◌, ◌⊟◌, ⊝, req}
use Rattle.exact.proofs.AbsoluteValue.{abs_neg}
use Rattle.charge_current.specs.ChargeCurrent.{alpha_terms, euler_terms, trapezoid_terms, gear_terms, total, sizes}

plus_zero : (x : ℚ) → x ≈q x +q nat 0
plus_zero x = req (x ∷ []) (qv 0) (qv 0 ⊞ ## 0) tt tt

module _ (alpha q q1 : ℚ) where
  pub alpha_total : alpha *q (q -q q1) ≈q total (alpha_terms alpha q q1)
  unfolding alpha_terms total
  alpha_total = plus_zero (alpha *q (q -q q1))

  pub alpha_sizes : absq (alpha *q (q -q q1)) ≈q sizes (alpha_terms alpha q q1)
  unfolding alpha_terms sizes
  alpha_sizes = plus_zero (absq (alpha *q (q -q q1)))

module _ (h q q1 : ℚ) where
  pub euler_total : (q -q q1) /q h ≈q total (euler_terms h q q1)
  unfolding euler_terms total
  euler_total = plus_zero ((q -q q1) /q h)

  pub euler_sizes : absq ((q -q q1) /q h) ≈q sizes (euler_terms h q q1)
  unfolding euler_terms sizes
  euler_sizes = plus_zero (absq ((q -q q1) /q h))

  pub trapezoid_total : (i1 : ℚ) → nat 2 *q (q -q q1) /q h -q i1 ≈q total (trapezoid_terms h q q1 i1)
  unfolding trapezoid_terms total
  trapezoid_total i1 = req ((nat 2 *q (q -q q1) /q h) ∷ i1 ∷ []) (qv 0 ⊟ qv 1) (qv 0 ⊞ (⊝ (qv 1) ⊞ ## 0)) tt tt

  pub trapezoid_sizes : (i1 : ℚ) → absq (nat 2 *q (q -q q1) /q h) +q absq i1 ≈q sizes (trapezoid_terms h q q1 i1)
  unfolding trapezoid_terms sizes
  trapezoid_sizes i1 = +_cong_r (absq (nat 2 *q (q -q q1) /q h)) (≈_trans (≈_sym (abs_neg i1)) (plus_zero (absq (negq i1))))

module _ (h rho q q1 q2 : ℚ) where
  abbrev now : ℚ
  now = (nat 1 +q nat 2 *q rho) /q (h *q (nat 1 +q rho)) *q q

  abbrev last : ℚ
  last = (nat 1 +q rho) /q h *q q1

  abbrev before : ℚ
  before = rho *q rho /q (h *q (nat 1 +q rho)) *q q2

  pub gear_total : now -q last +q before ≈q total (gear_terms h rho q q1 q2)
  unfolding gear_terms total
  gear_total = req (now ∷ last ∷ before ∷ []) (qv 0 ⊟ qv 1 ⊞ qv 2) (qv 0 ⊞ (⊝ (qv 1) ⊞ (qv 2 ⊞ ## 0))) tt tt

  pub gear_sizes : absq now +q absq last +q absq before ≈q sizes (gear_terms h rho q q1 q2)
  unfolding gear_terms sizes
  gear_sizes =
      ≈_trans (+_cong (+_cong_r (absq now) (≈_sym (abs_neg last))) (≈_refl (absq before)))
      (req (absq now ∷ absq (negq last) ∷ absq before ∷ []) (qv 0 ⊞ qv 1 ⊞ qv 2) (qv 0 ⊞ (qv 1 ⊞ (qv 2 ⊞ ## 0))) tt tt)
