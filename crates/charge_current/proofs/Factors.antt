-- The factor of the charge under each method, 1 / h, 2 / h and BDF-2's, as the matrix has it and as the current has it: both stand for one exact factor.
use Prim.Native.Nat.{◌^◌}
use mathlib.Core.Path.{◌≡◌, refl, sym, subst}
use lib.Ieee.{Float, of_bits, lt, mul}
use Rattle.exact.specs.Fraction.{ℚ, ◌//◌, nat, ◌+q◌, ◌*q◌, ◌/q◌, ◌≤q◌}
use Rattle.exact.specs.FloatValue.{value}
use Rattle.exact.specs.Float64.{◌⊕◌, ◌⊗◌, ◌⊘◌, +1, maximum}
use Rattle.exact.specs.Size.{Range}
use Rattle.exact.proofs.Computing.{computing}
use Rattle.exact.proofs.Constants.{constant_is}
use Rattle.exact.proofs.FractionLaws.{one_*, lit_≤, ≤_refl, ≤_trans}
use Rattle.exact.proofs.RelativeErrors.{Rel}
use Rattle.float.specs.Constants.{two, capacitance_floor}
use Rattle.reactive.specs.Charge.{euler_conductance_of, trapezoid_conductance_of, gear_conductance_of}
use Rattle.charge_current.specs.ChargeCurrent.{Step}
use Rattle.charge_current.proofs.RelativeOnly.{Near, near_is, near_range, near_≈, near_weaken, near_rel, near_⊕, near_⊗, near_⊘}

-- a factor: positive, at most 2 ^ 150, with 32 roundings at most
pub record Factor (s : Float) (z : ℚ) : Type 0 where
  pub near : Near s z (nat 0) (nat (2 ^ 150)) (1 // 2 ^ 48)

pub factor : {s : Float} {z lo hi k : ℚ} → Near s z lo hi k → nat 0 ≤q lo → hi ≤q nat (2 ^ 150) → k ≤q 1 // 2 ^ 48 → Factor s z
factor S a b c = record { near = near_weaken S a a b c }

pub factor_rel : {s : Float} {z : ℚ} → Factor s z → Rel s z z (nat (2 ^ 150)) (1 // 2 ^ 48) (nat 0)
factor_rel S = near_rel S.near (≤_refl (nat 0))

-- ---- the constants
near_1 : Near +1 (nat 1) (nat 1) (nat 1) (nat 0)
unfolding computing
near_1 = near_is tt (constant_is 0x3ff0_0000_0000_0000 (nat 1) tt) (≤_refl (nat 1)) (≤_refl (nat 1))

near_2 : Near two (nat 2) (nat 2) (nat 2) (nat 0)
unfolding computing
near_2 = near_is tt (constant_is 0x4000_0000_0000_0000 (nat 2) tt) (≤_refl (nat 2)) (≤_refl (nat 2))

-- 1 F is above the floor of 1e-30 F
one_farad : maximum +1 capacitance_floor ≡ +1
unfolding maximum of_bits lt
one_farad = refl

two_farads : two ⊗ +1 ≡ two
unfolding mul of_bits
two_farads = refl

-- a step is at least 2 ^ -50
near_step : {h : Float} → Step h → Near h (value h) (1 // 2 ^ 50) (nat 1) (nat 0)
unfolding computing
near_step H = near_range (record { fin = H.fin; above = ≤_trans (lit_≤ tt) H.above; below = H.below })

-- ---- without a step, Euler, trapezoid
pub alpha_factor : {alpha : Float} → Range alpha (nat 1) (nat (10 ^ 16)) → Factor alpha (value alpha)
unfolding computing
alpha_factor A = factor (near_range A) (lit_≤ tt) (lit_≤ tt) (lit_≤ tt)

module _ {h : Float} (H : Step h) where
  pub euler_factor : Factor (+1 ⊘ h) (nat 1 /q value h)
  unfolding computing
  euler_factor = factor (near_⊘ near_1 (near_step H) (nat 1) (nat (2 ^ 50)) (1 // 2 ^ 52) tt tt) (lit_≤ tt) (lit_≤ tt) (lit_≤ tt)

  pub euler_matrix_factor : Factor (euler_conductance_of +1 h) (nat 1 /q value h)
  unfolding euler_conductance_of
  euler_matrix_factor = subst (λ (c : Float). Factor (c ⊘ h) (nat 1 /q value h)) (sym one_farad) euler_factor

  pub trapezoid_factor : Factor (two ⊘ h) (nat 2 /q value h)
  unfolding computing
  trapezoid_factor = factor (near_⊘ near_2 (near_step H) (nat 2) (nat (2 ^ 51)) (1 // 2 ^ 52) tt tt) (lit_≤ tt) (lit_≤ tt) (lit_≤ tt)

  pub trapezoid_matrix_factor : Factor (trapezoid_conductance_of +1 h) (nat 2 /q value h)
  unfolding trapezoid_conductance_of
  trapezoid_matrix_factor = subst (λ (c : Float). Factor (two ⊗ c ⊘ h) (nat 2 /q value h)) (sym one_farad) (subst (λ (c : Float). Factor (c ⊘ h) (nat 2 /q value h)) (sym two_farads) trapezoid_factor)

-- ---- Gear
module _ {h h1 : Float} (H : Step h) (H1 : Step h1) where
  abbrev rho : ℚ
  rho = value h /q value h1

  -- h / h1, 1 + rho, 1 + 2 rho, h (1 + rho)
  near_rho : Near (h ⊘ h1) rho (1 // 2 ^ 50) (nat (2 ^ 50)) (1 // 2 ^ 52)
  unfolding computing
  near_rho = near_⊘ (near_step H) (near_step H1) (1 // 2 ^ 50) (nat (2 ^ 50)) (1 // 2 ^ 52) tt tt

  one_rho : Near (+1 ⊕ h ⊘ h1) (nat 1 +q rho) (nat 1) (nat (2 ^ 51)) (1 // 2 ^ 51)
  unfolding computing
  one_rho = near_⊕ near_1 near_rho (nat 1) (nat (2 ^ 51)) (1 // 2 ^ 51) tt tt

  one_two_rho : Near (+1 ⊕ two ⊗ (h ⊘ h1)) (nat 1 +q nat 2 *q rho) (nat 1) (nat (2 ^ 52)) (1 // 2 ^ 50)
  unfolding computing
  one_two_rho = near_⊕ near_1 (near_⊗ near_2 near_rho (1 // 2 ^ 49) (nat (2 ^ 51)) (1 // 2 ^ 51) tt tt) (nat 1) (nat (2 ^ 52)) (1 // 2 ^ 50) tt tt

  divisor : Near (h ⊗ (+1 ⊕ h ⊘ h1)) (value h *q (nat 1 +q rho)) (1 // 2 ^ 50) (nat (2 ^ 51)) (1 // 2 ^ 50)
  unfolding computing
  divisor = near_⊗ (near_step H) one_rho (1 // 2 ^ 50) (nat (2 ^ 51)) (1 // 2 ^ 50) tt tt

  -- of q, of q1 and of q2
  pub gear_factor : Factor ((+1 ⊕ two ⊗ (h ⊘ h1)) ⊘ (h ⊗ (+1 ⊕ h ⊘ h1))) ((nat 1 +q nat 2 *q rho) /q (value h *q (nat 1 +q rho)))
  unfolding computing
  gear_factor = factor (near_⊘ one_two_rho divisor (1 // 2 ^ 51) (nat (2 ^ 102)) (1 // 2 ^ 48) tt tt) (lit_≤ tt) (lit_≤ tt) (lit_≤ tt)

  pub last_factor : Factor ((+1 ⊕ h ⊘ h1) ⊘ h) ((nat 1 +q rho) /q value h)
  unfolding computing
  last_factor = factor (near_⊘ one_rho (near_step H) (nat 1) (nat (2 ^ 101)) (1 // 2 ^ 50) tt tt) (lit_≤ tt) (lit_≤ tt) (lit_≤ tt)

  pub before_factor : Factor ((h ⊘ h1) ⊗ (h ⊘ h1) ⊘ (h ⊗ (+1 ⊕ h ⊘ h1))) (rho *q rho /q (value h *q (nat 1 +q rho)))
  unfolding computing
  before_factor =
      let square = near_⊗ near_rho near_rho (1 // 2 ^ 100) (nat (2 ^ 100)) (1 // 2 ^ 50) tt tt in
      factor (near_⊘ square divisor (1 // 2 ^ 151) (nat (2 ^ 150)) (1 // 2 ^ 48) tt tt) (lit_≤ tt) (lit_≤ tt) (lit_≤ tt)

  -- the matrix has 1 F times the numerator
  pub gear_matrix_factor : Factor (gear_conductance_of +1 h h1) ((nat 1 +q nat 2 *q rho) /q (value h *q (nat 1 +q rho)))
  unfolding gear_conductance_of computing
  gear_matrix_factor =
      let numerator = near_≈ (near_⊗ near_1 one_two_rho (nat 1) (nat (2 ^ 52)) (1 // 2 ^ 49) tt tt) (one_* (nat 1 +q nat 2 *q rho)) in
      subst (λ (c : Float). Factor (c ⊗ (+1 ⊕ two ⊗ (h ⊘ h1)) ⊘ (h ⊗ (+1 ⊕ h ⊘ h1))) ((nat 1 +q nat 2 *q rho) /q (value h *q (nat 1 +q rho)))) (sym one_farad)
      (factor (near_⊘ numerator divisor (1 // 2 ^ 51) (nat (2 ^ 102)) (1 // 2 ^ 48) tt tt) (lit_≤ tt) (lit_≤ tt) (lit_≤ tt))
