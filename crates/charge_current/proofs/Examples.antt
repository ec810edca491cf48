-- Cases 12 to 14 of the fourteen, of the exact terms: Euler 4, trapezoid 7, Gear 3.5.
use Rattle.exact.specs.Fraction.{◌//◌, nat, ◌≈q◌}
use Rattle.exact.proofs.Computing.{computing}
use Rattle.exact.proofs.StrictOrder.{lit_≈}
use Rattle.charge_current.specs.ChargeCurrent.{euler_terms, trapezoid_terms, gear_terms, total}

-- h 0.5, q 3 after 1
euler_case : total (euler_terms (1 // 2) (nat 3) (nat 1)) ≈q nat 4
unfolding total euler_terms computing
euler_case = lit_≈ tt tt

-- the same, recorded current 1
trapezoid_case : total (trapezoid_terms (1 // 2) (nat 3) (nat 1) (nat 1)) ≈q nat 7
unfolding total trapezoid_terms computing
trapezoid_case = lit_≈ tt tt

-- h 1, 1, q 3 after 1 after 2
gear_case : total (gear_terms (nat 1) (nat 1) (nat 3) (nat 1) (nat 2)) ≈q 7 // 2
unfolding total gear_terms computing
gear_case = lit_≈ tt tt
