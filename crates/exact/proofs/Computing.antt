-- One name for every definition that a closed fact computes through: a proof with the line `unfolding computing` takes `tt` for a true test of closed
-- fractions and constants, as in `lit_≤ tt`, `lit_< tt`, `representable tt`, `constant_is n z tt`.
use mathlib.Core.Bool.{Bool, true}
use lib.Ieee.{of_bits}
use Rattle.exact.specs.Fraction.{◌//◌, nat, ◌+q◌, negq, ◌-q◌, ◌*q◌, ◌/q◌, absq, leqb, ltqb, maxq, max4}
use Rattle.exact.specs.FloatValue.{value}
use Rattle.exact.proofs.Representable.{representable_test}
use Rattle.exact.proofs.Constants.{constant_test}
use Rattle.exact.proofs.Sizes.{at_most_test, at_least_test}
use Rattle.exact.proofs.ErrorCalculus.{sum_test, sum_fits_test, product_test, quotient_test, literal_test}

unfoldable pub computing : Bool
unfolding of_bits value ◌//◌ nat ◌+q◌ negq ◌-q◌ ◌*q◌ ◌/q◌ absq leqb ltqb maxq max4 representable_test constant_test at_most_test at_least_test sum_test sum_fits_test product_test quotient_test literal_test
computing = true
