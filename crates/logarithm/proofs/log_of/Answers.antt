use lib.Ieee.{Float, nan, inf, fin, lt, eq, of_bits}
use Rattle.exact.specs.Float64.{+0}
use Rattle.exact.proofs.Tests.{clash}
use Rattle.exact.proofs.PositivePatterns.{above_no_nan, bits_above}
use Rattle.exponential.proofs.Ranges.{cond_yes, cond_then, cond_else}
use Rattle.logarithm.specs.Logarithm.{log_of}
use Rattle.logarithm.proofs.log_of.Goals as goal
use Rattle.logarithm.proofs.log_of.Goals.{else-b-via-then-b+else-b-2, else-b-via-else-b}
-- `logarithm::log_of` meets its contract. Assumes nothing.
use Rattle.std.proofs.Common.{◌≡◌, true, false, T, sym, refl, subst}

-- what is not below infinity is no zero
not_zero : {A : Type 0} (x : Float) → lt x (inf false) ≡ false → eq x +0 ≡ true → A
unfolding lt eq of_bits
not_zero nan h z = clash (sym z)
not_zero (inf s) h z = clash (sym z)
not_zero (fin s m e) h z = clash h

pub returns-then-b-3 : goal.returns-then-b-3
unfolding log_of of_bits
returns-then-b-3 c = cond_then _ _ _ _ c.if-b.true (cond_then _ _ _ _ c.if-b-2.true (cond_yes _ _ _ c.if-b-3.true))

pub float_to_bits-b : goal.float_to_bits-b
unfolding of_bits
float_to_bits-b c = above_no_nan _ c.if-b.true

pub log_bits-requires : goal.log_bits-requires
unfolding of_bits
log_bits-requires c = bits_above _ (subst T (sym c.well_formed.0.1) tt) c.if-b.true c.if-b-2.true

pub returns-then-b-2 : goal.returns-then-b-2
unfolding log_of of_bits
returns-then-b-2 c = cond_then _ _ _ _ c.if-b.true (cond_then _ _ _ _ c.if-b-2.true (cond_else _ _ _ _ c.if-b-3.false c.log_bits.ensures))

pub returns-then-b-4 : goal.returns-then-b-4
unfolding log_of of_bits
returns-then-b-4 c = elim c.else-b.branch [
  | else-b-via-then-b+else-b-2 w ↦ not_zero _ w.if-b-2.false c.if-b-4.true
  | else-b-via-else-b w ↦ cond_else _ _ _ _ w.if-b.false (cond_yes _ _ _ c.if-b-4.true)
]

pub returns-else-b-4 : goal.returns-else-b-4
unfolding log_of of_bits
returns-else-b-4 c = elim c.else-b.branch [
  | else-b-via-then-b+else-b-2 w ↦ cond_then _ _ _ _ w.if-b.true (cond_else _ _ _ _ w.if-b-2.false refl)
  | else-b-via-else-b w ↦ cond_else _ _ _ _ w.if-b.false (cond_else _ _ _ _ c.if-b-4.false refl)
]
