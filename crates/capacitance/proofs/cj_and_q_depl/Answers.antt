use Rattle.capacitance.specs.Depletion.{cj_depl_mOf, q_depl_mOf}
use Rattle.capacitance.proofs.NoCapacitance.{both_zero}
use Rattle.capacitance.proofs.cj_and_q_depl.Goals as goal

pub returns-then-sidewall : goal.returns-then-sidewall
unfolding cj_depl_mOf q_depl_mOf
returns-then-sidewall c = (both_zero _ _ _ _ c.if-bottom.true c.if-sidewall.true, both_zero _ _ _ _ c.if-bottom.true c.if-sidewall.true)

pub returns : goal.returns
returns c = c.by_parts.ensures
