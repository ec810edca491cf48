use Rattle.capacitance.specs.Depletion.{cj_below_of, cj_above_of, cj_depl_mOf, q_below_of, q_above_of, q_depl_mOf}
use Rattle.capacitance.proofs.part.Goals as goal

pub returns-then-c0 : goal.returns-then-c0
unfolding cj_depl_mOf q_depl_mOf
returns-then-c0 c = (rw c.if-c0.true, rw c.if-c0.true)

pub returns-then-v-fc : goal.returns-then-v-fc
unfolding cj_depl_mOf cj_below_of q_depl_mOf q_below_of
returns-then-v-fc c =
    (rw (c.powers.ensures, c.if-c0.false, c.if-v-fc.true), rw (c.charge-q.ensures, c.powers.ensures, c.if-c0.false, c.if-v-fc.true))

pub returns : goal.returns
unfolding cj_depl_mOf cj_above_of q_depl_mOf q_below_of q_above_of
returns c =
    (rw (c.depl_above.ensures.0, c.powers-2.ensures, c.if-c0.false, c.if-v-fc.false), rw (c.depl_above.ensures.1, c.powers-2.ensures, c.if-c0.false, c.if-v-fc.false))
