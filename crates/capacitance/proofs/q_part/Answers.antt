use Rattle.capacitance.specs.Depletion.{q_below_of, q_depl_mOf}
use Rattle.capacitance.proofs.q_part.Goals as goal

pub returns-then-c0 : goal.returns-then-c0
unfolding q_depl_mOf
returns-then-c0 c = rw c.if-c0.true

pub returns-then-v-fc : goal.returns-then-v-fc
unfolding q_depl_mOf q_below_of
returns-then-v-fc c =
    rw (c.charge.ensures, c.pow.ensures, c.if-c0.false, c.if-v-fc.true)

pub returns : goal.returns
returns c = c.part-d.ensures.1
