use Rattle.capacitance.specs.Depletion.{q_below_of, q_depl_mOf, q_depl_of}
use Rattle.capacitance.proofs.NoCapacitance.{both_zero}
use Rattle.capacitance.proofs.q_depl.Goals as goal

pub returns-then-sidewall : goal.returns-then-sidewall
unfolding q_depl_of q_depl_mOf
returns-then-sidewall c = both_zero _ _ _ _ c.if-bottom.true c.if-sidewall.true

pub returns-then-bottom : goal.returns-then-bottom
unfolding q_depl_of q_depl_mOf
returns-then-bottom c = rw (c.q_part.ensures, c.if-bottom.true)

pub returns-then-sidewall-2 : goal.returns-then-sidewall-2
unfolding q_depl_of q_depl_mOf
returns-then-sidewall-2 c = rw (c.q_part-then-sidewall-2.ensures, c.if-sidewall-2.true)

pub returns-then-v-fc : goal.returns-then-v-fc
unfolding q_depl_of q_depl_mOf q_below_of
returns-then-v-fc c =
    let r = c.powers.ensures in
    rw (c.charge-then-v-fc.ensures, c.charge.ensures, r, c.if-bottom.false, c.if-sidewall-2.false, c.if-v-fc.true)

pub returns : goal.returns
unfolding q_depl_of
returns c = c.by_parts-d.ensures.1
