use Rattle.capacitance.specs.Depletion.{cj_below_of, cj_above_of, cj_depl_mOf, q_below_of, q_above_of, q_depl_mOf}
use Rattle.capacitance.proofs.by_parts.Goals as goal

pub returns-then-bottom : goal.returns-then-bottom
unfolding cj_depl_mOf q_depl_mOf
returns-then-bottom c =
    let t = c.if-bottom.true in
    (rw (c.part-s.ensures.0, t), rw (c.part-s.ensures.1, t))

pub returns-then-sidewall : goal.returns-then-sidewall
unfolding cj_depl_mOf q_depl_mOf
returns-then-sidewall c =
    let t = c.if-sidewall.true in
    (rw (c.part-b.ensures.0, t), rw (c.part-b.ensures.1, t))

pub returns-then-v-fc : goal.returns-then-v-fc
unfolding cj_depl_mOf cj_below_of q_depl_mOf q_below_of
returns-then-v-fc c =
    let r = c.fractional_powers.ensures in
    let b = c.if-bottom.false in
    let s = c.if-sidewall.false in
    (rw (r, b, s, c.if-v-fc.true), rw (c.charge-q_sw.ensures, c.charge-q_bot.ensures, r, b, s, c.if-v-fc.true))

pub returns : goal.returns
unfolding cj_depl_mOf cj_above_of q_depl_mOf q_below_of q_above_of
returns c =
    let r = c.powers.ensures in
    let b = c.if-bottom.false in
    let s = c.if-sidewall.false in
    (rw (c.depl_above-s.ensures.0, c.depl_above-b.ensures.0, r, b, s, c.if-v-fc.false), rw (c.depl_above-s.ensures.1, c.depl_above-b.ensures.1, r, b, s, c.if-v-fc.false))
