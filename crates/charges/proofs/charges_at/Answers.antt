use Rattle.capacitance.specs.Depletion.{cj_depl_of, q_depl_of}
use Rattle.charges.specs.Charges.{charges_of}
use Rattle.charges.proofs.charges_at.Goals as goal

pub returns : goal.returns
unfolding charges_of cj_depl_of q_depl_of
returns c =
    let bs = c.cj_and_q_depl-bs.ensures in
    let bd = c.cj_and_q_depl-bd.ensures in
    rw (bd.1, bd.0, bs.1, bs.0)
