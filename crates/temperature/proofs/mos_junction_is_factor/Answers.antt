use Rattle.temperature.specs.Temperature.{mos_junction_is_factor_of, is_exponent_of, vt_of}
use Rattle.temperature.proofs.Branches.{first, second, neither}
use Rattle.temperature.proofs.mos_junction_is_factor.Goals as goal
use Rattle.temperature.proofs.mos_junction_is_factor.Goals.{then-t-via-then-t, then-t-via-else-t+then-tnom}

pub returns-then-t : goal.returns-then-t
unfolding mos_junction_is_factor_of
returns-then-t c = elim c.then-t.branch [
  | then-t-via-then-t w ↦ first _ _ _ _ w.if-t.true
  | then-t-via-else-t+then-tnom w ↦ second _ _ _ _ w.if-tnom.true
]

pub returns : goal.returns
unfolding mos_junction_is_factor_of is_exponent_of vt_of
returns c =
    rw (c.exp.ensures, c.bandgap_ev-2.ensures, c.bandgap_ev.ensures) (neither _ _ _ _ c.if-t.false c.if-tnom.false)
