use Rattle.temperature.specs.Temperature.{pbfact_of, pbfact_arg_of, vt_of}
use Rattle.temperature.proofs.pbfact.Goals as goal

pub returns : goal.returns
unfolding pbfact_of pbfact_arg_of vt_of
returns c = rw (c.ln.ensures, c.bandgap_ev.ensures)
