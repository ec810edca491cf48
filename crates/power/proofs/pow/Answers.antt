use Rattle.logarithm.specs.declared.Log.{Log}
use Rattle.power.specs.Power.{pow_from, pow_of}
use Rattle.power.proofs.pow.Goals as goal
-- `power::pow` meets its contract. Assumes nothing.
use mathlib.Core.Path.{ap, ◌∙◌}

pub returns : goal.returns
unfolding pow_of
returns c = c.pow_of.ensures ∙ ap (λ (l : Log). pow_from l c.args.p) c.log_of.ensures
