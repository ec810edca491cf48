use mathlib.Core.Path.{◌∙◌}
use Rattle.temperature.specs.Temperature.{mobility_factor_of}
use Rattle.temperature.proofs.Branches.{first, second, neither}
use Rattle.temperature.proofs.mobility_factor.Goals as goal
use Rattle.temperature.proofs.mobility_factor.Goals.{then-t-via-then-t, then-t-via-else-t+then-tnom}

pub returns-then-t : goal.returns-then-t
unfolding mobility_factor_of
returns-then-t c = elim c.then-t.branch [
  | then-t-via-then-t w ↦ first _ _ _ _ w.if-t.true
  | then-t-via-else-t+then-tnom w ↦ second _ _ _ _ w.if-tnom.true
]

pub returns : goal.returns
unfolding mobility_factor_of
returns c = c.pow.ensures ∙ neither _ _ _ _ c.if-t.false c.if-tnom.false
