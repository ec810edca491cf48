use mathlib.Core.Path.{◌∙◌, ap}
use Rattle.device.specs.Refusals.{done}
use Rattle.device.proofs.Branches.{tested}
use Rattle.setup.specs.Scaling.{potentials_low, scaled_to}
use Rattle.setup.proofs.Scaling.{refused_6, refused_7, refused_10, accepted}
use Rattle.setup.proofs.setup_model.Goals as goal

-- `setup::setup_model` meets its contract.
-- Assumes nothing.

pub returns-then-outside_temperatures : goal.returns-then-outside_temperatures
returns-then-outside_temperatures c = refused_6 _ _ (tested c.outside_temperatures.ensures c.if-outside_temperatures.true)

pub returns-then-potentials_low : goal.returns-then-potentials_low
returns-then-potentials_low c = refused_7 _ _ (tested c.outside_temperatures.ensures c.if-outside_temperatures.false) (tested (c.potentials_low.ensures ∙ ap potentials_low c.scaled_at-scaled.ensures) c.if-potentials_low.true)

pub returns-then-before : goal.returns-then-before
returns-then-before c = refused_10 _ _ (tested c.outside_temperatures.ensures c.if-outside_temperatures.false) (tested (c.potentials_low.ensures ∙ ap potentials_low c.scaled_at-scaled.ensures) c.if-potentials_low.false) (tested c.before-2.ensures c.if-before.true)

pub returns : goal.returns
returns c = ap done (c.scaled_to.ensures ∙ ap (scaled_to c.args.device) c.scaled_at-scaled.ensures) ∙ accepted _ _ (tested c.outside_temperatures.ensures c.if-outside_temperatures.false) (tested (c.potentials_low.ensures ∙ ap potentials_low c.scaled_at-scaled.ensures) c.if-potentials_low.false) (tested c.before-2.ensures c.if-before.false)
