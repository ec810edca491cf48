use Rattle.logarithm.specs.declared.Log.{Log}
use Rattle.power.specs.Power.{pow_from}
use Rattle.power.proofs.SpecialCases.{one_anyway}
use Rattle.power.proofs.pow_of.Goals as goal
-- `power::pow_of` meets its contract. Assumes nothing.
use mathlib.Core.Path.{sym, ap, ◌∙◌}

pub returns-in-Undefined : goal.returns-in-Undefined
unfolding pow_from
returns-in-Undefined c = c.undefined_to.ensures ∙ ap (λ (l : Log). pow_from l c.args.p) (sym c.in-Undefined.is)

pub returns-in-BaseZero : goal.returns-in-BaseZero
unfolding pow_from
returns-in-BaseZero c = c.zero_to.ensures ∙ ap (λ (l : Log). pow_from l c.args.p) (sym c.in-BaseZero.is)

pub returns-in-BaseOne : goal.returns-in-BaseOne
unfolding pow_from
returns-in-BaseOne c = let p = c.args.p in sym (one_anyway p) ∙ ap (λ (l : Log). pow_from l p) (sym c.in-BaseOne.is)

pub returns-in-Above : goal.returns-in-Above
unfolding pow_from
returns-in-Above c = c.raised.ensures ∙ ap (λ (l : Log). pow_from l c.args.p) (sym c.in-Above.is)

pub returns-in-Below : goal.returns-in-Below
unfolding pow_from
returns-in-Below c = c.raised-in-Below.ensures ∙ ap (λ (l : Log). pow_from l c.args.p) (sym c.in-Below.is)
