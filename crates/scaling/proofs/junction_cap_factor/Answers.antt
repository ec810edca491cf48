use mathlib.Core.Path.{◌∙◌}
use Rattle.temperature.specs.Temperature.{junction_cap_factor_of}
use Rattle.temperature.proofs.Branches.{yes, no}
use Rattle.scaling.proofs.ThreeTests.{first_of_3, second_of_3, third_of_3, none_of_3}
use Rattle.scaling.proofs.junction_cap_factor.Goals as goal
use Rattle.scaling.proofs.junction_cap_factor.Goals.{then-t-via-then-t, then-t-via-else-t+then-tnom, then-t-via-else-t+else-tnom+then-vj_nom}

pub returns-then-t : goal.returns-then-t
unfolding junction_cap_factor_of
returns-then-t c = elim c.then-t.branch [
  | then-t-via-then-t w ↦ first_of_3 _ _ _ _ _ w.if-t.true
  | then-t-via-else-t+then-tnom w ↦ second_of_3 _ _ _ _ _ w.if-tnom.true
  | then-t-via-else-t+else-tnom+then-vj_nom w ↦ third_of_3 _ _ _ _ _ w.if-vj_nom.true
]

pub returns-then-pbo : goal.returns-then-pbo
unfolding junction_cap_factor_of
returns-then-pbo c =
    let pbo = rw c.phio-pbo.ensures at c.if-pbo.true in
    yes _ _ pbo ∙ none_of_3 _ _ _ _ _ c.if-t.false c.if-tnom.false c.if-vj_nom.false

pub returns-then-denom : goal.returns-then-denom
unfolding junction_cap_factor_of
returns-then-denom c =
    let pbo = rw c.phio-pbo.ensures at c.if-pbo.false in
    let denom = rw (c.cap_term-denom.ensures, c.phio-pbo.ensures) at c.if-denom.true in
    yes _ _ denom ∙ no _ _ pbo ∙ none_of_3 _ _ _ _ _ c.if-t.false c.if-tnom.false c.if-vj_nom.false

pub returns : goal.returns
unfolding junction_cap_factor_of
returns c =
    let pbo = rw c.phio-pbo.ensures at c.if-pbo.false in
    let denom = rw (c.cap_term-denom.ensures, c.phio-pbo.ensures) at c.if-denom.false in
    rw (c.cap_term.ensures, c.cap_term-denom.ensures, c.scaled_junction_potential-vj_t.ensures, c.phio-pbo.ensures)
    (no _ _ denom ∙ no _ _ pbo ∙ none_of_3 _ _ _ _ _ c.if-t.false c.if-tnom.false c.if-vj_nom.false)
