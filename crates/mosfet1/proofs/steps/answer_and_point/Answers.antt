use mathlib.Core.Path.{◌≡◌}
use lib.Ieee.{Float}
use Rattle.exact.specs.Float64.{◌⊖◌, ◌⊗◌}
use Rattle.device.specs.declared.Mosfet1.{Mosfet1}
use Rattle.junction.specs.Junction.{junction_exponential_of}
use Rattle.bias.specs.declared.Voltages.{Voltages}
use Rattle.bias.specs.declared.Answer.{Answer}
use Rattle.bias.specs.declared.JunctionStamp.{JunctionStamp}
use Rattle.bias.specs.Bias.{junction_stamp_at_of, operating_point_of}
use Rattle.bias.proofs.OverExponential.{stamp_over_exponential}
use Rattle.mosfet1.specs.Steps.{point_at}
use Rattle.mosfet1.proofs.steps.answer_and_point.Goals as goal

-- a junction's stamp at its exponential
abbrev stamp_at : Float → Float → Float → Float → Float → JunctionStamp
stamp_at isat pol v vt gmin = junction_stamp_at_of isat (junction_exponential_of isat (pol ⊗ v) vt) pol v vt gmin

point_at_lem : (d : Mosfet1) (v : Voltages) (vt gmin : Float) (a : Answer) → point_at d v vt gmin a ≡ operating_point_of d.card.polarity a (v.vb ⊖ v.vs)
    (stamp_at (d.geometry.isat_bs ⊗ d.scaled.isat_t_factor) d.card.polarity (v.vb ⊖ v.vs) vt gmin)
    (stamp_at (d.geometry.isat_bd ⊗ d.scaled.isat_t_factor) d.card.polarity (v.vb ⊖ v.vd) vt gmin)
point_at_lem d v vt gmin a = λ i. operating_point_of d.card.polarity a (v.vb ⊖ v.vs)
    (stamp_over_exponential (d.geometry.isat_bs ⊗ d.scaled.isat_t_factor) d.card.polarity (v.vb ⊖ v.vs) vt gmin i)
    (stamp_over_exponential (d.geometry.isat_bd ⊗ d.scaled.isat_t_factor) d.card.polarity (v.vb ⊖ v.vd) vt gmin i)

pub returns : goal.returns
returns c = (c.evaluated_answer-answer.ensures, rw (point_at_lem _ _ _ _ _, c.operating_point-point.ensures, c.junction_stamp_at-bd.ensures, c.junction_stamp_at-bs.ensures, c.evaluated_answer-answer.ensures, c.junction_exponential-e_bd.ensures, c.junction_exponential-e_bs.ensures))
