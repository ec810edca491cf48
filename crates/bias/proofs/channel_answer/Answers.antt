use Rattle.bias.specs.Bias.{channel_answer_of, answer_from_of, evaluated_channel_of, evaluated_vth_of, evaluated_body_of}
use Rattle.bias.proofs.channel_answer.Goals as goal

pub returns : goal.returns
unfolding channel_answer_of answer_from_of evaluated_channel_of evaluated_vth_of evaluated_body_of
returns c = rw (c.shichman_hodges-at.ensures, c.body_slope-slope.ensures, c.threshold-vth.ensures, c.body_potential-phi_m_vbs.ensures)
