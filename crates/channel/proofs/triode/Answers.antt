use mathlib.Core.Path.{refl}
use Rattle.channel.specs.Channel.{triode_of, triode_charge_of, modulation_of, body_transconductance_of}
use Rattle.channel.proofs.triode.Goals as goal

pub returns : goal.returns
unfolding triode_of triode_charge_of modulation_of body_transconductance_of
returns c = refl
