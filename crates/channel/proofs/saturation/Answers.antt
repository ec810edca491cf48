use mathlib.Core.Path.{refl}
use Rattle.channel.specs.Channel.{saturation_of, modulation_of, body_transconductance_of}
use Rattle.channel.proofs.saturation.Goals as goal

pub returns : goal.returns
unfolding saturation_of modulation_of body_transconductance_of
returns c = refl
