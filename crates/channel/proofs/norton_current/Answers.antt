use mathlib.Core.Path.{refl}
use Rattle.channel.specs.Channel.{norton_current_of}
use Rattle.channel.proofs.norton_current.Goals as goal

pub returns : goal.returns
unfolding norton_current_of
returns c = refl
