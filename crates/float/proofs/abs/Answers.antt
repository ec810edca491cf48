use Rattle.std.proofs.Common.{◌∙◌}
use Rattle.float.proofs.Signs.{absolute_is}
use Rattle.float.proofs.abs.Goals as goal

pub returns : goal.returns
returns c = c.abs.ensures.value ∙ absolute_is c.args.x
