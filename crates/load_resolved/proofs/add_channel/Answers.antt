use Rattle.std.proofs.Common.{false}
use Rattle.load_resolved.proofs.Stored.{channel_plain}
use Rattle.load_resolved.proofs.There.{channel_known}
use Rattle.load_resolved.proofs.add_channel.Goals as goal
-- `load_resolved::add_channel`: where no node is ground, the plain places.
use mathlib.Core.Path.{sym, ◌∙◌}

pub add_channel_plain-requires : goal.add_channel_plain-requires
add_channel_plain-requires c = channel_known _ c.args.n _ (sym c.any_ground.ensures ∙ c.if-any_ground.false) c.requires

pub returns-else-any_ground : goal.returns-else-any_ground
returns-else-any_ground c = c.add_channel_plain.ensures ∙ channel_plain _ _ _ _ (sym c.any_ground.ensures ∙ c.if-any_ground.false)
