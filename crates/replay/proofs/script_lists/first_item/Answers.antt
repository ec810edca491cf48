use Rattle.std.proofs.Common.{◌≡◌, sym, ◌∙◌}
use Rattle.replay.proofs.script_lists.Filling.{no_comma, at_comma}
use Rattle.replay.proofs.script_lists.first_item.Goals as goal

pub returns-in-Some : goal.returns-in-Some
returns-in-Some c = at_comma c.args.w.now c.in-Some.end (sym c.place_of.ensures.value ∙ c.in-Some.is)

pub returns-in-None : goal.returns-in-None
returns-in-None c = no_comma c.args.w.now (sym c.place_of.ensures.value ∙ c.in-None.is)
