use Rattle.mivtolgya.proofs.mivtolgya_extra_nodes.Goals as goal

pub returns : goal.returns
returns c = c.extra_nodes.ensures
