use Rattle.mivtolgya.proofs.mivtolgya_num_extra_nodes.Goals as goal

pub returns : goal.returns
returns c = c.num_extra_nodes.ensures
