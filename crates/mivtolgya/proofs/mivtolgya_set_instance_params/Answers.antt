use Rattle.mivtolgya.proofs.mivtolgya_set_instance_params.Goals as goal

pub returns : goal.returns
returns c = c.set_instance_params.ensures
