use Rattle.mivtolgya.proofs.mivtolgya_setup_instance.Goals as goal

pub returns : goal.returns
returns c = c.setup_instance.ensures
