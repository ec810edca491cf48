use Rattle.mivtolgya.proofs.mivtolgya_setup_model.Goals as goal

pub returns : goal.returns
returns c = c.setup_model.ensures
