use Rattle.mivtolgya.proofs.mivtolgya_from_model_params.Goals as goal

pub returns : goal.returns
returns c = c.from_model_params.ensures
