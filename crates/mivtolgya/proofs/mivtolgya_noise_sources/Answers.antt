use Rattle.mivtolgya.proofs.mivtolgya_noise_sources.Goals as goal

pub returns : goal.returns
returns c = c.noise_sources.ensures
