use Rattle.mivtolgya.proofs.mivtolgya_version.Goals as goal

pub returns : goal.returns
returns c = c.version.ensures
