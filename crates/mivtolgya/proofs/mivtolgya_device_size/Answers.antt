use Rattle.mivtolgya.proofs.mivtolgya_device_size.Goals as goal

pub returns : goal.returns
returns c = c.device_size.ensures
