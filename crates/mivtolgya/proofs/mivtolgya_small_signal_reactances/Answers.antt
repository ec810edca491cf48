use Rattle.mivtolgya.proofs.mivtolgya_small_signal_reactances.Goals as goal

pub returns : goal.returns
returns c = c.small_signal_reactances.ensures
