use Rattle.mivtolgya.proofs.mivtolgya_resolve.Goals as goal

-- `mivtolgya::mivtolgya_resolve`: the call on the record.

pub returns : goal.returns
returns c = c.resolve.ensures
