use Rattle.mivtolgya_bridge_c.proofs.mivtolgya_load_bridge_resolved.Goals as goal

-- What `mivtolgya_bridge::mivtolgya_load_bridge_resolved` promises is what this ensures.

pub returns : goal.returns
returns c = c.mivtolgya_load_bridge_resolved.ensures
