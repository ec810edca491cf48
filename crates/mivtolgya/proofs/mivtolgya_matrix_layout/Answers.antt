use Rattle.mivtolgya.proofs.mivtolgya_matrix_layout.Goals as goal

pub returns : goal.returns
returns c = c.matrix_layout.ensures
