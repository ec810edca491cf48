use Rattle.std.proofs.lemmas.Result.{err_from_is_err_and}
use Rattle.rows.proofs.Results.{not_0}
use Rattle.model.specs.SmallSignal.{source_of}
use Rattle.model.proofs.ByRow.{noise_by_row}
use Rattle.small_signal.proofs.noise_sources.Goals as goal

pub returns-in_err-noise_row : goal.returns-in_err-noise_row
returns-in_err-noise_row c =
    let p = err_from_is_err_and c.from_residual.result c.from_residual.ensures.1 in
    rw (p.1, p.2, noise_by_row _ _ _, ← c.in_err-noise_row.ensures, not_0 c.in_err-noise_row.field-0.0)

pub returns-then-density : goal.returns-then-density
unfolding source_of
returns-then-density c = rw (noise_by_row _ _ _, ← c.in_ok-noise_row.ensures, ← c.density-density.ensures, c.if-density.true)

pub returns : goal.returns
unfolding source_of
returns c = rw (noise_by_row _ _ _, ← c.in_ok-noise_row.ensures, ← c.density-density.ensures, c.if-density.false)
