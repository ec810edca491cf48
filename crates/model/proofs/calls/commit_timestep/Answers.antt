use Rattle.std.proofs.lemmas.Result.{err_from_is_err_and}
use Rattle.rows.proofs.Results.{not_0}
use Rattle.device.specs.Refusals.{outcome}
use Rattle.model.proofs.ByRow.{commit_by_row}
use Rattle.model.proofs.calls.commit_timestep.Goals as goal

pub returns-in_err-commit_row : goal.returns-in_err-commit_row
returns-in_err-commit_row c =
    let p = err_from_is_err_and c.from_residual.result c.from_residual.ensures.1 in
    rw (p.1, p.2, commit_by_row _ _, ← c.in_err-commit_row.ensures, not_0 c.in_err-commit_row.field-0.0)

pub returns : goal.returns
returns c = rw (commit_by_row _ _, ← c.in_ok-commit_row.ensures, c.committed.ensures, c.voltages.ensures)
