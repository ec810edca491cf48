use Rattle.std.proofs.lemmas.Result.{err_from_is_err_and}
use Rattle.device.specs.Refusals.{outcome}
use Rattle.step_rows.proofs.InTwo.{in_two}
use Rattle.model.proofs.ByRow.{eval_by_row}
use Rattle.rows.proofs.Results.{not_0}
use Rattle.model.proofs.calls.eval.Goals as goal

pub returns-in_err-first_row : goal.returns-in_err-first_row
returns-in_err-first_row c =
    let p = err_from_is_err_and c.from_residual.result c.from_residual.ensures.1 in
    let r = c.in_err-first_row.field-0.0 in
    rw (p.1, p.2, eval_by_row _ _ _ _, in_two _ _ _ _ _ _, ← c.in_err-first_row.ensures, not_0 r, not_0 r)

pub returns-in_err-last_row : goal.returns-in_err-last_row
returns-in_err-last_row c =
    let p = err_from_is_err_and c.from_residual-in_err-last_row.result c.from_residual-in_err-last_row.ensures.1 in
    rw (p.1, p.2, eval_by_row _ _ _ _, in_two _ _ _ _ _ _, ← c.in_ok-first_row.ensures, ← c.voltages-v.ensures, ← c.in_err-last_row.ensures, not_0 c.in_err-last_row.field-0.0)

pub returns : goal.returns
returns c =
    rw (eval_by_row _ _ _ _, in_two _ _ _ _ _ _, ← c.in_ok-first_row.ensures, ← c.voltages-v.ensures, ← c.in_ok-last_row.ensures, c.evaluate.ensures)
