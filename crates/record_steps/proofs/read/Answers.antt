use Rattle.std.proofs.lemmas.Result.{err_from_is_err_and}
use Rattle.rows.proofs.Results.{not_0}
use Rattle.step_rows.proofs.InTwo.{in_two}
use Rattle.record_steps.specs.Steps.{conditions_from, read_at_of}
use Rattle.record_steps.proofs.Changes.{read_by_row}
use Rattle.record_steps.proofs.read.Goals as goal

pub returns-in_err-first_row : goal.returns-in_err-first_row
unfolding conditions_from
returns-in_err-first_row c =
    let p = err_from_is_err_and c.from_residual.result c.from_residual.ensures.1 in
    let r = c.in_err-first_row.field-0.0 in
    rw (p.1, p.2, read_by_row _ _ _, in_two _ _ _ _ _ _, ← c.in_err-first_row.ensures, not_0 r, not_0 r)

pub returns : goal.returns
unfolding conditions_from read_at_of
returns c = rw (c.read_at.ensures, c.voltages-v.ensures, c.vt-vt.ensures, read_by_row _ _ _, in_two _ _ _ _ _ _, ← c.in_ok-first_row.ensures)
