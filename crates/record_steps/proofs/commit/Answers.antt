use Rattle.std.proofs.lemmas.Result.{err_from_is_err_and}
use Rattle.record_steps.specs.Steps.{commit_record_of, commit_given}
use Rattle.record_steps.proofs.commit.Goals as goal

pub returns-in_err-after : goal.returns-in_err-after
unfolding commit_record_of commit_given
returns-in_err-after c =
    let p = err_from_is_err_and c.from_residual.result c.from_residual.ensures.1 in
    rw (p.1, p.2, ← c.good_tags.ensures, c.if-good_tags.true, ← c.device_from.ensures, ← c.in_err-after.ensures)

pub returns-in_ok-after : goal.returns-in_ok-after
unfolding commit_record_of commit_given
returns-in_ok-after c =
    rw (c.histories_record.ensures, ← c.good_tags.ensures, c.if-good_tags.true, ← c.device_from.ensures, ← c.in_ok-after.ensures)

pub returns-else-good_tags : goal.returns-else-good_tags
unfolding commit_record_of
returns-else-good_tags c = rw (← c.good_tags.ensures, c.if-good_tags.false)
