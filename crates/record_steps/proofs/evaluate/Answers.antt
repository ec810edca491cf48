use Rattle.record_steps.specs.Steps.{changes_at}
use Rattle.record_steps.proofs.evaluate.Goals as goal

pub returns : goal.returns
unfolding changes_at
returns c = rw (c.method_record.ensures, c.method_from.ensures, c.answer_and_point-e.ensures.1, c.answer_and_point-e.ensures.0, c.device_from-d.ensures)
