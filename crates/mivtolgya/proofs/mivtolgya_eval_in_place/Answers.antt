use Rattle.record_steps.specs.Steps.{changed_record}
use Rattle.export_steps.proofs.EvalInPlace.{charged, uncharged, evaluation_refused}
use Rattle.mivtolgya.proofs.mivtolgya_eval_in_place.Goals as goal
use Rattle.mivtolgya.proofs.mivtolgya_eval_in_place.Goals.{in-Some, in_default}

pub returns-in-Err : goal.returns-in-Err
returns-in-Err c =
    evaluation_refused c.args.device.now c.args.x.now c.args.conditions _ _ c.in-Err.ensures c.refused_reply.ensures

pub returns : goal.returns
unfolding changed_record
returns c =
    elim c.match-charges.branch [
      | in-Some w ↦ rw w.device-is (charged c.args.device.now c.args.x.now c.args.conditions _ _ _ c.in-Ok.ensures c.evaluate-changes.ensures w.in-Some.ensures)
      | in_default w ↦ rw w.device-is (uncharged c.args.device.now c.args.x.now c.args.conditions _ _ c.in-Ok.ensures c.evaluate-changes.ensures w.in_default.ensures)
    ]
