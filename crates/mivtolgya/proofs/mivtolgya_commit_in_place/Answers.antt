use Rattle.record_steps.specs.Steps.{advanced_record}
use Rattle.export_steps.proofs.CommitInPlace.{changes_stored, commit_refused}
use Rattle.mivtolgya.proofs.mivtolgya_commit_in_place.Goals as goal

pub returns-in-Ok : goal.returns-in-Ok
unfolding advanced_record
returns-in-Ok c = changes_stored c.args.device.now c.args.x.now c.in-Ok.changes c.in-Ok.ensures

pub returns-in-Err : goal.returns-in-Err
returns-in-Err c = rw (c.wide.ensures, c.from.ensures) (commit_refused c.args.device.now c.args.x.now _ c.in-Err.ensures)
