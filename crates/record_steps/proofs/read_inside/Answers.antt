use Rattle.from_record.specs.Devices.{device_from}
use Rattle.record_steps.specs.Steps.{conditions_from, read_at_of}
use Rattle.record_steps.proofs.Changes.{read_by_row}
use Rattle.record_steps.proofs.read_inside.Goals as goal
-- `record_steps::read_inside` meets its contract.
-- Assumes nothing.
use Rattle.step_rows.proofs.InTwo.{row_inside}

pub returns-then-row6 : goal.returns-then-row6
unfolding device_from conditions_from
returns-then-row6 c = rw (read_by_row _ _ _, row_inside _ _ _ _ _ _ c.requires.0, ← c.row6.ensures, c.if-row6.true)

pub returns-then-unbound : goal.returns-then-unbound
unfolding device_from conditions_from
returns-then-unbound c = rw (read_by_row _ _ _, row_inside _ _ _ _ _ _ c.requires.0, ← c.row6.ensures, c.if-row6.false, ← c.unbound.ensures, c.if-unbound.true)

pub voltages_inside-v-requires : goal.voltages_inside-v-requires
voltages_inside-v-requires c = c.requires.1

pub returns : goal.returns
unfolding device_from conditions_from read_at_of
returns c =
    rw (c.read_at.ensures, c.voltages_inside-v.ensures, c.vt-vt.ensures, read_by_row _ _ _, row_inside _ _ _ _ _ _ c.requires.0, ← c.row6.ensures, c.if-row6.false, ← c.unbound.ensures, c.if-unbound.false)
