use mir.Facts.{Fits-bits}
use Rattle.exponential.proofs.Steps.{step_lt}
use Rattle.exponential.proofs.step.Goals as goal
-- `exponential::step` meets its contract. Assumes nothing.
use Rattle.std.proofs.Common.{ℕ, ◌+◌, ap}

pub overflow_add-result : goal.overflow_add-result
overflow_add-result c = Fits-bits 64 tt (step_lt c.args.c c.args.t c.args.q c.mulhi.result c.requires.1 c.requires.0 c.ranges.q.fits c.mulhi.ensures)

pub returns : goal.returns
returns c = ap (λ (z : ℕ). c.args.c + z) c.mulhi.ensures
