use Rattle.std.proofs.Common.{◌-◌}
use Rattle.pattern.proofs.Places.{Bracket}
use Rattle.pattern.proofs.search.Given as goal

abbrev pub invariant-loop-lo : goal.invariant-loop-lo
invariant-loop-lo l = Bracket l.columns l.from l.to l.column l.lo l.hi

abbrev pub decreases-loop-lo : goal.decreases-loop-lo
decreases-loop-lo l = l.hi - l.lo
