-- The first loop goes up until N ≤ q * (q + 1), the second comes down until (q - 1) * q < N.
use Rattle.std.proofs.Common.{◌+◌, ◌-◌, ◌*◌, ◌^◌, ◌≤◌}
use Rattle.square_root.proofs.searched.Given as goal

abbrev pub invariant-loop-q : goal.invariant-loop-q
invariant-loop-q l = l.q ≤ 2 ^ 53

abbrev pub decreases-loop-q : goal.decreases-loop-q
decreases-loop-q l = 2 ^ 53 - l.q

abbrev pub invariant-loop-q-2 : goal.invariant-loop-q-2
invariant-loop-q-2 l = (1 ≤ l.q) × (l.q ≤ 2 ^ 53) × (l.hi * 2 ^ 64 + l.lo ≤ l.q * (l.q + 1))

abbrev pub decreases-loop-q-2 : goal.decreases-loop-q-2
decreases-loop-q-2 l = l.q
