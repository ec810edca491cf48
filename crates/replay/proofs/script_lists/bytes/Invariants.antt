use Rattle.std.proofs.Common.{length, drop, ◌*◌}
use Rattle.replay.specs.Lists.{twos, byte_in}
use Rattle.replay.proofs.script_lists.Filling.{Going}
use Rattle.replay.proofs.script_lists.bytes.Given as goal

abbrev pub invariant-loop-i : goal.invariant-loop-i
invariant-loop-i l = Going byte_in (length l.initial.out) (twos l.w) l.initial.out (twos (drop (2 * l.i) l.w)) l.i l.out
