use Prim.Native.Nat.{◌≤◌}
use mathlib.Core.Path.{◌≡◌}
use lib.ListN.{length, drop}
use Rattle.replay.specs.Text.{whole_text, decimal}
use Rattle.replay.proofs.answers.put_whole.Given as goal

abbrev pub invariant-loop-first : goal.invariant-loop-first
invariant-loop-first l = (l.first ≤ 19) × (length l.digits ≡ 20) × (l.out ≡ l.initial.out) × (whole_text l.x ≡ decimal l.first l.rest (drop l.first l.digits))

abbrev pub decreases-loop-first : goal.decreases-loop-first
decreases-loop-first l = l.first
