use mathlib.Core.Path.{◌≡◌}
use lib.ListN.{length, drop}
use Rattle.adding.specs.Adding.{add_all}
use Rattle.adding.proofs.add_all.Given as goal

abbrev pub invariant-loop-place : goal.invariant-loop-place
invariant-loop-place l = add_all l.initial.xs l.places l.values ≡ add_all l.xs (drop (length l.yielded) l.places) (drop (length l.yielded) l.values)
