use mathlib.Core.Path.{◌≡◌}
use lib.ListN.{drop}
use Rattle.key_pairs.specs.Pairs.{pairs_astray}
use Rattle.key_pairs.proofs.pairs_astray.Given as goal

-- what is left of the pairs, after the last one's end, goes astray where all of them do
abbrev pub invariant-loop-i : goal.invariant-loop-i
invariant-loop-i l = pairs_astray l.size l.last (drop l.i l.offsets) (drop l.i l.lengths) ≡ pairs_astray l.size 0 l.offsets l.lengths
