use Rattle.std.proofs.Common.{drop}
use Rattle.hex_text.proofs.Joining.{Left}
use Rattle.hex_text.proofs.write.put_text.Given as goal

-- what the definition makes of the text is what it makes of the part that is left, behind n
abbrev pub invariant-loop-b : goal.invariant-loop-b
invariant-loop-b l = Left l.initial.out l.at l.text l.out l.n (drop l.b-index l.text)
