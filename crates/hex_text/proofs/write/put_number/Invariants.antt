use Rattle.std.proofs.Common.{◌-◌}
use Rattle.hex_text.specs.Text.{digits_of, number_text}
use Rattle.hex_text.proofs.Joining.{Left}
use Rattle.hex_text.proofs.write.put_number.Given as goal

abbrev pub invariant-loop-k : goal.invariant-loop-k
invariant-loop-k l = Left l.initial.out l.at (number_text l.x) l.out l.n (digits_of (16 - l.k) l.bits)
