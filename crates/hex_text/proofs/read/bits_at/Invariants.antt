use Rattle.std.proofs.Common.{◌≡◌, ◌*◌, ◌^◌, ◌<◌, length, drop}
use Rattle.hex_text.specs.Hex.{digits_after, bits_at}
use Rattle.hex_text.proofs.read.bits_at.Given as goal

-- what the definition answers is what it answers of the digits that are left, after those that make n
abbrev pub invariant-loop-b : goal.invariant-loop-b
invariant-loop-b l = (length l.digits ≡ 16) × (l.n < 2 ^ (4 * l.b-index)) × (bits_at l.s l.at ≡ digits_after l.n (drop l.b-index l.digits))
