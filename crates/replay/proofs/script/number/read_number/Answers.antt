use Rattle.std.proofs.Common.{◌≡◌, true, [], ◌∷◌, rules}
use Rattle.std.specs.Float.Ieee.{of_bits}
use Rattle.std.specs.Str.{bytes_eq}
use Rattle.replay.specs.Number.{number_of}
use Rattle.replay.proofs.script.number.read_number.Goals as goal

pub returns-then-eq : goal.returns-then-eq
unfolding number_of of_bits
returns-then-eq c =
    let named : bytes_eq c.args.w.now (110 ∷ 97 ∷ 110 ∷ []) ≡ true = search rules in simp named
