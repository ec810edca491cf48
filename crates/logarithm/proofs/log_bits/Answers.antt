use Rattle.exponential.proofs.Ranges.{cond_yes, cond_else}
use Rattle.logarithm.proofs.log_bits.Goals as goal
-- `logarithm::log_bits` meets its contract. Assumes nothing.
use Rattle.std.proofs.Common.{sym, refl, ◌∙◌, le-ltb, lt-ltb}

pub size_of_bits-v-requires : goal.size_of_bits-v-requires
size_of_bits-v-requires c = c.requires

pub returns-then-bits-lt1023 : goal.returns-then-bits-lt1023
returns-then-bits-lt1023 c = cond_yes _ _ _ (lt-ltb _ 1023 c.if-bits-lt1023.true) ∙ sym c.size_of_bits-v.ensures

pub returns : goal.returns
returns c = cond_else _ _ _ _ (le-ltb _ 1023 c.if-bits-lt1023.false) refl ∙ sym c.size_of_bits-v.ensures
