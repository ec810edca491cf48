use Prim.Native.Nat.{ℕ}
use lib.Dec.{leb}
use mathlib.Core.Path.{◌∙◌}
use Rattle.std.proofs.Common.{rules, tests}
use Rattle.std.proofs.lemmas.Iterator.{YieldsList-from_slice}
use Rattle.std.proofs.lemmas.Iterator.Search.{any_from_yields_List}
use Rattle.entries.proofs.Entries.{any_ascii}
use Rattle.entries.proofs.beyond_ascii.Goals as goal

-- `entries::beyond_ascii` meets its contract.
-- Assumes nothing.

pub returns : goal.returns
returns c = any_from_yields_List (λ (b : ℕ). leb 128 b) _ _ _ c.any.ensures.ran (YieldsList-from_slice c.args.key.now cc) (λ x b q k. search (rules, tests)) ∙ any_ascii _
