use Rattle.std.proofs.Common.{ℕ, ltb, ◌∙◌, arith, rules}
use Rattle.std.proofs.lemmas.Iterator.{YieldsList-from_slice}
use Rattle.std.proofs.lemmas.Iterator.Search.{all_from_yields_List}
use borrow.Author.Tests.{tests}
use Rattle.resolved_rows.proofs.Below.{below_each}
use Rattle.resolved_rows.proofs.all_below.Goals as goal

pub returns : goal.returns
returns c =
    all_from_yields_List (λ (p : ℕ). ltb p c.args.len) _ _ _ c.all.ensures.ran (YieldsList-from_slice _ c.iter.ensures.rest) (λ x b q k. search (rules, tests))
    ∙ below_each c.args.len c.args.cells.now 8 29 (omega (arith, c.told-cells))
