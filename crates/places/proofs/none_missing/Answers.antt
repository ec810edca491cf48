use Rattle.std.proofs.Common.{◌≡◌, not, eqb, ℕ, ◌∙◌, rules}
use Rattle.std.proofs.lemmas.Iterator.{YieldsList-from_slice}
use Rattle.std.proofs.lemmas.Iterator.Search.{all_from_yields_List}
use borrow.Author.Tests.{tests}
use Rattle.places.specs.Places.{missing_number}
use Rattle.places.proofs.Missing.{asked_of_each}
use Rattle.places.proofs.none_missing.Goals as goal

pub returns : goal.returns
returns c =
    all_from_yields_List (λ (p : ℕ). not (eqb p missing_number)) _ _ _ c.all.ensures.ran (YieldsList-from_slice c.args.places.now cc) (λ x b q k. search (rules, tests))
    ∙ asked_of_each c.args.places.now
