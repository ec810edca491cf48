use Rattle.std.proofs.Common.{ℕ, ltb, ap, ◌∙◌, rules}
use Rattle.std.proofs.lemmas.List.Sorted.{answers_always}
use borrow.Author.Tests.{tests}
use Rattle.pattern.specs.Pattern.{rising}
use Rattle.pattern.proofs.Rows.{rising_decided, part_is}
use Rattle.pattern.proofs.rises.Goals as goal

-- `pattern::rises`: each column of the part is below the one behind it.

pub returns : goal.returns
returns c =
    rising_decided _ _ (c.is_sorted_by.ensures.cases (λ (x y : ℕ). ltb x y) (answers_always _ _ _ (λ f a r g q. search (rules, tests))))
    ∙ ap rising (part_is c.args.from c.args.to c.args.columns.now c.requires.0)
