use borrow.Author.Tests.{tests}
use lib.ListN.{length}
use lib.Ieee.{Float}
use mathlib.Core.List.{List}
use Rattle.std.proofs.Common.{rules, ◌∙◌}
use Rattle.std.proofs.lemmas.Iterator.{YieldsList-from_slice}
use Rattle.std.proofs.lemmas.Iterator.Search.{all_from_yields_List}
use Rattle.from_record.specs.Tags.{good_tags}
use Rattle.record_words.specs.Words.{record_of}
use Rattle.device_bank.proofs.Rows.{all_good}
use Rattle.device_bank.proofs.good_bank.Goals as goal

pub returns : goal.returns
returns c =
    all_from_yields_List (λ (w : List Float). good_tags (record_of w)) c.all.new.self _ c.all.result c.all.ensures.ran (YieldsList-from_slice c.args.bank.now c.iter.ensures.rest) (λ x b q k. search (rules, tests))
    ∙ all_good c.args.bank.now
