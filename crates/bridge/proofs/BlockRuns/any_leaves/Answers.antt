use borrow.Author.Tests.{tests}
use Rattle.std.proofs.Common.{ℕ, rules, ◌∙◌}
use Rattle.std.proofs.lemmas.Iterator.{YieldsList-from_slice, YieldsList-from_zip}
use Rattle.std.proofs.lemmas.Iterator.Consumers.{YieldsList-at}
use Rattle.std.proofs.lemmas.Iterator.Search.{any_from_yields_List}
use Rattle.bridge.specs.Runs.{leaves}
use Rattle.bridge.proofs.Runs.{any_beside}
use Rattle.bridge.proofs.BlockRuns.any_leaves.Goals as goal

pub returns : goal.returns
returns c =
    let road = YieldsList-from_zip {s = c.zip.result} (YieldsList-at c.zip.ensures.first (YieldsList-from_slice c.args.self.starts.now c.iter.ensures.rest)) (YieldsList-from_slice c.args.self.counts.now c.zip.ensures.second.0) in
    any_from_yields_List (λ (q : ℕ × ℕ). leaves c.args.rows (record { start = q.0; count = q.1 })) c.any.new.self _ c.any.result c.any.ensures.ran road (λ x b q k. search (rules, tests))
    ∙ any_beside (leaves c.args.rows) c.args.self.starts.now c.args.self.counts.now
