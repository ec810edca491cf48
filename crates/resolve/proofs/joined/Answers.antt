use lib.ListN.{length}
use Rattle.resolve.specs.Resolve.{numbers_from}
use Rattle.resolve.proofs.Listed.{joined_list}
use borrow.Author.Rules.{rules}
use Rattle.resolve.proofs.joined.Goals as goal
-- `resolve::joined`: each list is its elements.
use mathlib.Core.Path.{◌≡◌}

pub returns : goal.returns
unfolding numbers_from
returns c =
    let h : length c.args.p ≡ 24 = search rules in
    let i : length c.args.q ≡ 5 = search rules in
    joined_list c.args.n.drain_ext c.args.n.source_ext c.args.n.drain c.args.n.gate c.args.n.source c.args.n.bulk c.args.rows c.args.count c.args.p c.args.q h i
