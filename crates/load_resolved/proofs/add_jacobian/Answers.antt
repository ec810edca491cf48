use mathlib.Core.Bool.{true}
use Prim.Native.Nat.{ℕ}
use native.Mathlib.Omega.{arith}
use lib.ListN.{length}
use Rattle.stamps.specs.Stamps.{jac_pairs_of}
use Rattle.places.specs.Places.{terminals_at}
use Rattle.resolved_rows.specs.LoadResolved.{numbers_from}
use Rattle.resolved_rows.specs.ByNumbers.{pairs_stored}
use Rattle.load_resolved.proofs.Stored.{length_stored, length_channel, length_pair, jacobian_parts}
use Rattle.load_resolved.proofs.There.{channel_there, rd_there, rs_there, bs_there, bd_there}
use Rattle.load_resolved.proofs.add_jacobian.Goals as goal
-- `load_resolved::add_jacobian`: the channel, then four conductances.
use mathlib.Core.Path.{◌≡◌, sym, ap, ◌∙◌, subst}

pub add_channel-requires : goal.add_channel-requires
add_channel-requires c = channel_there _ _ _ c.requires

pub add_series-requires : goal.add_series-requires
add_series-requires c =
    let later : (n : ℕ) → n ≡ length c.args.xs.now → pairs_stored n (jac_pairs_of (terminals_at c.args.n)) (numbers_from c.args.cells.now 8 24) ≡ true = λ n same. subst (λ (n : ℕ). pairs_stored n (jac_pairs_of (terminals_at c.args.n)) (numbers_from c.args.cells.now 8 24) ≡ true) (sym same) c.requires in
    let same = ap length c.add_channel.ensures ∙ length_channel _ _ _ _ in
    (omega arith, rd_there _ _ _ (later _ same))

pub add_series-requires-2 : goal.add_series-requires-2
add_series-requires-2 c =
    let later : (n : ℕ) → n ≡ length c.args.xs.now → pairs_stored n (jac_pairs_of (terminals_at c.args.n)) (numbers_from c.args.cells.now 8 24) ≡ true = λ n same. subst (λ (n : ℕ). pairs_stored n (jac_pairs_of (terminals_at c.args.n)) (numbers_from c.args.cells.now 8 24) ≡ true) (sym same) c.requires in
    let same = ap length c.add_series.ensures ∙ length_pair _ _ _ _ _ _ _ _ ∙ ap length c.add_channel.ensures ∙ length_channel _ _ _ _ in
    (omega arith, rs_there _ _ _ (later _ same))

pub add_pair-requires : goal.add_pair-requires
add_pair-requires c =
    let later : (n : ℕ) → n ≡ length c.args.xs.now → pairs_stored n (jac_pairs_of (terminals_at c.args.n)) (numbers_from c.args.cells.now 8 24) ≡ true = λ n same. subst (λ (n : ℕ). pairs_stored n (jac_pairs_of (terminals_at c.args.n)) (numbers_from c.args.cells.now 8 24) ≡ true) (sym same) c.requires in
    let same = ap length c.add_series-2.ensures ∙ length_pair _ _ _ _ _ _ _ _ ∙ ap length c.add_series.ensures ∙ length_pair _ _ _ _ _ _ _ _ ∙ ap length c.add_channel.ensures ∙ length_channel _ _ _ _ in
    (omega arith, bs_there _ _ _ (later _ same))

pub add_pair-requires-2 : goal.add_pair-requires-2
add_pair-requires-2 c =
    let later : (n : ℕ) → n ≡ length c.args.xs.now → pairs_stored n (jac_pairs_of (terminals_at c.args.n)) (numbers_from c.args.cells.now 8 24) ≡ true = λ n same. subst (λ (n : ℕ). pairs_stored n (jac_pairs_of (terminals_at c.args.n)) (numbers_from c.args.cells.now 8 24) ≡ true) (sym same) c.requires in
    let same = ap length c.add_pair.ensures ∙ length_pair _ _ _ _ _ _ _ _ ∙ ap length c.add_series-2.ensures ∙ length_pair _ _ _ _ _ _ _ _ ∙ ap length c.add_series.ensures ∙ length_pair _ _ _ _ _ _ _ _ ∙ ap length c.add_channel.ensures ∙ length_channel _ _ _ _ in
    (omega arith, bd_there _ _ _ (later _ same))

pub returns : goal.returns
returns c = rw (c.add_pair-2.ensures, c.add_pair.ensures, c.add_series-2.ensures, c.add_series.ensures, c.add_channel.ensures) (jacobian_parts _ _ _ _)

pub shape_of-xs : goal.shape_of-xs
shape_of-xs c = ap length (returns c) ∙ length_stored _ _ _
