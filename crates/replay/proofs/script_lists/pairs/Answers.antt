use Rattle.std.proofs.Common.{◌≡◌, ℕ, Option, true, false, Some, None, length, min, refl, ap, sym, ◌∙◌, arith, rules}
use Rattle.std.specs.Option.{option_map}
use Rattle.std.proofs.lemmas.Option.{MatchOption-at_some, MatchOption-at_none}
use Rattle.replay.specs.Lists.{items, is_empty_list, count_of}
use Rattle.replay.specs.Items.{pair_of, offset_in, length_in}
use Rattle.replay.proofs.script_lists.Filling.{Read, begun, further, finished, not_read, no_place, empty_read, list_read}
use Rattle.replay.proofs.script_lists.pairs.Goals as goal

pub returns-then-eq : goal.returns-then-eq
returns-then-eq c =
    let A = c.args in let f : is_empty_list A.w.now ≡ true = search rules in
    let room : ℕ = min (length A.offsets.now) (length A.lengths.now) in
    let R = empty_read offset_in room A.w.now A.offsets.now f in let S = empty_read length_in room A.w.now A.lengths.now f in
    record { value = R.count; offsets_after = R.left; lengths_after = S.left }

pub returns-in_err-offset : goal.returns-in_err-offset
unfolding offset_in length_in
returns-in_err-offset c =
    let A = c.args in let L = c.loop-n in let f : is_empty_list A.w.now ≡ false = search rules in
    let F = c.first_item in
    let p : pair_of F.result.0.now ≡ None = search rules in
    let i : offset_in F.result.0.now ≡ None = ap (option_map (λ (q : ℕ × ℕ). q.0)) p in
    let j : length_in F.result.0.now ≡ None = ap (option_map (λ (q : ℕ × ℕ). q.1)) p in
    let R = list_read f (not_read L.rest.now F.result.0.now F.result.1 L.invariant.0 F.ensures (omega arith) i) in
    let S = list_read f (not_read L.rest.now F.result.0.now F.result.1 L.invariant.1 F.ensures (omega arith) j) in
    let n : ◌≡◌ {A = Option ℕ} None (count_of offset_in (min (length A.offsets.now) (length A.lengths.now)) A.w.now) = R.count in
    record { value = cc; offsets_after = R.left; lengths_after = S.left }

pub returns-in-None : goal.returns-in-None
unfolding offset_in length_in
returns-in-None c =
    let A = c.args in let L = c.loop-n in let f : is_empty_list A.w.now ≡ false = search rules in
    let F = c.first_item in let X = c.in_ok-offset in
    let p : pair_of F.result.0.now ≡ Some (X.offset, X.length) = search rules in
    let i : offset_in F.result.0.now ≡ Some X.offset = ap (option_map (λ (q : ℕ × ℕ). q.0)) p in
    let j : length_in F.result.0.now ≡ Some X.length = ap (option_map (λ (q : ℕ × ℕ). q.1)) p in
    let R = list_read f (finished (further L.invariant.0 (MatchOption-at_none _ _ c.in-None.is F.ensures) (omega arith) X.offset i) refl) in
    let S = list_read f (finished (further L.invariant.1 (MatchOption-at_none _ _ c.in-None.is F.ensures) (omega arith) X.length j) refl) in
    record { value = R.count; offsets_after = R.left; lengths_after = S.left }

pub loop-n-preserved : goal.loop-n-preserved
unfolding offset_in length_in
loop-n-preserved c =
    let L = c.loop-n in let F = c.first_item in let X = c.in_ok-offset in
    let p : pair_of F.result.0.now ≡ Some (X.offset, X.length) = search rules in
    let i : offset_in F.result.0.now ≡ Some X.offset = ap (option_map (λ (q : ℕ × ℕ). q.0)) p in
    let j : length_in F.result.0.now ≡ Some X.length = ap (option_map (λ (q : ℕ × ℕ). q.1)) p in (
      further L.invariant.0 (MatchOption-at_some _ _ c.in-Some.s c.in-Some.is F.ensures) (omega arith) X.offset i,
      further L.invariant.1 (MatchOption-at_some _ _ c.in-Some.s c.in-Some.is F.ensures) (omega arith) X.length j,
    )

pub returns : goal.returns
returns c =
    let A = c.args in let L = c.loop-n in let f : is_empty_list A.w.now ≡ false = search rules in
    let R = list_read f (no_place L.rest.now L.invariant.0 (omega arith)) in
    let S = list_read f (no_place L.rest.now L.invariant.1 (omega arith)) in
    record { value = R.count; offsets_after = R.left; lengths_after = S.left }
