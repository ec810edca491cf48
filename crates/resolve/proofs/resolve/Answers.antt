use Rattle.std.proofs.Common.{◌≡◌, ◌≤◌, length, ℕ, sym, ap, ◌∙◌, arith, subst, List}
use Rattle.std.proofs.lemmas.Result.{err_from_is_err_and}
use Rattle.pattern.specs.Pattern.{Pattern, lists}
use Rattle.device.specs.Refusals.{number_of, done}
use Rattle.stamps.specs.Stamps.{jac_pairs_of}
use Rattle.places.specs.Places.{missing_number, none_missing, numbers_of}
use Rattle.loading.proofs.Rows.{never_0}
use Rattle.resolve.specs.Resolve.{gate_pairs_of, early_row_of}
use Rattle.resolve.proofs.Outcomes.{refused_early, pairs_there, refused_13, accepted, cells_are}
use Rattle.resolve.proofs.resolve.Goals as goal

-- `resolve::resolve`: the early rows, then the 24 pairs, then all numbers in their order.

pub returns-in_err-tested : goal.returns-in_err-tested
returns-in_err-tested c =
    let p = err_from_is_err_and c.from_residual.result c.from_residual.ensures.1 in
    rw (p.1, p.2)
    (sym (refused_early c.args.d (lists c.args.pattern) (number_of c.in_err-tested.field-0.0) c.in_err-tested.ensures.row (never_0 c.in_err-tested.field-0.0)))

pub returns-then-not-none_missing : goal.returns-then-not-none_missing
returns-then-not-none_missing c =
    let P = lists c.args.pattern in
    let room : length c.args.pattern.columns.now ≤ missing_number = omega arith in
    let zero : early_row_of c.args.d P ≡ 0 = sym c.in_ok-tested.ensures.row in
    let pairs = c.pair_numbers-pairs.ensures ∙ ap (λ (Q : Pattern). numbers_of Q (jac_pairs_of c.args.d.terminals)) c.in_ok-tested.ensures.kept in
    let found = sym (pairs_there c.args.d P zero room) ∙ ap none_missing (sym pairs) ∙ sym c.none_missing.ensures ∙ c.if-not-none_missing.true in
    sym (refused_13 c.args.d P zero found)

pub returns : goal.returns
returns c =
    let P = lists c.args.pattern in
    let room : length c.args.pattern.columns.now ≤ missing_number = omega arith in
    let zero : early_row_of c.args.d P ≡ 0 = sym c.in_ok-tested.ensures.row in
    let pairs = c.pair_numbers-pairs.ensures ∙ ap (λ (Q : Pattern). numbers_of Q (jac_pairs_of c.args.d.terminals)) c.in_ok-tested.ensures.kept in
    let gates = c.gate_numbers-gate.ensures ∙ ap (λ (Q : Pattern). numbers_of Q (gate_pairs_of c.args.d.terminals)) c.in_ok-tested.ensures.kept in
    let found = sym (pairs_there c.args.d P zero room) ∙ ap none_missing (sym pairs) ∙ sym c.none_missing.ensures ∙ c.if-not-none_missing.false in
    ap done (c.joined.ensures ∙ cells_are c.args.d.terminals P c.indices-n.result _ _ c.indices-n.ensures pairs gates)
    ∙ sym (accepted c.args.d P zero found)
