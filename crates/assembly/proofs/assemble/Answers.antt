use Rattle.std.proofs.Common.{◌≡◌, ◌≤◌, length, rules, arith, sym, ap, ◌∙◌, subst, Some, None, Option}
use Rattle.device.specs.declared.Terminals.{Terminals}
use Rattle.pattern.specs.Pattern.{lists}
use Rattle.places.specs.Places.{terminals_at, missing_number}
use Rattle.places.specs.LookedUp.{looked_up}
use Rattle.assembly.specs.Assembly.{add_sources, source_contributions, matrix_contributions}
use Rattle.assembly.proofs.Outcome.{refused, accepted, not_there, are_there, looked_added}
use Rattle.assembly.proofs.assemble.Goals as goal

-- `assembly::assemble`: the looked-up places stand for the contributions' cells, so what is tested and added is the contributions.

pub returns-in-None : goal.returns-in-None
returns-in-None c =
    let jacobian_length : length c.args.jacobian ≡ 24 = search rules in
    let room_columns : length c.args.pattern.pattern.columns.now ≤ missing_number = omega arith in
    let P = lists c.args.pattern.pattern in
    let same : terminals_at c.indices-n.result ≡ c.args.t = ap terminals_at c.indices-n.ensures ∙ c.requires in
    let looked : looked_up P c.args.t c.args.b ≡ None = sym (c.look_up.ensures ∙ ap (λ (t : Terminals). looked_up P t c.args.b) same) ∙ c.in-None.is in
    refused P (matrix_contributions c.args.t c.args.jacobian c.args.b) _ _ _
    (not_there P c.args.t c.args.b c.args.jacobian c.args.pattern.fits room_columns jacobian_length looked)

pub returns-in-Some : goal.returns-in-Some
returns-in-Some c =
    let room_values : length c.args.values.now ≤ missing_number = omega arith in
    let jacobian_length : length c.args.jacobian ≡ 24 = search rules in
    let room_columns : length c.args.pattern.pattern.columns.now ≤ missing_number = omega arith in
    let P = lists c.args.pattern.pattern in
    let same : terminals_at c.indices-n.result ≡ c.args.t = ap terminals_at c.indices-n.ensures ∙ c.requires in
    let looked : looked_up P c.args.t c.args.b ≡ Some c.in-Some.cells = sym (c.look_up.ensures ∙ ap (λ (t : Terminals). looked_up P t c.args.b) same) ∙ c.in-Some.is in
    accepted P (matrix_contributions c.args.t c.args.jacobian c.args.b) (source_contributions c.args.t c.args.o c.args.b) c.args.values.now c.args.rhs.now
    (are_there P c.args.t c.args.b c.args.jacobian c.args.pattern.fits room_columns jacobian_length c.in-Some.cells looked)
    _ _
    (c.add_matrix.ensures ∙ looked_added P c.args.t c.args.b c.args.jacobian c.in-Some.cells looked c.args.values.now room_values)
    (c.add_sources.ensures ∙ ap (λ (t : Terminals). add_sources (source_contributions t c.args.o c.args.b) c.args.rhs.now) same)
