use Rattle.std.proofs.Common.{◌≡◌, not, length, arith, sym, ◌∙◌, subst, List}
use lib.Ieee.{Float}
use Rattle.pattern.specs.Pattern.{Pattern, lists, well_formed}
use Rattle.std.proofs.lemmas.Result.{err_from_is_err_and}
use Rattle.device.specs.Refusals.{number_of}
use Rattle.assembly.specs.Assembly.{matrix_contributions, source_contributions, Assembled}
use Rattle.loading.specs.Loading.{alpha_outside}
use Rattle.loading.proofs.Rows.{never_0, early_terminals, refused_early, refused_late, accepted_late}
use Rattle.loading.proofs.load.Goals as goal

-- `loading::load`: the early rows, then the assembly of the device's own contributions.

pub returns-in_err-tested : goal.returns-in_err-tested
returns-in_err-tested c =
    let p = err_from_is_err_and c.from_residual.result c.from_residual.ensures.1 in
    rw (p.1, p.2)
    (refused_early c.args.device c.args.kind (lists c.args.pattern) c.args.rhs.now c.args.values.now (number_of c.in_err-tested.field-0.0)
    c.in_err-tested.ensures.row (never_0 c.in_err-tested.field-0.0))

pub assemble-requires : goal.assemble-requires
assemble-requires c =
    early_terminals c.args.device.stage c.args.device.terminals (length c.args.rhs.now) (length c.args.pattern.offsets.now) (alpha_outside c.args.device.disc c.args.kind)
    (not (well_formed c.args.pattern.columns.now c.args.pattern.offsets.now c.args.pattern.lengths.now (length c.args.values.now))) (omega arith) (sym c.in_ok-tested.ensures.row)

pub returns-then-assemble : goal.returns-then-assemble
returns-then-assemble c =
    let own = λ (P : Pattern). Assembled P (matrix_contributions c.args.device.terminals c.jac_values-jacobian.result c.branches-charge.result) (source_contributions c.args.device.terminals c.residual_values-residual.result c.branches-charge.result) c.args.values.now c.args.rhs.now c.assemble.result c.assemble.new.values c.assemble.new.rhs in
    accepted_late c.args.device c.args.kind (lists c.args.pattern) c.args.rhs.now c.args.values.now
    c.jac_values-jacobian.result c.residual_values-residual.result c.branches-charge.result
    c.jac_values-jacobian.ensures c.residual_values-residual.ensures c.branches-charge.ensures
    (sym c.in_ok-tested.ensures.row)
    c.assemble.result _ _ c.if-assemble.true (subst own c.in_ok-tested.ensures.kept c.assemble.ensures)

pub returns-else-assemble : goal.returns-else-assemble
returns-else-assemble c =
    let own = λ (P : Pattern). Assembled P (matrix_contributions c.args.device.terminals c.jac_values-jacobian.result c.branches-charge.result) (source_contributions c.args.device.terminals c.residual_values-residual.result c.branches-charge.result) c.args.values.now c.args.rhs.now c.assemble.result c.assemble.new.values c.assemble.new.rhs in
    refused_late c.args.device c.args.kind (lists c.args.pattern) c.args.rhs.now c.args.values.now
    c.jac_values-jacobian.result c.residual_values-residual.result c.branches-charge.result
    c.jac_values-jacobian.ensures c.residual_values-residual.ensures c.branches-charge.ensures
    (sym c.in_ok-tested.ensures.row)
    c.assemble.result _ _ c.if-assemble.false (subst own c.in_ok-tested.ensures.kept c.assemble.ensures)
