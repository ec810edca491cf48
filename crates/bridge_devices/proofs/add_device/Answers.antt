use Rattle.pattern.specs.Pattern.{lists}
use Rattle.loading.proofs.Rows.{accepted_late}
use Rattle.bridge_devices.proofs.Rows.{early, terminals_same, assembled_there}
use Rattle.bridge_devices.proofs.add_device.Goals as goal
-- `bridge_devices::add_device`: the assembly of the contributions of a device whose rows were asked.
use native.Mathlib.Omega.{arith}

pub assemble-there-requires : goal.assemble-there-requires
assemble-there-requires c = terminals_same c.args.d c.args.kind (lists c.args.pattern.pattern) c.args.rhs.now c.args.values.now c.requires (omega arith)

pub returns : goal.returns
returns c =
    accepted_late c.args.d c.args.kind (lists c.args.pattern.pattern) c.args.rhs.now c.args.values.now
    c.jac_values-jacobian.result c.residual_values-residual.result c.branches-charge.result
    c.jac_values-jacobian.ensures c.residual_values-residual.ensures c.branches-charge.ensures
    (early c.args.d c.args.kind (lists c.args.pattern.pattern) c.args.rhs.now c.args.values.now c.requires)
    c.assemble-there.result _ _
    (assembled_there c.args.d c.args.kind (lists c.args.pattern.pattern) c.args.rhs.now c.args.values.now c.requires c.jac_values-jacobian.result c.branches-charge.result c.assemble-there.result c.jac_values-jacobian.ensures c.branches-charge.ensures c.assemble-there.ensures.answer)
    c.assemble-there.ensures
