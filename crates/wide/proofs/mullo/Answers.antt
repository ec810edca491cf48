use Rattle.wide.proofs.mullo.Goals as goal
-- `wide::mullo` meets its contract.
use Rattle.wide.proofs.Product.{mullo_law, w0_fits, cross_fits, t_fits, cross_fits_2, w1_fits, lower_fits}

pub overflow_mul-w0 : goal.overflow_mul-w0
overflow_mul-w0 c = w0_fits c.args.u c.args.v c.ranges.u.fits c.ranges.v.fits

pub overflow_mul-t : goal.overflow_mul-t
overflow_mul-t c = cross_fits c.args.u c.args.v c.ranges.u.fits c.ranges.v.fits

pub overflow_add-t : goal.overflow_add-t
overflow_add-t c = t_fits c.args.u c.args.v c.ranges.u.fits c.ranges.v.fits

pub overflow_mul-w1 : goal.overflow_mul-w1
overflow_mul-w1 c = cross_fits_2 c.args.u c.args.v c.ranges.u.fits c.ranges.v.fits

pub overflow_add-w1 : goal.overflow_add-w1
overflow_add-w1 c = w1_fits c.args.u c.args.v c.ranges.u.fits c.ranges.v.fits

pub overflow_add-result : goal.overflow_add-result
overflow_add-result c = lower_fits c.args.u c.args.v c.ranges.u.fits c.ranges.v.fits

pub returns : goal.returns
returns c = mullo_law c.args.u c.args.v
