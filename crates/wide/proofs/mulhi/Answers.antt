use Rattle.wide.proofs.mulhi.Goals as goal
-- `wide::mulhi` meets its contract.
use Rattle.wide.proofs.Product.{mulhi_law, w0_fits, cross_fits, t_fits, cross_fits_2, w1_fits, high_fits, without_carry, upper_fits}

pub overflow_mul-w0 : goal.overflow_mul-w0
overflow_mul-w0 c = w0_fits c.args.u c.args.v c.ranges.u.fits c.ranges.v.fits

pub overflow_mul-t : goal.overflow_mul-t
overflow_mul-t c = cross_fits c.args.u c.args.v c.ranges.u.fits c.ranges.v.fits

pub overflow_add-t : goal.overflow_add-t
overflow_add-t c = t_fits c.args.u c.args.v c.ranges.u.fits c.ranges.v.fits

pub overflow_mul-w1 : goal.overflow_mul-w1
overflow_mul-w1 c = cross_fits_2 c.args.u c.args.v c.ranges.u.fits c.ranges.v.fits

pub overflow_add-w1 : goal.overflow_add-w1
overflow_add-w1 c = w1_fits c.args.u c.args.v c.ranges.u.fits c.ranges.v.fits

pub overflow_mul-result : goal.overflow_mul-result
overflow_mul-result c = high_fits c.args.u c.args.v c.ranges.u.fits c.ranges.v.fits

pub overflow_add-result : goal.overflow_add-result
overflow_add-result c = without_carry c.args.u c.args.v c.ranges.u.fits c.ranges.v.fits

pub overflow_add-result-2 : goal.overflow_add-result-2
overflow_add-result-2 c = upper_fits c.args.u c.args.v c.ranges.u.fits c.ranges.v.fits

pub returns : goal.returns
returns c = mulhi_law c.args.u c.args.v
