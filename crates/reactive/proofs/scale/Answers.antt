use Rattle.reactive.specs.Charge.{scale_of}
use Rattle.reactive.proofs.scale.Goals as goal

pub returns-in-None : goal.returns-in-None
unfolding scale_of
returns-in-None c = rw c.in-None.is

pub returns-in-Euler : goal.returns-in-Euler
unfolding scale_of
returns-in-Euler c = rw c.in-Euler.is c.euler_conductance.ensures

pub returns-in-Trapezoid : goal.returns-in-Trapezoid
unfolding scale_of
returns-in-Trapezoid c = rw c.in-Trapezoid.is c.trapezoid_conductance.ensures

pub returns-in-Gear : goal.returns-in-Gear
unfolding scale_of
returns-in-Gear c = rw c.in-Gear.is c.gear_conductance.ensures
