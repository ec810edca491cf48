-- The bounds of a device that a list of calls can leave: every parameter, and what evaluations and commits left.
use Rattle.device.specs.declared.Mosfet1.{Mosfet1}
use Rattle.parameter_sizes.specs.ParameterSizes.{DeviceSizes}
use Rattle.evaluation_sizes.specs.EvaluationSizes.{StateSizes}

pub record DeviceBounds (d : Mosfet1) : Type 0 where
  pub parameters : DeviceSizes d
  pub state : StateSizes d
