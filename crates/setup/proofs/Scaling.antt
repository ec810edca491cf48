-- The scaling call's answers, by the tests that lead to them.
use mathlib.Core.Path.{◌≡◌, ◌∙◌}
use mathlib.Core.Bool.{true, false}
use Rattle.temperature.specs.declared.Kelvin.{Kelvin}
use Rattle.device.specs.Limits.{outside_temperatures}
use Rattle.device.specs.Refusals.{done, refused}
use Rattle.device.specs.Stages.{before}
use Rattle.device.specs.declared.Mosfet1.{Mosfet1}
use Rattle.device.specs.declared.Stage.TheVariants.{Geometry}
use Rattle.device.proofs.Branches.{cond_yes, cond_no}
use Rattle.setup.specs.Scaling.{scaled_at, potentials_low, scaled_to, scaling_of}

module _ (d : Mosfet1) (t : Kelvin) where
  pub refused_6 : outside_temperatures t ≡ true → refused 6 ≡ scaling_of d t
  unfolding scaling_of
  refused_6 o = cond_yes _ _ o

  pub refused_7 : outside_temperatures t ≡ false → potentials_low (scaled_at d.card t) ≡ true → refused 7 ≡ scaling_of d t
  unfolding scaling_of
  refused_7 o p = cond_yes _ _ p ∙ cond_no _ _ o

  pub refused_10 : outside_temperatures t ≡ false → potentials_low (scaled_at d.card t) ≡ false → before d.stage Geometry ≡ true → refused 10 ≡ scaling_of d t
  unfolding scaling_of
  refused_10 o p s = cond_yes _ _ s ∙ cond_no _ _ p ∙ cond_no _ _ o

  pub accepted : outside_temperatures t ≡ false → potentials_low (scaled_at d.card t) ≡ false → before d.stage Geometry ≡ false → done (scaled_to d (scaled_at d.card t)) ≡ scaling_of d t
  unfolding scaling_of
  accepted o p s = cond_no _ _ s ∙ cond_no _ _ p ∙ cond_no _ _ o
