-- The stages are a line: card, geometry, scaling, binding, evaluation.
use Rattle.std.specs.Prelude.{ℕ, Bool, ltb}
use Rattle.device.specs.declared.Stage.{Stage}
use Rattle.device.specs.declared.Stage.TheVariants.{Card, Geometry, Scaled, Bound, Evaluated}

abbrev pub stage_number : Stage → ℕ
stage_number Card = 0
stage_number Geometry = 1
stage_number Scaled = 2
stage_number Bound = 3
stage_number Evaluated = 4

-- s lies before t
abbrev pub before : Stage → Stage → Bool
before s t = ltb (stage_number s) (stage_number t)

-- row 10: before binding, for an evaluation; before the first evaluation, for what follows one
unfoldable pub unbound : Stage → Bool
unbound s = before s Bound

unfoldable pub unevaluated : Stage → Bool
unevaluated s = before s Evaluated
