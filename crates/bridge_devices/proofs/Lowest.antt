-- The lower of two rows is the first row that applies to one of two.
use mathlib.Core.Path.{◌≡◌, refl}
use mathlib.Core.Bool.{Bool, true, false, ◌||◌}
use Rattle.bridge_devices.specs.Steps.{first_of, lower}

pub lower_of_two : (a0 a1 a2 a3 a4 b0 b1 b2 b3 b4 : Bool)
    → lower (first_of a0 a1 a2 a3 a4) (first_of b0 b1 b2 b3 b4) ≡ first_of (a0 || b0) (a1 || b1) (a2 || b2) (a3 || b3) (a4 || b4)
unfolding first_of lower
lower_of_two true a1 a2 a3 a4 true b1 b2 b3 b4 = refl
lower_of_two true a1 a2 a3 a4 false true b2 b3 b4 = refl
lower_of_two true a1 a2 a3 a4 false false true b3 b4 = refl
lower_of_two true a1 a2 a3 a4 false false false true b4 = refl
lower_of_two true a1 a2 a3 a4 false false false false true = refl
lower_of_two true a1 a2 a3 a4 false false false false false = refl
lower_of_two false true a2 a3 a4 true b1 b2 b3 b4 = refl
lower_of_two false true a2 a3 a4 false true b2 b3 b4 = refl
lower_of_two false true a2 a3 a4 false false true b3 b4 = refl
lower_of_two false true a2 a3 a4 false false false true b4 = refl
lower_of_two false true a2 a3 a4 false false false false true = refl
lower_of_two false true a2 a3 a4 false false false false false = refl
lower_of_two false false true a3 a4 true b1 b2 b3 b4 = refl
lower_of_two false false true a3 a4 false true b2 b3 b4 = refl
lower_of_two false false true a3 a4 false false true b3 b4 = refl
lower_of_two false false true a3 a4 false false false true b4 = refl
lower_of_two false false true a3 a4 false false false false true = refl
lower_of_two false false true a3 a4 false false false false false = refl
lower_of_two false false false true a4 true b1 b2 b3 b4 = refl
lower_of_two false false false true a4 false true b2 b3 b4 = refl
lower_of_two false false false true a4 false false true b3 b4 = refl
lower_of_two false false false true a4 false false false true b4 = refl
lower_of_two false false false true a4 false false false false true = refl
lower_of_two false false false true a4 false false false false false = refl
lower_of_two false false false false true true b1 b2 b3 b4 = refl
lower_of_two false false false false true false true b2 b3 b4 = refl
lower_of_two false false false false true false false true b3 b4 = refl
lower_of_two false false false false true false false false true b4 = refl
lower_of_two false false false false true false false false false true = refl
lower_of_two false false false false true false false false false false = refl
lower_of_two false false false false false true b1 b2 b3 b4 = refl
lower_of_two false false false false false false true b2 b3 b4 = refl
lower_of_two false false false false false false false true b3 b4 = refl
lower_of_two false false false false false false false false true b4 = refl
lower_of_two false false false false false false false false false true = refl
lower_of_two false false false false false false false false false false = refl
