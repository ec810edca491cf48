-- Ranges of floats with both ends included, and the temperatures that row 6 lets pass.
use Rattle.std.specs.Prelude.{Bool, not, ◌&&◌, Float}
use Rattle.std.specs.Float.{binary64}
use Rattle.std.specs.Float.Ieee.{of_bits}
use Rattle.exact.specs.Float64.{◌≤f◌}
use Rattle.temperature.specs.declared.Kelvin.{Kelvin}

-- false where one of the three is a NaN
abbrev pub within : Float → Float → Float → Bool
within x least greatest = (least ≤f x) && (x ≤f greatest)

-- 200 and 500, in kelvin
abbrev pub coldest : Float
coldest = of_bits binary64 0x4069_0000_0000_0000

abbrev pub hottest : Float
hottest = of_bits binary64 0x407f_4000_0000_0000

-- row 6: outside 200 to 500 K, or a NaN
abbrev pub outside_temperatures : Kelvin → Bool
outside_temperatures t = not (within t.0 coldest hottest)
