-- The bounds of what grades a junction, each a little wider than the range that document 01 lets pass, so that the rounding of its ends has room.
use Rattle.std.specs.Prelude.{◌^◌, T, pos, Float}
use Rattle.std.specs.Float.{binary64}
use Rattle.std.specs.Float.Ieee.{fits}
use Rattle.exact.specs.Fraction.{◌//◌, nat, negq}
use Rattle.exact.specs.Size.{Range, AtMost}
use Rattle.capacitance.specs.declared.Grading.{Grading}

-- "fc 0–0.95"
abbrev pub Coefficient : Float → Type 0
Coefficient fc = Range fc (nat 0) (951 // 1000)

-- "mj, mjsw 0–0.9"
abbrev pub GradingExponent : Float → Type 0
GradingExponent m = Range m (nat 0) (91 // 100)

-- row 7 refuses a scaled pb below 0.05 V; none is above 32 V
abbrev pub Potential : Float → Type 0
Potential pb = Range pb (49 // 1000) (nat 32)

-- the rounded difference of two node voltages of at most 1,000 V in size, flipped by polarity or not
abbrev pub NodeDifference : Float → Type 0
NodeDifference v = Range v (negq (nat 2000)) (nat 2000)

-- a base of the law's powers: 1 - v / pb below fc pb, or 1 - fc
abbrev pub Base : Float → Type 0
Base x = Range x (3 // 64) (nat (2 ^ 16))

pub record GradingSizes (g : Grading) : Type 0 where
  pub fc : Coefficient g.fc
  pub pb_t : Potential g.pb_t
  pub mj : GradingExponent g.mj
  pub mj_fits : T (fits binary64 g.mj)
  pub mjsw : GradingExponent g.mjsw
  pub mjsw_fits : T (fits binary64 g.mjsw)
  pub cj_t_factor : AtMost g.cj_t_factor (pos 120)
  pub cjsw_t_factor : AtMost g.cjsw_t_factor (pos 120)
