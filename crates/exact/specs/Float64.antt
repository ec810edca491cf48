-- binary64's operators under short names, one rounding each, and the methods of Rust's f64 that the model calls.
use Rattle.std.specs.Prelude.{Bool, false, cond, Float}
use Rattle.std.specs.Float.{nan, inf, fin, binary64}
use Rattle.std.specs.Float.Ieee.{add, sub, mul, div, lt, le, eq, ne, of_bits}

infixl 6 ◌⊕◌ ◌⊖◌
infixl 7 ◌⊗◌ ◌⊘◌
abbrev pub ◌⊕◌ : Float → Float → Float
x ⊕ y = add binary64 x y

abbrev pub ◌⊖◌ : Float → Float → Float
x ⊖ y = sub binary64 x y

abbrev pub ◌⊗◌ : Float → Float → Float
x ⊗ y = mul binary64 x y

abbrev pub ◌⊘◌ : Float → Float → Float
x ⊘ y = div binary64 x y

-- comparisons: false where a NaN stands, but ≠f, which is true there; -0 equals +0
infix 4 ◌<f◌ ◌≤f◌ ◌>f◌ ◌≥f◌ ◌=f◌ ◌≠f◌
abbrev pub ◌<f◌ : Float → Float → Bool
x <f y = lt x y

abbrev pub ◌≤f◌ : Float → Float → Bool
x ≤f y = le x y

abbrev pub ◌>f◌ : Float → Float → Bool
x >f y = lt y x

abbrev pub ◌≥f◌ : Float → Float → Bool
x ≥f y = le y x

abbrev pub ◌=f◌ : Float → Float → Bool
x =f y = eq x y

abbrev pub ◌≠f◌ : Float → Float → Bool
x ≠f y = ne x y

-- constants as a program's text has them, by their bits: 0.0, 1.0, -1.0
abbrev pub +0 : Float
+0 = of_bits binary64 0

abbrev pub +1 : Float
+1 = of_bits binary64 0x3ff0_0000_0000_0000

abbrev pub -1 : Float
-1 = of_bits binary64 0xbff0_0000_0000_0000

-- f64::abs: the sign is cleared
unfoldable pub absolute : Float → Float
absolute nan = nan
absolute (inf s) = inf false
absolute (fin s m e) = fin false m e

-- f64::signum: 1 or -1 by the sign, a zero's too; NaN at NaN
unfoldable pub signum : Float → Float
signum nan = nan
signum (inf s) = cond s -1 +1
signum (fin s m e) = cond s -1 +1

-- f64::max: the larger; where one is a NaN, the other (of two zeros the first)
unfoldable pub maximum : Float → Float → Float
maximum nan y = y
maximum (inf s) y = cond (inf s <f y) y (inf s)
maximum (fin s m e) y = cond (fin s m e <f y) y (fin s m e)
