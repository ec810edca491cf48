-- The ranges of the parameters, ends included: one table for the card and the geometry call.
use Rattle.std.specs.Prelude.{Bool, true, false, not, ◌||◌, Float}
use Rattle.std.specs.Float.{binary64}
use Rattle.std.specs.Float.Ieee.{of_bits, neg}
use Rattle.exact.specs.Float64.{◌=f◌, +0, +1}
use Rattle.temperature.specs.Temperature.{kelvin_of}
use Rattle.device.specs.Limits.{within, outside_temperatures}
use Rattle.keys.specs.declared.Key.{Key}
use Rattle.keys.specs.declared.Key.TheVariants.{Vto, Kp, Uo, Is, Js, Lambda, Gamma, Phi, Rd, Rs, Rsh, Kf, Af, Cgso, Cgdo, Cgbo, Cox, Tox, Cj, Cjsw, Pb, Mj, Mjsw, Fc, W, L, Nrd, Nrs, As, Ad, Ps, Pd}
use Rattle.keys.specs.declared.Meaning.{Meaning}
use Rattle.keys.specs.declared.Meaning.TheVariants.{Sets, Tnom, Unread, Unknown}
use Rattle.keys.specs.declared.Range.{Range}
use Rattle.keys.specs.declared.Range.TheVariants.{Within, ZeroOr}

-- the ends are the doubles nearest to the decimals that name them
abbrev pub -100 : Float
-100 = neg (of_bits binary64 0x4059_0000_0000_0000)

abbrev pub +1e-10 : Float
+1e-10 = of_bits binary64 0x3ddb_7cdf_d9d7_bdbb

abbrev pub +1e-9 : Float
+1e-9 = of_bits binary64 0x3e11_2e0b_e826_d695

abbrev pub +1e-6 : Float
+1e-6 = of_bits binary64 0x3eb0_c6f7_a0b5_ed8d

abbrev pub +1e-4 : Float
+1e-4 = of_bits binary64 0x3f1a_36e2_eb1c_432d

abbrev pub +0·1 : Float
+0·1 = of_bits binary64 0x3fb9_9999_9999_999a

abbrev pub +0·25 : Float
+0·25 = of_bits binary64 0x3fd0_0000_0000_0000

abbrev pub +0·9 : Float
+0·9 = of_bits binary64 0x3fec_cccc_cccc_cccd

abbrev pub +0·95 : Float
+0·95 = of_bits binary64 0x3fee_6666_6666_6666

abbrev pub +4 : Float
+4 = of_bits binary64 0x4010_0000_0000_0000

abbrev pub +10 : Float
+10 = of_bits binary64 0x4024_0000_0000_0000

abbrev pub +100 : Float
+100 = of_bits binary64 0x4059_0000_0000_0000

abbrev pub +1e3 : Float
+1e3 = of_bits binary64 0x408f_4000_0000_0000

abbrev pub +1e5 : Float
+1e5 = of_bits binary64 0x40f8_6a00_0000_0000

abbrev pub +1e6 : Float
+1e6 = of_bits binary64 0x412e_8480_0000_0000

abbrev pub +1e9 : Float
+1e9 = of_bits binary64 0x41cd_cd65_0000_0000

-- least and greatest; `ZeroOr` lets 0 pass too
abbrev pub range_of : Key → Range
range_of Vto = Within -100 +100
range_of Kp = Within +0 +100
range_of Uo = Within +0 +1e5
range_of Is = Within +0 +1
range_of Js = Within +0 +1e6
range_of Lambda = Within +0 +10
range_of Gamma = Within +0 +100
range_of Phi = Within +0·1 +10
range_of Rd = ZeroOr +1e-6 +1e9
range_of Rs = ZeroOr +1e-6 +1e9
range_of Rsh = ZeroOr +1e-6 +1e6
range_of Kf = Within +0 +1
range_of Af = Within +0·25 +4
range_of Cgso = Within +0 +1
range_of Cgdo = Within +0 +1
range_of Cgbo = Within +0 +1
range_of Cox = Within +0 +1
range_of Tox = Within +1e-10 +1e-4
range_of Cj = Within +0 +1
range_of Cjsw = Within +0 +1
range_of Pb = Within +0·1 +10
range_of Mj = Within +0 +0·9
range_of Mjsw = Within +0 +0·9
range_of Fc = Within +0 +0·95
range_of W = Within +1e-9 +1
range_of L = Within +1e-9 +1
range_of Nrd = ZeroOr +1e-6 +1e6
range_of Nrs = ZeroOr +1e-6 +1e6
range_of As = Within +0 +1
range_of Ad = Within +0 +1
range_of Ps = Within +0 +1e3
range_of Pd = Within +0 +1e3

-- row 4 for a value: a NaN is outside every range; -0 counts as 0
abbrev pub outside_range : Range → Float → Bool
outside_range (Within least greatest) v = not (within v least greatest)
outside_range (ZeroOr least greatest) v = not ((v =f +0) || within v least greatest)

-- row 4 for a key: only a key that sets a parameter has its value tested
abbrev pub outside_of : Meaning → Float → Bool
outside_of (Sets k) v = outside_range (range_of k) v
outside_of Tnom v = false
outside_of Unread v = false
outside_of Unknown v = false

-- row 6 for a key: a tnom, in degrees Celsius, is tested in kelvin
abbrev pub tnom_outside : Meaning → Float → Bool
tnom_outside (Sets k) v = false
tnom_outside Tnom v = outside_temperatures (kelvin_of (record { 0 = v }))
tnom_outside Unread v = false
tnom_outside Unknown v = false

abbrev pub is_unknown : Meaning → Bool
is_unknown (Sets k) = false
is_unknown Tnom = false
is_unknown Unread = false
is_unknown Unknown = true
