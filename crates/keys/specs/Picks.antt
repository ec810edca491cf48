-- A later key overrides: the value of a parameter after one key more.
use Rattle.std.specs.Prelude.{ℕ, Bool, false, cond, eqb, Float, Option, Some}
use Rattle.keys.specs.declared.Key.{Key}
use Rattle.keys.specs.declared.Key.TheVariants.{Vto, Kp, Uo, Is, Js, Lambda, Gamma, Phi, Rd, Rs, Rsh, Kf, Af, Cgso, Cgdo, Cgbo, Cox, Tox, Cj, Cjsw, Pb, Mj, Mjsw, Fc, W, L, Nrd, Nrs, As, Ad, Ps, Pd}
use Rattle.keys.specs.declared.Meaning.{Meaning}
use Rattle.keys.specs.declared.Meaning.TheVariants.{Sets, Tnom, Unread, Unknown}

abbrev pub key_number : Key → ℕ
key_number Vto = 0
key_number Kp = 1
key_number Uo = 2
key_number Is = 3
key_number Js = 4
key_number Lambda = 5
key_number Gamma = 6
key_number Phi = 7
key_number Rd = 8
key_number Rs = 9
key_number Rsh = 10
key_number Kf = 11
key_number Af = 12
key_number Cgso = 13
key_number Cgdo = 14
key_number Cgbo = 15
key_number Cox = 16
key_number Tox = 17
key_number Cj = 18
key_number Cjsw = 19
key_number Pb = 20
key_number Mj = 21
key_number Mjsw = 22
key_number Fc = 23
key_number W = 24
key_number L = 25
key_number Nrd = 26
key_number Nrs = 27
key_number As = 28
key_number Ad = 29
key_number Ps = 30
key_number Pd = 31

-- a key sets this parameter
abbrev pub is_set : Key → Meaning → Bool
is_set k (Sets j) = eqb (key_number k) (key_number j)
is_set k Tnom = false
is_set k Unread = false
is_set k Unknown = false

-- the parameter k, of value old before, after a key with the value v
abbrev pub pick : Key → Float → Meaning → Float → Float
pick k old m v = cond (is_set k m) v old

-- the parameter k that a card may leave out
abbrev pub pick_option : Key → Option Float → Meaning → Float → Option Float
pick_option k old m v = cond (is_set k m) (Some v) old
