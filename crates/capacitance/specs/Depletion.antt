-- The depletion capacitance and charge of a graded junction, with pb, the grading coefficient m, and from v = fc pb on a straight line.
use Rattle.std.specs.Prelude.{cond, Float}
use Rattle.std.specs.Float.Ieee.{neg}
use Rattle.exact.specs.Float64.{◌⊕◌, ◌⊖◌, ◌⊗◌, ◌⊘◌, ◌<f◌, ◌=f◌, +0, +1}
use Rattle.elementary.specs.Functions.{pow_of}
use Rattle.float.specs.Constants.{two}
use Rattle.capacitance.specs.declared.Grading.{Grading}

-- c0 (1 - v / pb) ^ -m
unfoldable pub cj_below_of : Float → Float → Float → Float → Float
cj_below_of pb c0 v m = c0 ⊗ pow_of (+1 ⊖ v ⊘ pb) (neg m)

-- c0 / (1 - fc) ^ (1 + m) · (1 - fc (1 + m) + m v / pb); the first with its power k = (1 - fc) ^ (1 + m) given
abbrev pub cj_above_from : Float → Float → Float → Float → Float → Float → Float
cj_above_from fc pb c0 v m k = c0 ⊘ k ⊗ (+1 ⊖ fc ⊗ (+1 ⊕ m) ⊕ m ⊗ v ⊘ pb)

unfoldable pub cj_above_of : Float → Float → Float → Float → Float → Float
cj_above_of fc pb c0 v m = cj_above_from fc pb c0 v m (pow_of (+1 ⊖ fc) (+1 ⊕ m))

-- no capacitance at zero bias, none at any
unfoldable pub cj_depl_mOf : Float → Float → Float → Float → Float → Float
cj_depl_mOf fc pb c0 v m = cond (c0 =f +0) +0 (cond (v <f fc ⊗ pb) (cj_below_of pb c0 v m) (cj_above_of fc pb c0 v m))

-- c0 pb / (1 - m) · (1 - x ^ (1 - m)) at x = 1 - v / pb; the first with its power p = x ^ (1 - m) given
abbrev pub q_below_from : Float → Float → Float → Float → Float
q_below_from pb c0 m p = c0 ⊗ pb ⊘ (+1 ⊖ m) ⊗ (+1 ⊖ p)

unfoldable pub q_below_of : Float → Float → Float → Float → Float
q_below_of pb c0 x m = q_below_from pb c0 m (pow_of x (+1 ⊖ m))

-- the charge at fc pb, and the line's integral from there:
-- c0 / (1 - fc) ^ (1 + m) · ((1 - fc (1 + m)) (v - fc pb) + m / (2 pb) · (v² - (fc pb)²)); the first with that charge q and the power k given
abbrev pub q_above_from : Float → Float → Float → Float → Float → Float → Float → Float
q_above_from fc pb c0 v m q k = q ⊕ c0 ⊘ k ⊗ ((+1 ⊖ fc ⊗ (+1 ⊕ m)) ⊗ (v ⊖ fc ⊗ pb) ⊕ m ⊘ (two ⊗ pb) ⊗ (v ⊗ v ⊖ fc ⊗ pb ⊗ (fc ⊗ pb)))

unfoldable pub q_above_of : Float → Float → Float → Float → Float → Float
q_above_of fc pb c0 v m = q_above_from fc pb c0 v m (q_below_of pb c0 (+1 ⊖ fc) m) (pow_of (+1 ⊖ fc) (+1 ⊕ m))

unfoldable pub q_depl_mOf : Float → Float → Float → Float → Float → Float
q_depl_mOf fc pb c0 v m = cond (c0 =f +0) +0 (cond (v <f fc ⊗ pb) (q_below_of pb c0 (+1 ⊖ v ⊘ pb) m) (q_above_of fc pb c0 v m))

-- a whole junction by its capacitances at zero bias: the bottom graded by mj, the sidewall by mjsw
abbrev pub cj_graded_of : Float → Float → Float → Float → Float → Float → Float → Float
cj_graded_of fc pb mj mjsw bottom sidewall v = cj_depl_mOf fc pb bottom v mj ⊕ cj_depl_mOf fc pb sidewall v mjsw

abbrev pub q_graded_of : Float → Float → Float → Float → Float → Float → Float → Float
q_graded_of fc pb mj mjsw bottom sidewall v = q_depl_mOf fc pb bottom v mj ⊕ q_depl_mOf fc pb sidewall v mjsw

-- bottom and sidewall at the nominal temperature, each with its own temperature factor
unfoldable pub cj_depl_of : Grading → Float → Float → Float → Float
cj_depl_of g bot sw v = cj_graded_of g.fc g.pb_t g.mj g.mjsw (bot ⊗ g.cj_t_factor) (sw ⊗ g.cjsw_t_factor) v

unfoldable pub q_depl_of : Grading → Float → Float → Float → Float
q_depl_of g bot sw v = q_graded_of g.fc g.pb_t g.mj g.mjsw (bot ⊗ g.cj_t_factor) (sw ⊗ g.cjsw_t_factor) v
