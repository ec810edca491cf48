-- The fourteen cases hold: each is computed, from four values of the elementary functions.
use Rattle.std.specs.Prelude.{Some, None}
use mathlib.Core.Path.{◌≡◌, refl, sym, ap, subst, ◌∙◌}
use mathlib.Core.Bool.{true, cond}
use lib.Ieee.{Float, binary64, round, neg, add, sub, mul, div, lt, le, eq, of_bits}
use Rattle.exact.specs.Float64.{◌⊕◌, ◌⊖◌, ◌⊗◌, ◌⊘◌, ◌>f◌, +0, +1, absolute, maximum}
use Rattle.elementary.specs.Functions.{sqrt_of, exp_of}
use Rattle.elementary.proofs.Computing.{functions}
use Rattle.device.specs.declared.Mosfet1.{Mosfet1}
use Rattle.device.specs.declared.Discretisation.TheVariants.{Euler, Trapezoid, Gear}
use Rattle.float.specs.Constants.{two, tenth}
use Rattle.threshold.specs.Limiter.{limited_vds_of}
use Rattle.threshold.specs.Threshold.{body_potential_of, threshold_of, body_slope_of}
use Rattle.channel.specs.Channel.{region_of, shichman_hodges_of, in_region_of, cutoff_of, triode_of, saturation_of, modulation_of, triode_charge_of, body_transconductance_of}
use Rattle.reactive.specs.Charge.{charge_current_of, euler_of, trapezoid_of, gear_of, gear_at_of, gear_or_euler_of}
use Rattle.junction.specs.Junction.{bulk_junction_of, shockley_of}
use Rattle.bias.specs.Bias.{kept_of, channel_answer_of, answer_from_of, evaluated_channel_of, evaluated_vth_of, evaluated_body_of}
use Rattle.mosfet1.specs.Steps.{evaluated_answer_of}
use Rattle.bias.specs.declared.Answer.{Answer}
use Rattle.cases.specs.FourteenCases.{num, six_tenths, With, at, Conducts, Shows, ShowsBody, past, FourteenCases}

-- √9 = 3, √4 = 2, √0.6 rounded, exp 0 = 1
pub record Values : Type 0 where
  pub root_9 : sqrt_of (num 9 1) ≡ num 3 1
  pub root_4 : sqrt_of (num 4 1) ≡ num 2 1
  pub root_3_5 : sqrt_of six_tenths ≡ of_bits binary64 0x3fe8_c97e_f43f_7248
  pub exp_0 : exp_of +0 ≡ +1

-- the answer as a function of the parameters and of the two roots √(phi - vbs) and √phi
answer_roots : (pol vto kp lambda gamma vgs vds with_bias without : Float) → Answer
answer_roots pol vto kp lambda gamma vgs vds with_bias without =
    let vth = pol ⊗ vto ⊕ gamma ⊗ (with_bias ⊖ without) in
    answer_from_of pol vth (record { vgs = pol ⊗ (vgs ⊖ +0); vds = pol ⊗ (vds ⊖ +0) }) +0
    (shichman_hodges_of (kp ⊗ +1) (pol ⊗ (vgs ⊖ +0)) (pol ⊗ (vds ⊖ +0)) vth lambda (cond (gamma >f +0) (neg gamma ⊘ (two ⊗ with_bias)) +0))

plainly : (d : Mosfet1) (pol vto kp lambda gamma phi vgs vds vbs : Float) → With d pol vto kp lambda gamma phi
    → at d vgs vds vbs ≡ answer_roots pol vto kp lambda gamma vgs vds (sqrt_of (body_potential_of phi (pol ⊗ (vbs ⊖ +0)))) (sqrt_of phi)
unfolding answer_roots kept_of channel_answer_of evaluated_channel_of evaluated_vth_of evaluated_body_of evaluated_answer_of threshold_of body_slope_of
plainly d pol vto kp lambda gamma phi vgs vds vbs w =
    rw (w.is_polarity, w.is_vto, w.is_kp, w.is_w_over_l, w.is_lambda, w.is_gamma, w.is_phi)

-- the same with the roots' values, where phi - vbs is `body`
rooted : (d : Mosfet1) {pol vto kp lambda gamma phi : Float} (vgs vds vbs body r r' : Float) → With d pol vto kp lambda gamma phi
    → body_potential_of phi (pol ⊗ (vbs ⊖ +0)) ≡ body → sqrt_of body ≡ r → sqrt_of phi ≡ r'
    → answer_roots pol vto kp lambda gamma vgs vds r r' ≡ at d vgs vds vbs
rooted d {pol} {vto} {kp} {lambda} {gamma} {phi} vgs vds vbs body r r' w b e e' =
    sym (plainly d pol vto kp lambda gamma phi vgs vds vbs w
    ∙ ap (λ (x : Float). answer_roots pol vto kp lambda gamma vgs vds x (sqrt_of phi)) (ap sqrt_of b ∙ e)
    ∙ ap (λ (x : Float). answer_roots pol vto kp lambda gamma vgs vds r x) e')

body_nmos : body_potential_of six_tenths (+1 ⊗ (+0 ⊖ +0)) ≡ six_tenths
unfolding body_potential_of round neg add sub mul lt of_bits maximum
body_nmos = refl

body_pmos : body_potential_of six_tenths (neg +1 ⊗ (+0 ⊖ +0)) ≡ six_tenths
unfolding body_potential_of round neg add sub mul lt of_bits maximum
body_pmos = refl

body_biased : body_potential_of (num 4 1) (+1 ⊗ (neg (num 5 1) ⊖ +0)) ≡ num 9 1
unfolding body_potential_of round neg add sub mul lt of_bits maximum
body_biased = refl

-- √0.6
abbrev root : Float
root = of_bits binary64 0x3fe8_c97e_f43f_7248

value1 : Shows (answer_roots +1 +1 (num 2 1) +0 +0 (num 1 2) +1 root root) +0 +0 +0
unfolding answer_roots answer_from_of region_of shichman_hodges_of in_region_of cutoff_of triode_of saturation_of modulation_of triode_charge_of body_transconductance_of round neg add sub mul div lt of_bits
value1 = record { is_ids = refl; is_gm = refl; is_gds = refl }

value2 : Shows (answer_roots +1 +1 (num 2 1) +0 +0 +1 +1 root root) +0 +0 +0
unfolding answer_roots answer_from_of region_of shichman_hodges_of in_region_of cutoff_of triode_of saturation_of modulation_of triode_charge_of body_transconductance_of round neg add sub mul div lt of_bits
value2 = record { is_ids = refl; is_gm = refl; is_gds = refl }

conducts2 : Conducts (answer_roots +1 +1 (num 2 1) +0 +0 +1 +1 root root)
unfolding answer_roots answer_from_of region_of shichman_hodges_of in_region_of cutoff_of triode_of saturation_of modulation_of triode_charge_of body_transconductance_of round neg add sub mul div lt of_bits
conducts2 = refl

value3 : Shows (answer_roots +1 +1 (num 2 1) +0 +0 (num 3 1) +1 root root) (num 3 1) (num 2 1) (num 2 1)
unfolding answer_roots answer_from_of region_of shichman_hodges_of in_region_of cutoff_of triode_of saturation_of modulation_of triode_charge_of body_transconductance_of round neg add sub mul div lt of_bits
value3 = record { is_ids = refl; is_gm = refl; is_gds = refl }

value4 : Shows (answer_roots +1 +1 (num 2 1) +0 +0 (num 3 1) (num 2 1) root root) (num 4 1) (num 4 1) +0
unfolding answer_roots answer_from_of region_of shichman_hodges_of in_region_of cutoff_of triode_of saturation_of modulation_of triode_charge_of body_transconductance_of round neg add sub mul div lt of_bits
value4 = record { is_ids = refl; is_gm = refl; is_gds = refl }

value5 : Shows (answer_roots +1 +1 (num 2 1) (num 1 2) +0 (num 3 1) (num 4 1) root root) (num 12 1) (num 12 1) (num 2 1)
unfolding answer_roots answer_from_of region_of shichman_hodges_of in_region_of cutoff_of triode_of saturation_of modulation_of triode_charge_of body_transconductance_of round neg add sub mul div lt of_bits
value5 = record { is_ids = refl; is_gm = refl; is_gds = refl }

value6 : Shows (answer_roots +1 +1 (num 2 1) +0 +0 (num 3 1) (neg +1) root root) (neg (num 5 1)) (neg (num 2 1)) (num 6 1)
unfolding answer_roots answer_from_of region_of shichman_hodges_of in_region_of cutoff_of triode_of saturation_of modulation_of triode_charge_of body_transconductance_of round neg add sub mul div lt of_bits
value6 = record { is_ids = refl; is_gm = refl; is_gds = refl }

value7 : ShowsBody (answer_roots +1 +1 (num 2 1) +0 (num 6 1) (num 8 1) (num 2 1) (num 3 1) (num 2 1)) (num 7 1) +1 (num 2 1) +0 (num 2 1)
unfolding answer_roots answer_from_of region_of shichman_hodges_of in_region_of cutoff_of triode_of saturation_of modulation_of triode_charge_of body_transconductance_of round neg add sub mul div lt of_bits
value7 = record { is_vth = refl; shows = record { is_ids = refl; is_gm = refl; is_gds = refl }; is_gmbs = refl }

value8 : Shows (answer_roots (neg +1) (neg +1) (num 2 1) +0 +0 (neg (num 3 1)) (neg +1) root root) (neg (num 3 1)) (num 2 1) (num 2 1)
unfolding answer_roots answer_from_of region_of shichman_hodges_of in_region_of cutoff_of triode_of saturation_of modulation_of triode_charge_of body_transconductance_of round neg add sub mul div lt of_bits
value8 = record { is_ids = refl; is_gm = refl; is_gds = refl }

junction9 : (vt : Float) → bulk_junction_of +0 (num 2 1) vt (num 1 2) ≡ record { i = +1; g = num 1 2 }
unfolding bulk_junction_of shockley_of round neg add sub mul div lt le eq of_bits
junction9 vt = refl

junction10 : (e : Float) → e ≡ +1 → shockley_of +1 e +0 (num 1 4) (num 1 2) ≡ record { i = +0; g = num 9 2 }
unfolding shockley_of round neg add sub mul div of_bits
junction10 e h = ap (λ (x : Float). shockley_of +1 x +0 (num 1 4) (num 1 2)) h

quotient10 : +0 ⊘ num 1 4 ≡ +0
unfolding round div of_bits
quotient10 = refl

above10 : bulk_junction_of +1 +0 (num 1 4) (num 1 2) ≡ shockley_of +1 (exp_of (+0 ⊘ num 1 4)) +0 (num 1 4) (num 1 2)
unfolding bulk_junction_of le lt eq of_bits
above10 = refl

limited_vds : (d : Mosfet1) (vgs vbs gmin : Float)
    → (evaluated_answer_of d (record { vd = neg +1; vg = vgs; vs = +0; vb = vbs }) gmin true).vds
    ≡ limited_vds_of (d.card.polarity ⊗ (neg +1 ⊖ +0)) d.point.vds_eff_prev
unfolding evaluated_answer_of channel_answer_of answer_from_of kept_of
limited_vds d vgs vbs gmin = refl

limited_tenth : limited_vds_of (+1 ⊗ (neg +1 ⊖ +0)) +1 ≡ tenth
unfolding limited_vds_of round neg add sub mul lt of_bits absolute
limited_tenth = refl

limited11 : (d : Mosfet1) (vgs vbs gmin : Float) → d.card.polarity ≡ +1 → d.point.vds_eff_prev ≡ +1
    → (evaluated_answer_of d (record { vd = neg +1; vg = vgs; vs = +0; vb = vbs }) gmin true).vds ≡ tenth
limited11 d vgs vbs gmin p q =
    limited_vds d vgs vbs gmin
    ∙ ap (λ (x : Float). limited_vds_of (x ⊗ (neg +1 ⊖ +0)) d.point.vds_eff_prev) p
    ∙ ap (λ (x : Float). limited_vds_of (+1 ⊗ (neg +1 ⊖ +0)) x) q
    ∙ limited_tenth

charge12 : (alpha : Float) → (charge_current_of (Euler (num 1 2)) alpha (num 3 1) (past +1 None +0)).i ≡ num 4 1
unfolding charge_current_of euler_of trapezoid_of gear_of gear_at_of gear_or_euler_of round neg add sub mul div of_bits
charge12 alpha = refl

charge13 : (alpha : Float) → (charge_current_of (Trapezoid (num 1 2)) alpha (num 3 1) (past +1 None +1)).i ≡ num 7 1
unfolding charge_current_of euler_of trapezoid_of gear_of gear_at_of gear_or_euler_of round neg add sub mul div of_bits
charge13 alpha = refl

charge14 : (alpha : Float) → (charge_current_of (Gear +1 +1) alpha (num 3 1) (past +1 (Some (num 2 1)) +0)).i ≡ num 7 2
unfolding charge_current_of euler_of trapezoid_of gear_of gear_at_of gear_or_euler_of round neg add sub mul div of_bits
charge14 alpha = refl

pub fourteen_from : Values → FourteenCases
fourteen_from E = record {
  case1 = λ d w. subst (λ (a : Answer). Shows a +0 +0 +0) (rooted d _ _ _ _ _ _ w body_nmos E.root_3_5 E.root_3_5) value1;
  case3 = λ d w. subst (λ (a : Answer). Shows a (num 3 1) (num 2 1) (num 2 1)) (rooted d _ _ _ _ _ _ w body_nmos E.root_3_5 E.root_3_5) value3;
  case4 = λ d w. subst (λ (a : Answer). Shows a (num 4 1) (num 4 1) +0) (rooted d _ _ _ _ _ _ w body_nmos E.root_3_5 E.root_3_5) value4;
  case5 = λ d w. subst (λ (a : Answer). Shows a (num 12 1) (num 12 1) (num 2 1)) (rooted d _ _ _ _ _ _ w body_nmos E.root_3_5 E.root_3_5) value5;
  case6 = λ d w. subst (λ (a : Answer). Shows a (neg (num 5 1)) (neg (num 2 1)) (num 6 1)) (rooted d _ _ _ _ _ _ w body_nmos E.root_3_5 E.root_3_5) value6;
  case8 = λ d w. subst (λ (a : Answer). Shows a (neg (num 3 1)) (num 2 1) (num 2 1)) (rooted d _ _ _ _ _ _ w body_pmos E.root_3_5 E.root_3_5) value8;
  case2 = λ d w. (subst (λ (a : Answer). Shows a +0 +0 +0) (rooted d _ _ _ _ _ _ w body_nmos E.root_3_5 E.root_3_5) value2, subst Conducts (rooted d _ _ _ _ _ _ w body_nmos E.root_3_5 E.root_3_5) conducts2);
  case7 = λ d w. subst (λ (a : Answer). ShowsBody a (num 7 1) +1 (num 2 1) +0 (num 2 1)) (rooted d _ _ _ _ _ _ w body_biased E.root_9 E.root_4) value7;
  case9 = junction9;
  case10 = above10 ∙ junction10 _ (ap exp_of quotient10 ∙ E.exp_0);
  case11 = limited11;
  case12 = charge12;
  case13 = charge13;
  case14 = charge14;
}

values : Values
unfolding functions round of_bits lt neg eq
values = record { root_9 = refl; root_4 = refl; root_3_5 = refl; exp_0 = refl }

pub fourteen_cases : FourteenCases
fourteen_cases = fourteen_from values
