-- The fourteen cases of document 01, in the Level-1 definition's own terms.
use Rattle.std.specs.Prelude.{ℕ, ◌≡◌, true, false, Float, Option, Some, None}
use Rattle.std.specs.Float.{binary64}
use Rattle.std.specs.Float.Ieee.{round, neg, of_bits}
use Rattle.exact.specs.Float64.{◌⊖◌, +0, +1}
use Rattle.device.specs.declared.Mosfet1.{Mosfet1}
use Rattle.device.specs.declared.ChargeHistory.{ChargeHistory}
use Rattle.device.specs.declared.Discretisation.TheVariants.{Euler, Trapezoid, Gear}
use Rattle.float.specs.Constants.{tenth}
use Rattle.channel.specs.Channel.{region_of}
use Rattle.reactive.specs.Charge.{charge_current_of}
use Rattle.junction.specs.Junction.{bulk_junction_of}
use Rattle.channel.specs.declared.Region.TheVariants.{Saturation}
use Rattle.mosfet1.specs.Steps.{evaluated_answer_of}
use Rattle.bias.specs.declared.Answer.{Answer}

-- n / d, rounded
abbrev pub num : ℕ → ℕ → Float
num n d = round binary64 false n d

-- 0.6
abbrev pub six_tenths : Float
six_tenths = of_bits binary64 0x3fe3_3333_3333_3333

-- a device with these parameters in force, W/L 1
pub record With (d : Mosfet1) (polarity vto kp lambda gamma phi : Float) : Type 0 where
  pub is_polarity : d.card.polarity ≡ polarity
  pub is_vto : d.scaled.vto_t ≡ vto
  pub is_kp : d.scaled.kp_t ≡ kp
  pub is_w_over_l : d.geometry.w_over_l ≡ +1
  pub is_lambda : d.card.lambda ≡ lambda
  pub is_gamma : d.card.gamma ≡ gamma
  pub is_phi : d.scaled.phi_t ≡ phi

-- NMOS, vto_t 1, kp_t 2, lambda and gamma 0, phi_t 0.6; and the same with lambda 0.5
abbrev pub Plain : Mosfet1 → Type 0
Plain d = With d +1 +1 (num 2 1) +0 +0 six_tenths

abbrev pub Modulated : Mosfet1 → Type 0
Modulated d = With d +1 +1 (num 2 1) (num 1 2) +0 six_tenths

-- gamma 6, phi_t 4
abbrev pub WithBody : Mosfet1 → Type 0
WithBody d = With d +1 +1 (num 2 1) +0 (num 6 1) (num 4 1)

-- PMOS, vto_t -1
abbrev pub PlainPmos : Mosfet1 → Type 0
PlainPmos d = With d (neg +1) (neg +1) (num 2 1) +0 +0 six_tenths

-- an evaluation's answer with the source at 0, gmin 0, limiter off
abbrev pub at : Mosfet1 → Float → Float → Float → Answer
at d vgs vds vbs = evaluated_answer_of d (record { vd = vds; vg = vgs; vs = +0; vb = vbs }) +0 false

-- its region, as the channel's law decides it
abbrev pub Conducts : Answer → Type 0
Conducts a = region_of a.vgs a.vth a.vds (a.vgs ⊖ a.vth) ≡ Saturation

pub record Shows (a : Answer) (ids gm gds : Float) : Type 0 where
  pub is_ids : a.ids ≡ ids
  pub is_gm : a.gm ≡ gm
  pub is_gds : a.gds ≡ gds

pub record ShowsBody (a : Answer) (vth ids gm gds gmbs : Float) : Type 0 where
  pub is_vth : a.vth ≡ vth
  pub shows : Shows a ids gm gds
  pub is_gmbs : a.gmbs ≡ gmbs

abbrev pub past : Float → Option Float → Float → ChargeHistory
past q q2 i = record { q_prev = q; q_prev2 = q2; i_prev = i }

pub record FourteenCases : Type 0 where
  pub case1 : (d : Mosfet1) → Plain d → Shows (at d (num 1 2) +1 +0) +0 +0 +0
  pub case2 : (d : Mosfet1) → Plain d → Shows (at d +1 +1 +0) +0 +0 +0 × Conducts (at d +1 +1 +0)
  pub case3 : (d : Mosfet1) → Plain d → Shows (at d (num 3 1) +1 +0) (num 3 1) (num 2 1) (num 2 1)
  pub case4 : (d : Mosfet1) → Plain d → Shows (at d (num 3 1) (num 2 1) +0) (num 4 1) (num 4 1) +0
  pub case5 : (d : Mosfet1) → Modulated d → Shows (at d (num 3 1) (num 4 1) +0) (num 12 1) (num 12 1) (num 2 1)
  pub case6 : (d : Mosfet1) → Plain d → Shows (at d (num 3 1) (neg +1) +0) (neg (num 5 1)) (neg (num 2 1)) (num 6 1)
  pub case7 : (d : Mosfet1) → WithBody d → ShowsBody (at d (num 8 1) (num 2 1) (neg (num 5 1))) (num 7 1) +1 (num 2 1) +0 (num 2 1)
  pub case8 : (d : Mosfet1) → PlainPmos d → Shows (at d (neg (num 3 1)) (neg +1) +0) (neg (num 3 1)) (num 2 1) (num 2 1)
  pub case9 : (vt : Float) → bulk_junction_of +0 (num 2 1) vt (num 1 2) ≡ record { i = +1; g = num 1 2 }
  pub case10 : bulk_junction_of +1 +0 (num 1 4) (num 1 2) ≡ record { i = +0; g = num 9 2 }
  pub case11 : (d : Mosfet1) (vgs vbs gmin : Float) → d.card.polarity ≡ +1 → d.point.vds_eff_prev ≡ +1
      → (evaluated_answer_of d (record { vd = neg +1; vg = vgs; vs = +0; vb = vbs }) gmin true).vds ≡ tenth
  pub case12 : (alpha : Float) → (charge_current_of (Euler (num 1 2)) alpha (num 3 1) (past +1 None +0)).i ≡ num 4 1
  pub case13 : (alpha : Float) → (charge_current_of (Trapezoid (num 1 2)) alpha (num 3 1) (past +1 None +1)).i ≡ num 7 1
  pub case14 : (alpha : Float) → (charge_current_of (Gear +1 +1) alpha (num 3 1) (past +1 (Some (num 2 1)) +0)).i ≡ num 7 2
