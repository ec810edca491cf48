-- The bounds of what an evaluation or a commit leaves in the device, and the parameters' bounds that they rest on. Powers of two throughout: `pos 11` is 2 ^ 11.
use Rattle.std.specs.Prelude.{T, pos, Float, Option, Some, None}
use Rattle.std.specs.Float.{binary64}
use Rattle.std.specs.Float.Ieee.{fits}
use Rattle.exact.specs.Fraction.{nat, negq}
use Rattle.exact.specs.Size.{Range, AtMost}
use Rattle.device.specs.declared.Card.{Card}
use Rattle.device.specs.declared.Charges as device
use Rattle.device.specs.declared.ChargeHistory.{ChargeHistory}
use Rattle.device.specs.declared.Geometry.{Geometry}
use Rattle.device.specs.declared.Histories.{Histories}
use Rattle.device.specs.declared.Mosfet1.{Mosfet1}
use Rattle.device.specs.declared.OperatingPoint.{OperatingPoint}
use Rattle.device.specs.declared.Scaled.{Scaled}
use Rattle.charges.specs.Charges.{grading_of}
use Rattle.capacitance.specs.declared.GateShares.{GateShares}
use Rattle.bias.specs.declared.Answer.{Answer}
use Rattle.bias.specs.declared.Kept.{Kept}
use Rattle.depletion_sizes.specs.DepletionSizes.{GradingSizes}
use Rattle.evaluation_sizes.specs.Arguments.{MethodSizes}

-- ---- the parameters
-- a gate capacitance that follows from the geometry
abbrev pub GateCapacitance : Float → Type 0
GateCapacitance c = Range c (nat 0) (nat 2)

-- a junction's capacitance at zero bias, before its temperature factor
abbrev pub ZeroBias : Float → Type 0
ZeroBias c = AtMost c (pos 10)

pub record ParameterBounds (card : Card) (geometry : Geometry) (scaled : Scaled) : Type 0 where
  pub polarity : Range card.polarity (negq (nat 1)) (nat 1)
  pub gamma : Range card.gamma (nat 0) (nat 128)
  pub grading : GradingSizes (grading_of card scaled)
  pub vto_t : Range scaled.vto_t (negq (nat 1024)) (nat 1024)
  pub phi_t : Range scaled.phi_t (nat 0) (nat 32)
  pub phi_fits : T (fits binary64 scaled.phi_t)
  pub cgs_ov : GateCapacitance geometry.cgs_ov
  pub cgd_ov : GateCapacitance geometry.cgd_ov
  pub cgb_ov : GateCapacitance geometry.cgb_ov
  pub cox_wl : GateCapacitance geometry.cox_wl
  pub cbs_bot : ZeroBias geometry.cbs_bot
  pub cbs_sw : ZeroBias geometry.cbs_sw
  pub cbd_bot : ZeroBias geometry.cbd_bot
  pub cbd_sw : ZeroBias geometry.cbd_sw

-- ---- what is left
-- the limiter's predecessors
pub record PointSizes (p : OperatingPoint) : Type 0 where
  pub vgs : AtMost p.vgs_eff_prev (pos 11)
  pub vds : AtMost p.vds_eff_prev (pos 11)

-- what one evaluation keeps
pub record KeptSizes (k : Kept) : Type 0 where
  pub vgs : AtMost k.vgs (pos 11)
  pub vds : AtMost k.vds (pos 11)

-- Meyer's shares
pub record SharesSizes (s : GateShares) : Type 0 where
  pub gs : GateCapacitance s.gs
  pub gd : GateCapacitance s.gd
  pub gb : GateCapacitance s.gb

-- an evaluated gate capacitance
abbrev pub EvaluatedGate : Float → Type 0
EvaluatedGate c = Range c (nat 0) (nat 4)

-- a charge, evaluated or committed
abbrev pub ChargeSize : Float → Type 0
ChargeSize q = AtMost q (pos 170)

pub record ChargesSizes (c : device.Charges) : Type 0 where
  pub cgs : EvaluatedGate c.cgs_eval
  pub cgd : EvaluatedGate c.cgd_eval
  pub cgb : EvaluatedGate c.cgb_eval
  pub q_gs : AtMost c.q_gs_eval (pos 14)
  pub q_gd : AtMost c.q_gd_eval (pos 14)
  pub q_gb : AtMost c.q_gb_eval (pos 14)
  pub vbs : AtMost c.vbs_eval (pos 11)
  pub vbd : AtMost c.vbd_eval (pos 11)
  pub cbs : AtMost c.cbs_eval (pos 160)
  pub cbd : AtMost c.cbd_eval (pos 160)
  pub q_bs : ChargeSize c.q_bs_eval
  pub q_bd : ChargeSize c.q_bd_eval

-- the charge before the last, where there is one
pub data EarlierSize : Option Float → Type 0 where
  absent : EarlierSize None
  value : {q : Float} → ChargeSize q → EarlierSize (Some q)

-- (the recorded current is bounded by a premise of demand 3 only)
pub record HistorySizes (h : ChargeHistory) : Type 0 where
  pub last : ChargeSize h.q_prev
  pub earlier : EarlierSize h.q_prev2

pub record HistoriesSizes (h : Histories) : Type 0 where
  pub gs : HistorySizes h.gs_hist
  pub gd : HistorySizes h.gd_hist
  pub gb : HistorySizes h.gb_hist
  pub bs : HistorySizes h.bs_hist
  pub bd : HistorySizes h.bd_hist

-- what the device holds beside its parameters and nodes
pub record StateSizes (d : Mosfet1) : Type 0 where
  pub point : PointSizes d.point
  pub charges : ChargesSizes d.charges
  pub histories : HistoriesSizes d.histories
  pub method : MethodSizes d.disc

-- what an evaluation answers, the voltages flipped
pub record AnswerSizes (a : Answer) : Type 0 where
  pub vgs : AtMost a.vgs (pos 11)
  pub vds : AtMost a.vds (pos 11)
  pub vth : AtMost a.vth (pos 14)
