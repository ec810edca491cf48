-- The bounds that hold of every parameter of a device after accepted calls. Each follows from 01's ranges ("Ranges, ends included: ..") and rows 6 and 7.
use Rattle.std.specs.Prelude.{◌≡◌, ◌⊎◌, List, [], ◌∷◌, T, ℤ, pos, Float, Option, Some, None}
use Rattle.std.specs.Float.{binary64}
use Rattle.std.specs.Float.Ieee.{fits, neg}
use Rattle.exact.specs.Fraction.{ℚ, ◌//◌, nat, negq, ◌≈q◌}
use Rattle.exact.specs.FloatValue.{value}
use Rattle.exact.specs.Float64.{◌⊘◌, +1}
use Rattle.exact.specs.Size.{minus, AtMost, AtLeast, NonNegative, Positive, Range}
use Rattle.device.specs.declared.Card.{Card}
use Rattle.device.specs.declared.Discretisation.TheVariants as Discretisation
use Rattle.device.specs.declared.Geometry.{Geometry}
use Rattle.device.specs.declared.Mosfet1.{Mosfet1}
use Rattle.device.specs.declared.Scaled.{Scaled}
use Rattle.device.specs.declared.Stage.TheVariants as Stage
use Rattle.keys.specs.Ranges.{+0·9}
use Rattle.keys.specs.declared.Key.TheVariants.{Nrd, Nrs}
use Rattle.card.specs.Card.{fresh_terminals, fresh_point, fresh_charges, fresh_histories}
use Rattle.accepted.specs.Bounds.{InRange}

-- x is an f64 (the logic's floats are wider)
abbrev pub F64 : Float → Type 0
F64 x = T (fits binary64 x)

-- P holds of every element
pub data Every {A : Type 0} (P : A → Type 0) : List A → Type 0 where
  none : Every P []
  next : {x : A} {xs : List A} → P x → Every P xs → Every P (x ∷ xs)

-- ---- kinds of bounds; all say that the number is finite

-- from 0 to 2 ^ a
pub record FromZero (x : Float) (a : ℤ) : Type 0 where
  pub sign : NonNegative x
  pub at_most : AtMost x a

-- above 0, from 2 ^ b to 2 ^ a
pub record Between (x : Float) (b a : ℤ) : Type 0 where
  pub sign : Positive x
  pub at_least : AtLeast x b
  pub at_most : AtMost x a

-- 0, or from 2 ^ b to 2 ^ a
pub record ZeroOrBetween (x : Float) (b a : ℤ) : Type 0 where
  pub sign : NonNegative x
  pub zero_or : (value x ≈q nat 0) ⊎ AtLeast x b
  pub at_most : AtMost x a

-- an f64 from lo to hi
pub record F64In (x : Float) (lo hi : ℚ) : Type 0 where
  pub f64 : F64 x
  pub range : Range x lo hi

-- an f64 of either sign, at most 2 ^ a in size
pub record F64AtMost (x : Float) (a : ℤ) : Type 0 where
  pub f64 : F64 x
  pub at_most : AtMost x a

-- rd and rs of the card: absent, or 0 or 1e-6 to 1e9
pub data GivenResistance : Option Float → Type 0 where
  absent : GivenResistance None
  given : {v : Float} → ZeroOrBetween v (minus 20) (pos 30) → GivenResistance (Some v)

-- ---- the card
-- KP is given, UO COX or the fallback; COX is given or from TOX; the f64 0.9 lies above 9 // 10
pub record CardSizes (c : Card) : Type 0 where
  pub vto : F64In c.vto (negq (nat 100)) (nat 100)
  pub kp : FromZero c.kp (pos 7)
  pub lambda : FromZero c.lambda (pos 4)
  pub gamma : F64In c.gamma (nat 0) (nat 100)
  pub phi : F64In c.phi (1 // 10) (nat 10)
  pub rd_card : GivenResistance c.rd_card
  pub rs_card : GivenResistance c.rs_card
  pub rsh : ZeroOrBetween c.rsh (minus 20) (pos 20)
  pub is_bulk : FromZero c.is_bulk (pos 0)
  pub js : FromZero c.js (pos 20)
  pub kf : FromZero c.kf (pos 0)
  pub af : F64In c.af (1 // 4) (nat 4)
  pub tnom : F64In c.tnom.0 (nat 200) (nat 500)
  pub polarity : (c.polarity ≡ +1) ⊎ (c.polarity ≡ neg +1)
  pub cgso : FromZero c.cgso (pos 0)
  pub cgdo : FromZero c.cgdo (pos 0)
  pub cgbo : FromZero c.cgbo (pos 0)
  pub cox : FromZero c.cox (pos 0)
  pub cj : FromZero c.cj (pos 0)
  pub cjsw : FromZero c.cjsw (pos 0)
  pub pb : F64In c.pb (1 // 10) (nat 10)
  pub mj : F64In c.mj (nat 0) (value +0·9)
  pub mjsw : F64In c.mjsw (nat 0) (value +0·9)
  pub fc : F64In c.fc (nat 0) (95 // 100)

-- ---- the geometry
pub record GeometrySizes (g : Geometry) : Type 0 where
  pub rd : ZeroOrBetween g.rd (minus 40) (pos 40)
  pub rs : ZeroOrBetween g.rs (minus 40) (pos 40)
  pub nrd : InRange Nrd g.nrd
  pub nrs : InRange Nrs g.nrs
  pub isat_bs : FromZero g.isat_bs (pos 20)
  pub isat_bd : FromZero g.isat_bd (pos 20)
  pub w : Between g.w (minus 30) (pos 0)
  pub l : Between g.l (minus 30) (pos 0)
  pub w_over_l : g.w_over_l ≡ g.w ⊘ g.l
  pub as_ : FromZero g.as_ (pos 0)
  pub ad : FromZero g.ad (pos 0)
  pub ps : FromZero g.ps (pos 10)
  pub pd : FromZero g.pd (pos 10)
  pub cgs_ov : FromZero g.cgs_ov (pos 0)
  pub cgd_ov : FromZero g.cgd_ov (pos 0)
  pub cgb_ov : FromZero g.cgb_ov (pos 0)
  pub cox_wl : FromZero g.cox_wl (pos 0)
  pub cbs_bot : FromZero g.cbs_bot (pos 0)
  pub cbs_sw : FromZero g.cbs_sw (pos 10)
  pub cbd_bot : FromZero g.cbd_bot (pos 0)
  pub cbd_sw : FromZero g.cbd_sw (pos 10)

-- ---- the scaled parameters; row 7 keeps both potentials at 0.05 V or more
pub record ScaledSizes (s : Scaled) : Type 0 where
  pub isat_t_factor : Between s.isat_t_factor (minus 68) (pos 68)
  pub pb_t : F64In s.pb_t (1 // 20) (nat 32)
  pub cj_t_factor : F64AtMost s.cj_t_factor (pos 120)
  pub cjsw_t_factor : F64AtMost s.cjsw_t_factor (pos 120)
  pub vto_t : F64AtMost s.vto_t (pos 10)
  pub kp_t : FromZero s.kp_t (pos 9)
  pub phi_t : F64In s.phi_t (1 // 20) (nat 32)

-- ---- the device
pub record DeviceSizes (d : Mosfet1) : Type 0 where
  pub card : CardSizes d.card
  pub geometry : GeometrySizes d.geometry
  pub scaled : ScaledSizes d.scaled

-- "Fresh: as an accepted card call returns it": kept voltages and charges 0, histories 0, none, 0
pub record FreshState (d : Mosfet1) : Type 0 where
  pub terminals : d.terminals ≡ fresh_terminals
  pub point : d.point ≡ fresh_point
  pub charges : d.charges ≡ fresh_charges
  pub histories : d.histories ≡ fresh_histories
  pub disc : d.disc ≡ Discretisation.None
  pub stage : d.stage ≡ Stage.Card
