-- The bounds that hold of every parameter after an accepted card and an accepted geometry.
use Rattle.std.specs.Prelude.{◌≡◌, false, Float, unwrap_or}
use Rattle.exact.specs.Float64.{◌⊘◌, +0}
use Rattle.temperature.specs.Temperature.{kelvin_of}
use Rattle.device.specs.Limits.{outside_temperatures}
use Rattle.keys.specs.Ranges.{range_of, outside_range}
use Rattle.keys.specs.declared.Key.{Key}
use Rattle.keys.specs.declared.Key.TheVariants.{Vto, Kp, Uo, Is, Js, Lambda, Gamma, Phi, Rd, Rs, Rsh, Kf, Af, Cgso, Cgdo, Cgbo, Cj, Cjsw, Pb, Mj, Mjsw, Fc, Cox, Tox, W, L, Nrd, Nrs, As, Ad, Ps, Pd}
use Rattle.card.specs.Card.{eps_ox}
use Rattle.card.specs.declared.Parameters.{Parameters}
use Rattle.geometry.specs.declared.Sizes.{Sizes}

-- a number is no NaN and lies in the table's range of a key, ends included
pub record InRange (k : Key) (x : Float) : Type 0 where
  pub passes : outside_range (range_of k) x ≡ false

-- COX: given, or from a thickness in its range
pub data OxideFrom : Float → Type 0 where
  given : {x : Float} → InRange Cox x → OxideFrom x
  thickness : {t : Float} → InRange Tox t → OxideFrom (eps_ox ⊘ t)

-- every parameter of a card, with 0 for a KP, RD or RS left out; the nominal temperature, in kelvin, lies within 200 to 500
pub record ParametersInRange (p : Parameters) : Type 0 where
  pub vto : InRange Vto p.vto
  pub kp : InRange Kp (unwrap_or p.kp +0)
  pub uo : InRange Uo p.uo
  pub is_bulk : InRange Is p.is_bulk
  pub js : InRange Js p.js
  pub lambda : InRange Lambda p.lambda
  pub gamma : InRange Gamma p.gamma
  pub phi : InRange Phi p.phi
  pub rd : InRange Rd (unwrap_or p.rd +0)
  pub rs : InRange Rs (unwrap_or p.rs +0)
  pub rsh : InRange Rsh p.rsh
  pub kf : InRange Kf p.kf
  pub af : InRange Af p.af
  pub cgso : InRange Cgso p.cgso
  pub cgdo : InRange Cgdo p.cgdo
  pub cgbo : InRange Cgbo p.cgbo
  pub cj : InRange Cj p.cj
  pub cjsw : InRange Cjsw p.cjsw
  pub pb : InRange Pb p.pb
  pub mj : InRange Mj p.mj
  pub mjsw : InRange Mjsw p.mjsw
  pub fc : InRange Fc p.fc
  pub cox : OxideFrom p.cox
  pub tnom : outside_temperatures (kelvin_of p.tnom) ≡ false

-- every size of a geometry
pub record SizesInRange (s : Sizes) : Type 0 where
  pub w : InRange W s.w
  pub l : InRange L s.l
  pub nrd : InRange Nrd s.nrd
  pub nrs : InRange Nrs s.nrs
  pub as_ : InRange As s.as_
  pub ad : InRange Ad s.ad
  pub ps : InRange Ps s.ps
  pub pd : InRange Pd s.pd
