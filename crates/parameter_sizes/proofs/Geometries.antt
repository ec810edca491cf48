-- An accepted geometry call: the sizes of what it sets and of what it derives.
use Rattle.std.specs.Prelude.{Option}
use Prim.Native.Nat.{ℕ}
use mathlib.Core.Path.{◌≡◌, refl, sym, subst}
use mathlib.Core.Bool.{◌&&◌}
use mathlib.Core.List.{List}
use lib.IntN.{pos}
use lib.Ieee.{Float}
use Rattle.exact.specs.Float64.{◌⊗◌, ◌>f◌, +0}
use Rattle.exact.specs.Size.{minus}
use Rattle.exact.proofs.Computing.{computing}
use Rattle.device.specs.Refusals.{done}
use Rattle.device.specs.declared.Card.{Card}
use Rattle.device.specs.declared.Mosfet1.{Mosfet1}
use Rattle.keys.specs.declared.Key.TheVariants.{W, L, Nrd, Nrs, As, Ad, Ps, Pd}
use Rattle.geometry.specs.Geometry.{or_else, saturation, geometry_record_of, geometry_of}
use Rattle.geometry.specs.declared.Sizes.{Sizes}
use Rattle.entries.specs.declared.Keyed.{Keyed}
use Rattle.accepted.specs.Bounds.{InRange, SizesInRange}
use Rattle.accepted.proofs.Accepted.{geometry_accepted}
use Rattle.parameter_sizes.specs.ParameterSizes.{FromZero, ZeroOrBetween, GivenResistance, absent, given, CardSizes, GeometrySizes, DeviceSizes}
use Rattle.parameter_sizes.proofs.SizeLaws.{between_from_zero, from_zero_weaken, from_zero_⊗, zero_or_weaken, zero_or_⊗, by_choice}
use Rattle.parameter_sizes.proofs.KeyRanges.{from_zero, between, zero_or_between}

-- RD and RS: given, or RSH times the squares
series_resistance : {g : Option Float} {rsh squares : Float} → GivenResistance g → ZeroOrBetween rsh (minus 20) (pos 20) → ZeroOrBetween squares (minus 20) (pos 20) → ZeroOrBetween (or_else g (rsh ⊗ squares)) (minus 40) (pos 40)
unfolding computing
series_resistance absent R N = zero_or_⊗ R N tt tt
series_resistance (given V') R N = zero_or_weaken V' (minus 40) (pos 40) tt tt

-- JS times the area, or IS
saturation_current_lem : {js area is : Float} → FromZero js (pos 20) → FromZero area (pos 0) → FromZero is (pos 0) → FromZero (saturation js area is) (pos 20)
unfolding computing
saturation_current_lem {js} {area} J A I = by_choice (λ (x : Float). FromZero x (pos 20)) ((js >f +0) && (area >f +0)) (from_zero_⊗ J A tt) (from_zero_weaken I (pos 20) tt)

module _ {c : Card} (C : CardSizes c) {s : Sizes} (h : SizesInRange s) where
  geometry_record_sizes : GeometrySizes (geometry_record_of c s)
  unfolding computing
  geometry_record_sizes =
      let width = between W (minus 30) (pos 0) tt h.w in
      let length = between L (minus 30) (pos 0) tt h.l in
      let w = between_from_zero width in
      let l = between_from_zero length in
      let source_area = from_zero As (pos 0) tt h.as_ in
      let drain_area = from_zero Ad (pos 0) tt h.ad in
      let source_edge = from_zero Ps (pos 10) tt h.ps in
      let drain_edge = from_zero Pd (pos 10) tt h.pd in
      record {
        rd = series_resistance C.rd_card C.rsh (zero_or_between Nrd (minus 20) (pos 20) tt h.nrd);
        rs = series_resistance C.rs_card C.rsh (zero_or_between Nrs (minus 20) (pos 20) tt h.nrs);
        nrd = h.nrd;
        nrs = h.nrs;
        isat_bs = saturation_current_lem C.js source_area C.is_bulk;
        isat_bd = saturation_current_lem C.js drain_area C.is_bulk;
        w = width;
        l = length;
        w_over_l = refl;
        as_ = source_area;
        ad = drain_area;
        ps = source_edge;
        pd = drain_edge;
        cgs_ov = from_zero_⊗ C.cgso w tt;
        cgd_ov = from_zero_⊗ C.cgdo w tt;
        cgb_ov = from_zero_⊗ C.cgbo l tt;
        cox_wl = from_zero_⊗ (from_zero_⊗ C.cox w tt) l tt;
        cbs_bot = from_zero_⊗ C.cj source_area tt;
        cbs_sw = from_zero_⊗ C.cjsw source_edge tt;
        cbd_bot = from_zero_⊗ C.cj drain_area tt;
        cbd_sw = from_zero_⊗ C.cjsw drain_edge tt;
      }

-- ---- the call
module _ (d : Mosfet1) (bytes offsets lengths : List ℕ) (values : List Float) (space : ℕ) (k : Keyed) (e : geometry_of d bytes offsets lengths values space ≡ done k) where
  -- on a device whose card is within its bounds and whose squares are in range
  pub geometry_sizes : CardSizes d.card → InRange Nrd d.geometry.nrd → InRange Nrs d.geometry.nrs → GeometrySizes k.device.geometry
  geometry_sizes C nrd nrs =
      let a = geometry_accepted d bytes offsets lengths values space k nrd nrs e in
      subst (λ (u : Mosfet1). GeometrySizes u.geometry) (sym a.0) (geometry_record_sizes C a.1)

  -- the bounds of a device are kept
  pub geometry_keeps_sizes : DeviceSizes d → DeviceSizes k.device
  geometry_keeps_sizes D =
      let a = geometry_accepted d bytes offsets lengths values space k D.geometry.nrd D.geometry.nrs e in
      subst DeviceSizes (sym a.0) (record { card = D.card; geometry = geometry_record_sizes D.card a.1; scaled = D.scaled })
