-- An accepted card: the sizes of its parameters, and the device that it returns.
use Prim.Native.Nat.{ℕ}
use mathlib.Core.Path.{◌≡◌, refl, sym, subst}
use mathlib.Core.Logic.{◌⊎◌, inl, inr}
use mathlib.Core.Bool.{Bool, true, false}
use mathlib.Core.List.{List, [], ◌∷◌}
use lib.IntN.{pos}
use lib.ListN.{take, drop}
use lib.Ieee.{Float, binary64, of_bits, neg, div, round, units}
use lib.Ieee.Bits.{of_bits-fits}
use lib.Ieee.Fits.{cond-fits, neg-fits, add-fits}
use Rattle.std.specs.Prelude.{Option, Some, None, unwrap_or}
use Rattle.exact.specs.Fraction.{◌//◌, nat}
use Rattle.exact.specs.Float64.{◌⊘◌, ◌>f◌, +0, +1}
use Rattle.exact.specs.Size.{minus}
use Rattle.exact.proofs.FractionLaws.{lit_≤}
use Rattle.exact.proofs.Sizes.{constant_at_most}
use Rattle.exact.proofs.Ranges.{range_at_most, range_weaken}
use Rattle.exact.proofs.Computing.{computing}
use Rattle.temperature_sizes.proofs.Intervals.{constant_in}
use Rattle.device.specs.Limits.{coldest, hottest}
use Rattle.device.specs.declared.Card.{Card}
use Rattle.device.specs.Refusals.{done}
use Rattle.keys.specs.Names.{meaning_of}
use Rattle.keys.specs.Picks.{is_set, pick}
use Rattle.keys.specs.declared.Key.{Key}
use Rattle.keys.specs.declared.Key.TheVariants.{Vto, Kp, Uo, Is, Js, Lambda, Gamma, Phi, Rd, Rs, Rsh, Kf, Af, Cgso, Cgdo, Cgbo, Cj, Cjsw, Pb, Mj, Mjsw, Fc, Cox, Tox}
use Rattle.keys.specs.declared.Meaning.{Meaning}
use Rattle.keys.specs.declared.Range.TheVariants.{Within}
use Rattle.keys.specs.declared.Table.TheVariants as Table
use Rattle.entries.specs.Entries.{entries_of, settings_of}
use Rattle.entries.specs.declared.Keyed.{Keyed}
use Rattle.card.specs.Card.{+1e-4, assigned, parameters_of, defaults_of, kp_from, polarity_of, card_record_of, fresh_geometry, fresh_scaled, fresh_device, card_of}
use Rattle.card.specs.declared.Parameters.{Parameters}
use Rattle.accepted.specs.Bounds.{InRange, OxideFrom, ParametersInRange}
use Rattle.accepted.specs.Bounds as Oxide
use Rattle.accepted.proofs.Bounds.{one_square}
use Rattle.accepted.proofs.Accepted.{card_accepted}
use Rattle.parameter_sizes.specs.ParameterSizes.{Every, none, next, F64, FromZero, ZeroOrBetween, F64AtMost, GivenResistance, absent, given, CardSizes, GeometrySizes, ScaledSizes, DeviceSizes, FreshState}
use Rattle.parameter_sizes.proofs.SizeLaws.{constant_from_zero, constant_between, from_zero_weaken, from_zero_⊗, from_zero_⊘, by_choice}
use Rattle.parameter_sizes.proofs.KeyRanges.{in_range, from_zero, between, zero_or_between, passes_range}

-- ---- the parameters that an elementary function or a temperature law reads are f64s
record ParametersFit (p : Parameters) : Type 0 where
  vto : F64 p.vto
  gamma : F64 p.gamma
  phi : F64 p.phi
  af : F64 p.af
  pb : F64 p.pb
  mj : F64 p.mj
  mjsw : F64 p.mjsw
  fc : F64 p.fc

assigned_fit : (p : Parameters) (m : Meaning) (v : Float) → F64 v → ParametersFit p → ParametersFit (assigned p m v)
assigned_fit p m v f h =
    record {
      vto = picked Vto _ h.vto;
      gamma = picked Gamma _ h.gamma;
      phi = picked Phi _ h.phi;
      af = picked Af _ h.af;
      pb = picked Pb _ h.pb;
      mj = picked Mj _ h.mj;
      mjsw = picked Mjsw _ h.mjsw;
      fc = picked Fc _ h.fc;
    }
  where
    picked : (k : Key) (old : Float) → F64 old → F64 (pick k old m v)
    picked k old o = cond-fits binary64 (is_set k m) v old f o

parameters_fit : (bytes : List ℕ) (p : Parameters) (offsets lengths : List ℕ) {values : List Float} → Every F64 values → ParametersFit p → ParametersFit (parameters_of p (entries_of bytes offsets lengths values))
unfolding parameters_of settings_of entries_of
parameters_fit bytes p [] lengths fs h = h
parameters_fit bytes p (o ∷ offsets) [] fs h = h
parameters_fit bytes p (o ∷ offsets) (n ∷ lengths) none h = h
parameters_fit bytes p (o ∷ offsets) (n ∷ lengths) (next {x} f fs) h =
    let m = meaning_of Table.Card (take n (drop o bytes)) in
    parameters_fit bytes (assigned p m x) offsets lengths fs (assigned_fit p m x f h)

defaults_fit : (is_pmos : Bool) → ParametersFit (defaults_of is_pmos)
defaults_fit is_pmos =
    record {
      vto = cond-fits binary64 is_pmos _ _ (neg-fits binary64 _ (of_bits-fits binary64 _)) (of_bits-fits binary64 _);
      gamma = of_bits-fits binary64 _;
      phi = of_bits-fits binary64 _;
      af = of_bits-fits binary64 _;
      pb = of_bits-fits binary64 _;
      mj = of_bits-fits binary64 _;
      mjsw = of_bits-fits binary64 _;
      fc = of_bits-fits binary64 _;
    }

-- ---- derived parameters
-- COX: given, or the permittivity by a thickness
oxide : {x : Float} → OxideFrom x → FromZero x (pos 0)
unfolding computing
oxide (Oxide.given h) = from_zero Cox (pos 0) tt h
oxide (Oxide.thickness h) =
    from_zero_⊘ (constant_from_zero 0x3dc2_fbda_5e73_10c0 (minus 34) tt) (between Tox (minus 34) (pos 0) tt h) tt

-- KP: given, UO COX, or the fallback
by_given : (kp : Option Float) (uo cox : Float) → FromZero (unwrap_or kp +0) (pos 7) → FromZero (kp_from None uo cox) (pos 7) → FromZero (kp_from kp uo cox) (pos 7)
by_given (Some kp) uo cox g e = g
by_given None uo cox g e = e

module _ (kp : Option Float) {uo cox : Float} (K : InRange Kp (unwrap_or kp +0)) (U : InRange Uo uo) (C : FromZero cox (pos 0)) where
  transconductance : FromZero (kp_from kp uo cox) (pos 7)
  unfolding computing
  transconductance =
      let metres = constant_from_zero 0x3f1a_36e2_eb1c_432d (minus 13) tt in
      let product = from_zero_⊗ (from_zero_⊗ (from_zero Uo (pos 17) tt U) metres tt) C tt in
      let fallback = constant_from_zero 0x3ef4_f8b5_88e3_68f1 (minus 15) tt in
      let else_part = by_choice (λ (x : Float). FromZero x (pos 7)) (cox >f +0) (from_zero_weaken product (pos 7) tt) (from_zero_weaken fallback (pos 7) tt) in
      by_given kp uo cox (from_zero Kp (pos 7) tt K) else_part

polarity_is : (is_pmos : Bool) → (polarity_of is_pmos ≡ +1) ⊎ (polarity_of is_pmos ≡ neg +1)
polarity_is true = inr refl
polarity_is false = inl refl

resistance : (r : Option Float) → ZeroOrBetween (unwrap_or r +0) (minus 20) (pos 30) → GivenResistance r
resistance (Some v) h = given h
resistance None h = absent

-- ---- the card
module _ (is_pmos : Bool) {p : Parameters} (h : ParametersInRange p) (f : ParametersFit p) where
  card_record_sizes : CardSizes (card_record_of is_pmos p)
  unfolding computing neg
  card_record_sizes =
      record {
        vto = record { f64 = f.vto; range = in_range Vto _ _ tt h.vto };
        kp = transconductance p.kp h.kp h.uo (oxide h.cox);
        lambda = from_zero Lambda (pos 4) tt h.lambda;
        gamma = record { f64 = f.gamma; range = in_range Gamma _ _ tt h.gamma };
        phi = record { f64 = f.phi; range = in_range Phi _ _ tt h.phi };
        rd_card = resistance p.rd (zero_or_between Rd (minus 20) (pos 30) tt h.rd);
        rs_card = resistance p.rs (zero_or_between Rs (minus 20) (pos 30) tt h.rs);
        rsh = zero_or_between Rsh (minus 20) (pos 20) tt h.rsh;
        is_bulk = from_zero Is (pos 0) tt h.is_bulk;
        js = from_zero Js (pos 20) tt h.js;
        kf = from_zero Kf (pos 0) tt h.kf;
        af = record { f64 = f.af; range = in_range Af _ _ tt h.af };
        tnom = record { f64 = add-fits binary64 _ _; range = passes_range (Within coldest hottest) _ _ tt h.tnom };
        polarity = polarity_is is_pmos;
        cgso = from_zero Cgso (pos 0) tt h.cgso;
        cgdo = from_zero Cgdo (pos 0) tt h.cgdo;
        cgbo = from_zero Cgbo (pos 0) tt h.cgbo;
        cox = oxide h.cox;
        cj = from_zero Cj (pos 0) tt h.cj;
        cjsw = from_zero Cjsw (pos 0) tt h.cjsw;
        pb = record { f64 = f.pb; range = in_range Pb _ _ tt h.pb };
        mj = record { f64 = f.mj; range = in_range Mj _ _ tt h.mj };
        mjsw = record { f64 = f.mjsw; range = in_range Mjsw _ _ tt h.mjsw };
        fc = record { f64 = f.fc; range = in_range Fc _ _ tt h.fc };
      }

-- ---- the device before its first geometry call
square_channel : +1 ≡ +1e-4 ⊘ +1e-4
unfolding div of_bits round units
square_channel = refl

fresh_geometry_sizes : {rd rs : Float} → InRange Rd rd → InRange Rs rs → GeometrySizes (fresh_geometry rd rs)
unfolding computing
fresh_geometry_sizes D S =
    let zero = constant_from_zero 0 (pos 0) tt in
    let zero_10 = constant_from_zero 0 (pos 10) tt in
    let side = constant_between 0x3f1a_36e2_eb1c_432d (minus 30) (pos 0) tt in
    let isat = constant_from_zero 0x3d06_849b_86a1_2b9b (pos 20) tt in
    record {
      rd = zero_or_between Rd (minus 40) (pos 40) tt D;
      rs = zero_or_between Rs (minus 40) (pos 40) tt S;
      nrd = one_square.0;
      nrs = one_square.1;
      isat_bs = isat;
      isat_bd = isat;
      w = side;
      l = side;
      w_over_l = square_channel;
      as_ = zero;
      ad = zero;
      ps = zero_10;
      pd = zero_10;
      cgs_ov = zero;
      cgd_ov = zero;
      cgb_ov = zero;
      cox_wl = zero;
      cbs_bot = zero;
      cbs_sw = zero_10;
      cbd_bot = zero;
      cbd_sw = zero_10;
    }

-- before its first scaling: the nominal values
fresh_scaled_sizes : {c : Card} → CardSizes c → ScaledSizes (fresh_scaled c.vto c.kp c.phi)
unfolding computing
fresh_scaled_sizes C =
    let one : F64AtMost +1 (pos 120) = record { f64 = of_bits-fits binary64 0x3ff0_0000_0000_0000; at_most = constant_at_most 0x3ff0_0000_0000_0000 (pos 120) tt } in
    record {
      isat_t_factor = constant_between 0x3ff0_0000_0000_0000 (minus 68) (pos 68) tt;
      pb_t = record { f64 = of_bits-fits binary64 0x3fe9_9999_9999_999a; range = constant_in 0x3fe9_9999_9999_999a (1 // 20) (nat 32) tt };
      cj_t_factor = one;
      cjsw_t_factor = one;
      vto_t = record { f64 = C.vto.f64; at_most = range_at_most C.vto.range (pos 10) (lit_≤ tt) (lit_≤ tt) };
      kp_t = from_zero_weaken C.kp (pos 9) tt;
      phi_t = record { f64 = C.phi.f64; range = range_weaken C.phi.range (lit_≤ tt) (lit_≤ tt) };
    }

-- ---- the call
module _ (is_pmos : Bool) (bytes offsets lengths : List ℕ) (values : List Float) (space : ℕ) (k : Keyed) (e : card_of is_pmos bytes offsets lengths values space ≡ done k) where
  abbrev read : Parameters
  read = parameters_of (defaults_of is_pmos) (entries_of bytes offsets lengths values)

  made : k.device ≡ fresh_device is_pmos read
  made = (card_accepted is_pmos bytes offsets lengths values space k e).0

  -- an accepted card of f64s leaves every parameter within its bounds, the geometry's and the scaling's too
  pub card_sizes : Every F64 values → DeviceSizes k.device
  card_sizes fs =
      let h = (card_accepted is_pmos bytes offsets lengths values space k e).1 in
      let C = card_record_sizes is_pmos h (parameters_fit bytes (defaults_of is_pmos) offsets lengths fs (defaults_fit is_pmos)) in
      subst DeviceSizes (sym made) (record { card = C; geometry = fresh_geometry_sizes h.rd h.rs; scaled = fresh_scaled_sizes C })

  -- and nothing but a card
  pub fresh_state : FreshState k.device
  fresh_state = subst FreshState (sym made) (record { terminals = refl; point = refl; charges = refl; histories = refl; disc = refl; stage = refl })
