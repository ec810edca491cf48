-- A model card: its parameters after all keys, and the device that they make.
use Rattle.std.specs.Prelude.{ℕ, Bool, cond, List, [], ◌∷◌, ◌++◌, Float, length, Option, Some, None, unwrap_or}
use Rattle.std.specs.Float.{binary64}
use Rattle.std.specs.Float.Ieee.{of_bits, neg}
use Rattle.exact.specs.Float64.{◌⊗◌, ◌⊘◌, ◌>f◌, +0, +1}
use Rattle.temperature.specs.Temperature.{kelvin_of, tnom_default}
use Rattle.temperature.specs.declared.Celsius.{Celsius}
use Rattle.device.specs.Refusals.{Row, unless, Outcome, done, refused, ◌when◌}
use Rattle.device.specs.declared.Card.{Card}
use Rattle.device.specs.declared.ChargeHistory.{ChargeHistory}
use Rattle.device.specs.declared.Charges.{Charges}
use Rattle.device.specs.declared.Discretisation.TheVariants as Discretisation
use Rattle.device.specs.declared.Geometry.{Geometry}
use Rattle.device.specs.declared.Histories.{Histories}
use Rattle.device.specs.declared.Mosfet1.{Mosfet1}
use Rattle.device.specs.declared.NodeId.TheVariants.{Ground}
use Rattle.device.specs.declared.OperatingPoint.{OperatingPoint}
use Rattle.device.specs.declared.Scaled.{Scaled}
use Rattle.device.specs.declared.Stage.TheVariants as Stage
use Rattle.device.specs.declared.Terminals.{Terminals}
use Rattle.keys.specs.Picks.{is_set, pick, pick_option}
use Rattle.keys.specs.declared.Key.TheVariants.{Vto, Kp, Uo, Is, Js, Lambda, Gamma, Phi, Rd, Rs, Rsh, Kf, Af, Cgso, Cgdo, Cgbo, Cj, Cjsw, Pb, Mj, Mjsw, Fc, Cox, Tox}
use Rattle.keys.specs.declared.Meaning.{Meaning}
use Rattle.keys.specs.declared.Meaning.TheVariants.{Sets, Tnom, Unread, Unknown}
use Rattle.keys.specs.declared.Table.TheVariants as Table
use Rattle.entries.specs.Entries.{Entry, entries_of, unknown_count, any_tnom_outside, key_rows, list_after, settings_of}
use Rattle.entries.specs.declared.Keyed.{Keyed}
use Rattle.card.specs.declared.Parameters.{Parameters}

abbrev pub +0·7 : Float
+0·7 = of_bits binary64 0x3fe6_6666_6666_6666

abbrev pub +0·6 : Float
+0·6 = of_bits binary64 0x3fe3_3333_3333_3333

abbrev pub +0·8 : Float
+0·8 = of_bits binary64 0x3fe9_9999_9999_999a

abbrev pub +0·5 : Float
+0·5 = of_bits binary64 0x3fe0_0000_0000_0000

abbrev pub +0·33 : Float
+0·33 = of_bits binary64 0x3fd5_1eb8_51eb_851f

abbrev pub +1e-4 : Float
+1e-4 = of_bits binary64 0x3f1a_36e2_eb1c_432d

-- 600 cm²/Vs
abbrev pub uo_default : Float
uo_default = of_bits binary64 0x4082_c000_0000_0000

-- 1e-14 A
abbrev pub is_default : Float
is_default = of_bits binary64 0x3d06_849b_86a1_2b9b

-- 2e-5 A/V²
abbrev pub kp_fallback : Float
kp_fallback = of_bits binary64 0x3ef4_f8b5_88e3_68f1

-- 1e-12, the conductances before the first evaluation
abbrev pub gmin_seed : Float
gmin_seed = of_bits binary64 0x3d71_9799_812d_ea11

-- 3.9 times 8.854187817e-12, rounded: the permittivity of silicon dioxide, F/m
abbrev pub eps_ox : Float
eps_ox = of_bits binary64 0x3dc2_fbda_5e73_10c0

-- ---- parameters

-- a `tox` sets COX too: the oxide's permittivity by its thickness
abbrev pub pick_cox : Float → Meaning → Float → Float
pick_cox old m v = cond (is_set Cox m) v (cond (is_set Tox m) (eps_ox ⊘ v) old)

-- the nominal temperature stays in degrees Celsius here
abbrev pub pick_tnom : Celsius → Meaning → Float → Celsius
pick_tnom old (Sets k) v = old
pick_tnom old Tnom v = record { 0 = v }
pick_tnom old Unread v = old
pick_tnom old Unknown v = old

-- the parameters after one key more
abbrev pub assigned : Parameters → Meaning → Float → Parameters
assigned p m v =
    record {
      vto = pick Vto p.vto m v;
      kp = pick_option Kp p.kp m v;
      uo = pick Uo p.uo m v;
      is_bulk = pick Is p.is_bulk m v;
      js = pick Js p.js m v;
      lambda = pick Lambda p.lambda m v;
      gamma = pick Gamma p.gamma m v;
      phi = pick Phi p.phi m v;
      rd = pick_option Rd p.rd m v;
      rs = pick_option Rs p.rs m v;
      rsh = pick Rsh p.rsh m v;
      kf = pick Kf p.kf m v;
      af = pick Af p.af m v;
      cgso = pick Cgso p.cgso m v;
      cgdo = pick Cgdo p.cgdo m v;
      cgbo = pick Cgbo p.cgbo m v;
      cox = pick_cox p.cox m v;
      cj = pick Cj p.cj m v;
      cjsw = pick Cjsw p.cjsw m v;
      pb = pick Pb p.pb m v;
      mj = pick Mj p.mj m v;
      mjsw = pick Mjsw p.mjsw m v;
      fc = pick Fc p.fc m v;
      tnom = pick_tnom p.tnom m v;
    }

-- a later key overrides
unfoldable pub parameters_of : Parameters → List Entry → Parameters
parameters_of p es = settings_of assigned Table.Card p es

abbrev pub default_vto : Bool → Float
default_vto is_pmos = cond is_pmos (neg +0·7) +0·7

-- what a card that says nothing means
abbrev pub defaults_of : Bool → Parameters
defaults_of is_pmos =
    record {
      vto = default_vto is_pmos;
      kp = None;
      uo = uo_default;
      is_bulk = is_default;
      js = +0;
      lambda = +0;
      gamma = +0;
      phi = +0·6;
      rd = None;
      rs = None;
      rsh = +0;
      kf = +0;
      af = +1;
      cgso = +0;
      cgdo = +0;
      cgbo = +0;
      cox = +0;
      cj = +0;
      cjsw = +0;
      pb = +0·8;
      mj = +0·5;
      mjsw = +0·33;
      fc = +0·5;
      tnom = tnom_default;
    }

-- KP where it is given; else UO COX, with UO in m²/Vs, where there is a COX; else the fallback
abbrev pub kp_from : Option Float → Float → Float → Float
kp_from (Some kp) uo cox = kp
kp_from None uo cox = cond (cox >f +0) (uo ⊗ +1e-4 ⊗ cox) kp_fallback

-- ---- the device

abbrev pub polarity_of : Bool → Float
polarity_of is_pmos = cond is_pmos (neg +1) +1

-- the card's part of the device; its nominal temperature becomes kelvin
abbrev pub card_record_of : Bool → Parameters → Card
card_record_of is_pmos p =
    record {
      vto = p.vto;
      kp = kp_from p.kp p.uo p.cox;
      lambda = p.lambda;
      gamma = p.gamma;
      phi = p.phi;
      rd_card = p.rd;
      rs_card = p.rs;
      rsh = p.rsh;
      is_bulk = p.is_bulk;
      js = p.js;
      kf = p.kf;
      af = p.af;
      tnom = kelvin_of p.tnom;
      polarity = polarity_of is_pmos;
      cgso = p.cgso;
      cgdo = p.cgdo;
      cgbo = p.cgbo;
      cox = p.cox;
      cj = p.cj;
      cjsw = p.cjsw;
      pb = p.pb;
      mj = p.mj;
      mjsw = p.mjsw;
      fc = p.fc;
    }

-- before a geometry call: W = L = 100 µm, RD and RS as given, nothing else derived
abbrev pub fresh_geometry : Float → Float → Geometry
fresh_geometry rd rs =
    record {
      rd = rd;
      rs = rs;
      nrd = +1;
      nrs = +1;
      isat_bs = is_default;
      isat_bd = is_default;
      w = +1e-4;
      l = +1e-4;
      w_over_l = +1;
      as_ = +0;
      ad = +0;
      ps = +0;
      pd = +0;
      cgs_ov = +0;
      cgd_ov = +0;
      cgb_ov = +0;
      cox_wl = +0;
      cbs_bot = +0;
      cbs_sw = +0;
      cbd_bot = +0;
      cbd_sw = +0;
    }

-- before a scaling: the nominal values
abbrev pub fresh_scaled : Float → Float → Float → Scaled
fresh_scaled vto kp phi =
    record {
      isat_t_factor = +1;
      pb_t = +0·8;
      cj_t_factor = +1;
      cjsw_t_factor = +1;
      vto_t = vto;
      kp_t = kp;
      phi_t = phi;
    }

abbrev pub fresh_terminals : Terminals
fresh_terminals =
    record {
      drain_ext = Ground;
      source_ext = Ground;
      drain = Ground;
      gate = Ground;
      source = Ground;
      bulk = Ground;
    }

abbrev pub fresh_point : OperatingPoint
fresh_point =
    record {
      ids_eval = +0;
      gbs = +0;
      gbd = +0;
      ibs_eq = +0;
      ibd_eq = +0;
      gm = gmin_seed;
      gds = gmin_seed;
      gmbs = +0;
      jeq = +0;
      vgs_eff_prev = +0;
      vds_eff_prev = +0;
    }

abbrev pub fresh_charges : Charges
fresh_charges =
    record {
      cgs_eval = +0;
      cgd_eval = +0;
      cgb_eval = +0;
      q_gs_eval = +0;
      q_gd_eval = +0;
      q_gb_eval = +0;
      vbs_eval = +0;
      vbd_eval = +0;
      cbs_eval = +0;
      cbd_eval = +0;
      q_bs_eval = +0;
      q_bd_eval = +0;
    }

abbrev pub no_history : ChargeHistory
no_history = record { q_prev = +0; q_prev2 = None; i_prev = +0 }

abbrev pub fresh_histories : Histories
fresh_histories =
    record {
      gs_hist = no_history;
      gd_hist = no_history;
      gb_hist = no_history;
      bs_hist = no_history;
      bd_hist = no_history;
    }

abbrev pub fresh_device : Bool → Parameters → Mosfet1
fresh_device is_pmos p =
    let c = card_record_of is_pmos p in
    record {
      card = c;
      geometry = fresh_geometry (unwrap_or p.rd +0) (unwrap_or p.rs +0);
      scaled = fresh_scaled c.vto c.kp c.phi;
      terminals = fresh_terminals;
      point = fresh_point;
      charges = fresh_charges;
      histories = fresh_histories;
      disc = Discretisation.None;
      stage = Stage.Card;
    }

-- ---- the call

-- its refusals; space is the lent list's length
abbrev pub card_rows : List ℕ → List ℕ → List ℕ → List Float → ℕ → List Row
card_rows bytes offsets lengths values space =
    key_rows Table.Card bytes offsets lengths values space ++ ((6 when any_tnom_outside Table.Card (entries_of bytes offsets lengths values)) ∷ [])

-- the device and the count of unknown keys, or the refusal
unfoldable pub card_of : Bool → List ℕ → List ℕ → List ℕ → List Float → ℕ → Outcome Keyed
card_of is_pmos bytes offsets lengths values space =
    let es = entries_of bytes offsets lengths values in
    unless (card_rows bytes offsets lengths values space) refused (done (record { device = fresh_device is_pmos (parameters_of (defaults_of is_pmos) es); unknown = unknown_count Table.Card es }))

unfoldable pub card_list_of : List ℕ → List ℕ → List ℕ → List Float → List ℕ → List ℕ
card_list_of bytes offsets lengths values list =
    list_after (card_rows bytes offsets lengths values (length list)) Table.Card (entries_of bytes offsets lengths values) list
