-- The devices that the calls of the example leave, computed: each number by its bits.
use Rattle.std.specs.Prelude.{ℕ, true, List, [], ◌∷◌, Float, Some, None}
use Rattle.std.specs.Float.{binary64}
use Rattle.std.specs.Float.Ieee.{of_bits}
use Rattle.exact.specs.Float64.{+0, +1}
use Rattle.device.specs.declared.Card.{Card}
use Rattle.device.specs.declared.ChargeHistory.{ChargeHistory}
use Rattle.device.specs.declared.Charges.{Charges}
use Rattle.device.specs.declared.Discretisation.{Discretisation}
use Rattle.device.specs.declared.Discretisation.TheVariants as Discretisation
use Rattle.device.specs.declared.Discretisation.TheVariants.{Euler, Trapezoid, Gear}
use Rattle.device.specs.declared.Geometry.{Geometry}
use Rattle.device.specs.declared.Histories.{Histories}
use Rattle.device.specs.declared.Mosfet1.{Mosfet1}
use Rattle.device.specs.declared.NodeId.TheVariants.{Ground, At}
use Rattle.device.specs.declared.OperatingPoint.{OperatingPoint}
use Rattle.device.specs.declared.Scaled.{Scaled}
use Rattle.device.specs.declared.Stage.{Stage}
use Rattle.device.specs.declared.Stage.TheVariants as Stage
use Rattle.device.specs.declared.Terminals.{Terminals}
use Rattle.card.specs.Card.{fresh_geometry, fresh_terminals, fresh_point, fresh_charges, fresh_histories}
use Rattle.bias.specs.declared.Kept.{Kept}
use Rattle.call_lists.specs.LastEvaluation.{EvaluationMade}
use Rattle.currents_example.specs.Example.{kelvin, x3, conditions3, +1e-9, +2e-9}

abbrev f64 : ℕ → Float
f64 bits = of_bits binary64 bits

-- kp is uo cox; tnom is 300.15 K
abbrev pub card : Card
card = record {
  vto = f64 0x3fe6_6666_6666_6666;
  kp = f64 0x3f1b_2813_5318_6e38;
  lambda = f64 0x3f94_7ae1_47ae_147b;
  gamma = f64 0x3fe0_0000_0000_0000;
  phi = f64 0x3fe3_3333_3333_3333;
  rd_card = None;
  rs_card = None;
  rsh = +0;
  is_bulk = f64 0x3d06_849b_86a1_2b9b;
  js = +0;
  kf = +0;
  af = +1;
  tnom = kelvin;
  polarity = +1;
  cgso = f64 0x3dfb_7cdf_d9d7_bdbb;
  cgdo = +0;
  cgbo = +0;
  cox = f64 0x3f5c_49be_cbe4_1d7a;
  cj = f64 0x3f1a_36e2_eb1c_432d;
  cjsw = +0;
  pb = f64 0x3fe9_9999_9999_999a;
  mj = f64 0x3fe0_0000_0000_0000;
  mjsw = f64 0x3fd5_1eb8_51eb_851f;
  fc = f64 0x3fe0_0000_0000_0000;
}

-- W/L is 10; the source junction has a bottom capacitance of 1e-14 F, the drain junction none
abbrev pub sizes : Geometry
sizes = record {
  rd = +0;
  rs = +0;
  nrd = +1;
  nrs = +1;
  isat_bs = f64 0x3d06_849b_86a1_2b9b;
  isat_bd = f64 0x3d06_849b_86a1_2b9b;
  w = f64 0x3ee4_f8b5_88e3_68f1;
  l = f64 0x3eb0_c6f7_a0b5_ed8d;
  w_over_l = f64 0x4024_0000_0000_0001;
  as_ = f64 0x3ddb_7cdf_d9d7_bdbb;
  ad = +0;
  ps = +0;
  pd = +0;
  cgs_ov = f64 0x3cf2_03af_9ee7_5616;
  cgd_ov = +0;
  cgb_ov = +0;
  cox_wl = f64 0x3d13_707d_4e48_c561;
  cbs_bot = f64 0x3d06_849b_86a1_2b9c;
  cbs_sw = +0;
  cbd_bot = +0;
  cbd_sw = +0;
}

-- at 300.15 K, the nominal temperature, the parameters are the card's
abbrev pub nominal : Scaled
nominal = record {
  isat_t_factor = +1;
  pb_t = f64 0x3fe9_9999_9999_999a;
  cj_t_factor = +1;
  cjsw_t_factor = +1;
  vto_t = f64 0x3fe6_6666_6666_6666;
  kp_t = f64 0x3f1b_2813_5318_6e38;
  phi_t = f64 0x3fe3_3333_3333_3333;
}

abbrev pub nodes : Terminals
nodes = record {
  drain_ext = At 0;
  source_ext = Ground;
  drain = At 0;
  gate = At 1;
  source = Ground;
  bulk = At 2;
}

-- the first evaluation, in saturation; the limiter kept vgs at 1.69 V
abbrev pub point1 : OperatingPoint
point1 = record {
  ids_eval = f64 0x3f33_5f40_a8fb_b7eb;
  gbs = f64 0x3d71_9799_812d_ea11;
  gbd = f64 0x3d71_9799_812d_ea11;
  ibs_eq = f64 0xbd06_849b_86a1_2b80;
  ibd_eq = f64 0xbd06_849b_86a1_2c00;
  gm = f64 0x3f49_e61b_08d1_7bdd;
  gds = f64 0x3ed8_4f60_79cc_79ff;
  gmbs = f64 0x3f24_798f_0784_bd0c;
  jeq = f64 0xbf4d_3c59_4947_793f;
  vgs_eff_prev = f64 0x3ffb_1721_7f7d_1cf8;
  vds_eff_prev = f64 0x3ff0_0000_0000_0000;
}

abbrev pub charges1 : Charges
charges1 = record {
  cgs_eval = f64 0x3d11_7694_c695_03c6;
  cgd_eval = f64 0x0000_0000_0000_0000;
  cgb_eval = f64 0x0000_0000_0000_0000;
  q_gs_eval = f64 0x3d21_7694_c695_03c6;
  q_gd_eval = f64 0x0000_0000_0000_0000;
  q_gb_eval = f64 0x0000_0000_0000_0000;
  vbs_eval = f64 0xbff0_0000_0000_0000;
  vbd_eval = f64 0xc000_0000_0000_0000;
  cbs_eval = f64 0x3cfe_0624_b381_8f81;
  cbd_eval = f64 0x0000_0000_0000_0000;
  q_bs_eval = f64 0xbd02_03af_9ee7_560c;
  q_bd_eval = f64 0x0000_0000_0000_0000;
}

-- the second, in the triode region
abbrev pub point2 : OperatingPoint
point2 = record {
  ids_eval = f64 0x3f54_21e2_af10_7973;
  gbs = f64 0x3d71_9799_81a3_70da;
  gbd = f64 0x3d71_9799_812d_ea11;
  ibs_eq = f64 0xbd06_849b_67ba_60c0;
  ibd_eq = f64 0xbd06_849b_86a1_2b80;
  gm = f64 0x3f51_4ff2_b82c_5fde;
  gds = f64 0x3f47_bdef_9e4f_c305;
  gmbs = f64 0x3f30_81b2_5d10_2a4d;
  jeq = f64 0xbf60_7a5e_d072_2939;
  vgs_eff_prev = f64 0x4004_0000_0000_0000;
  vds_eff_prev = f64 0x3ff0_0000_0000_0000;
}

abbrev pub charges2 : Charges
charges2 = record {
  cgs_eval = f64 0x3d0c_7255_1dbc_706c;
  cgd_eval = f64 0x3d03_707d_4e48_c561;
  cgb_eval = f64 0x0000_0000_0000_0000;
  q_gs_eval = f64 0x3d21_c775_3295_c644;
  q_gd_eval = f64 0x3d0d_28bb_f56d_2812;
  q_gb_eval = f64 0x0000_0000_0000_0000;
  vbs_eval = f64 0xbfe0_0000_0000_0000;
  vbd_eval = f64 0xbff8_0000_0000_0000;
  cbs_eval = f64 0x3d01_aa21_5443_b4d9;
  cbd_eval = f64 0x0000_0000_0000_0000;
  q_bs_eval = f64 0xbcf3_cc55_3a8f_8730;
  q_bd_eval = f64 0x0000_0000_0000_0000;
}

-- the third, in the triode region; the limiter kept vgs at 4.42 V
abbrev pub point3 : OperatingPoint
point3 = record {
  ids_eval = f64 0x3f78_c7fa_7e2a_209e;
  gbs = f64 0x3e3a_2f1b_4d91_4dbe;
  gbd = f64 0x3d71_9799_812d_ea11;
  ibs_eq = f64 0xbe17_78a9_d7fc_27aa;
  ibd_eq = f64 0xbd06_849b_86a1_2b80;
  gm = f64 0x3f61_a6d9_5c69_7ad9;
  gds = f64 0x3f60_e88d_99df_1d7e;
  gmbs = f64 0x3f4d_d63f_c06a_ade4;
  jeq = f64 0xbf80_04c5_d48c_16c1;
  vgs_eff_prev = f64 0x4011_aa48_1e1c_1c0f;
  vds_eff_prev = f64 0x4000_0000_0000_0000;
}

abbrev pub charges3 : Charges
charges3 = record {
  cgs_eval = f64 0x3d0c_7255_1dbc_706c;
  cgd_eval = f64 0x3d03_707d_4e48_c561;
  cgb_eval = f64 0x0000_0000_0000_0000;
  q_gs_eval = f64 0x3d31_c775_3295_c644;
  q_gd_eval = f64 0x3d1d_28bb_f56d_2812;
  q_gb_eval = f64 0x0000_0000_0000_0000;
  vbs_eval = f64 0x3fd0_0000_0000_0000;
  vbd_eval = f64 0xbffc_0000_0000_0000;
  cbs_eval = f64 0x3d0b_2860_d5b5_5ebd;
  cbd_eval = f64 0x0000_0000_0000_0000;
  q_bs_eval = f64 0x3ce8_9f06_17b6_42cf;
  q_bd_eval = f64 0x0000_0000_0000_0000;
}

-- a commit leaves the kept voltages alone changed
abbrev committed_point : OperatingPoint → Float → Float → OperatingPoint
committed_point p vgs vds = record {
  ids_eval = p.ids_eval;
  gbs = p.gbs;
  gbd = p.gbd;
  ibs_eq = p.ibs_eq;
  ibd_eq = p.ibd_eq;
  gm = p.gm;
  gds = p.gds;
  gmbs = p.gmbs;
  jeq = p.jeq;
  vgs_eff_prev = vgs;
  vds_eff_prev = vds;
}

-- the last charge, the one before it and the recorded current
abbrev past : Float → Float → Float → ChargeHistory
past q q2 i = record { q_prev = q; q_prev2 = Some q2; i_prev = i }

abbrev pub histories1 : Histories
histories1 = record {
  gs_hist = past (f64 0x3d21_7694_c695_03c6) (f64 0x0000_0000_0000_0000) (f64 0x3f00_438d_9b54_c8d1);
  gd_hist = past (f64 0x0000_0000_0000_0000) (f64 0x0000_0000_0000_0000) (f64 0x0000_0000_0000_0000);
  gb_hist = past (f64 0x0000_0000_0000_0000) (f64 0x0000_0000_0000_0000) (f64 0x0000_0000_0000_0000);
  bs_hist = past (f64 0xbd02_03af_9ee7_560c) (f64 0x0000_0000_0000_0000) (f64 0xbee0_c6f7_a0b5_ed84);
  bd_hist = past (f64 0x0000_0000_0000_0000) (f64 0x0000_0000_0000_0000) (f64 0x0000_0000_0000_0000);
}

abbrev pub histories2 : Histories
histories2 = record {
  gs_hist = past (f64 0x3d21_c775_3295_c644) (f64 0x3d21_7694_c695_03c6) (f64 0xbeff_59d1_3b45_e998);
  gd_hist = past (f64 0x3d0d_28bb_f56d_2812) (f64 0x0000_0000_0000_0000) (f64 0x3efb_2813_5318_6e39);
  gb_hist = past (f64 0x0000_0000_0000_0000) (f64 0x0000_0000_0000_0000) (f64 0x0000_0000_0000_0000);
  bs_hist = past (f64 0xbcf3_cc55_3a8f_8730) (f64 0xbd02_03af_9ee7_560c) (f64 0x3eef_e4a6_2623_8dba);
  bd_hist = past (f64 0x0000_0000_0000_0000) (f64 0x0000_0000_0000_0000) (f64 0x0000_0000_0000_0000);
}

-- ---- the devices
abbrev pub fresh : Mosfet1
fresh = record {
  card = card;
  geometry = fresh_geometry +0 +0;
  scaled = nominal;
  terminals = fresh_terminals;
  point = fresh_point;
  charges = fresh_charges;
  histories = fresh_histories;
  disc = Discretisation.None;
  stage = Stage.Card;
}

-- before binding, with the stage
abbrev pub sized : Stage → Mosfet1
sized stage = record {
  card = card;
  geometry = sizes;
  scaled = nominal;
  terminals = fresh_terminals;
  point = fresh_point;
  charges = fresh_charges;
  histories = fresh_histories;
  disc = Discretisation.None;
  stage = stage;
}

abbrev pub bound : Mosfet1
bound = record {
  card = card;
  geometry = sizes;
  scaled = nominal;
  terminals = nodes;
  point = fresh_point;
  charges = fresh_charges;
  histories = fresh_histories;
  disc = Discretisation.None;
  stage = Stage.Bound;
}

-- after an evaluation or a commit
abbrev pub device_with : OperatingPoint → Charges → Histories → Discretisation → Mosfet1
device_with point charges histories disc = record {
  card = card;
  geometry = sizes;
  scaled = nominal;
  terminals = nodes;
  point = point;
  charges = charges;
  histories = histories;
  disc = disc;
  stage = Stage.Evaluated;
}

abbrev pub evaluated1 : Mosfet1
evaluated1 = device_with point1 charges1 fresh_histories (Euler +1e-9)

abbrev pub committed1 : Mosfet1
committed1 = device_with (committed_point point1 (f64 0x4000_0000_0000_0000) (f64 0x3ff0_0000_0000_0000)) charges1 histories1 (Euler +1e-9)

abbrev pub evaluated2 : Mosfet1
evaluated2 = device_with point2 charges2 histories1 (Trapezoid +1e-9)

abbrev pub committed2 : Mosfet1
committed2 = device_with (committed_point point2 (f64 0x4004_0000_0000_0000) (f64 0x3ff0_0000_0000_0000)) charges2 histories2 (Trapezoid +1e-9)

abbrev pub evaluated3 : Mosfet1
evaluated3 = device_with point3 charges3 histories2 (Gear +2e-9 +1e-9)

-- ---- the last accepted evaluation, and the voltages that it kept
abbrev pub evaluation_loaded : EvaluationMade
evaluation_loaded = record { device = committed2; x = x3; transient = true; conditions = conditions3 }

abbrev pub kept_loaded : Kept
kept_loaded = record { vgs = point3.vgs_eff_prev; vds = point3.vds_eff_prev }

-- ---- the slices after the load
abbrev pub side_loaded : List Float
side_loaded = f64 0x3f7f_f52d_9a99_ae25 ∷ f64 0x3f08_2da3_a98a_8508 ∷ f64 0xbeb1_3139_ef2e_9641 ∷ []

abbrev pub matrix_loaded : List Float
matrix_loaded =
    f64 0x3f60_f7a3_dda2_3dd2 ∷ f64 0x3f61_97c3_18c9_89b8 ∷ f64 0x3f4d_d63f_bfdd_f118
    ∷ f64 0xbede_2c87_3fe2_4194 ∷ f64 0x3ef2_950c_8c17_079c ∷ f64 0x3ff0_0000_0000_0000
    ∷ f64 0xbd71_9799_812d_ea11 ∷ f64 0x3ff0_0000_0000_0000 ∷ f64 0x3ee5_1707_7b26_c9bc
    ∷ []
