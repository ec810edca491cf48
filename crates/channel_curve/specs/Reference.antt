-- The device of the fourteen cases, as document 01 gives it: vto_t 1, kp_t 2, W/L 1, lambda and gamma 0, phi_t 0.6, gmin 0, no limiter.
-- Drain at node 0, gate at node 1, source and bulk at ground. What 01 leaves open has the card's default, and the junctions carry nothing.
use Rattle.std.specs.Prelude.{false, Float, None}
use Rattle.std.specs.Float.{binary64}
use Rattle.std.specs.Float.Ieee.{of_bits}
use Rattle.exact.specs.Float64.{+0, +1}
use Rattle.device.specs.declared.Card.{Card}
use Rattle.device.specs.declared.ChargeHistory.{ChargeHistory}
use Rattle.device.specs.declared.Geometry.{Geometry}
use Rattle.device.specs.declared.Mosfet1.{Mosfet1}
use Rattle.device.specs.declared.OperatingPoint.{OperatingPoint}
use Rattle.device.specs.declared.Scaled.{Scaled}
use Rattle.device.specs.declared.Terminals.{Terminals}
use Rattle.device.specs.declared.Charges.{Charges}
use Rattle.device.specs.declared.Discretisation.TheVariants as Discretisation
use Rattle.device.specs.declared.NodeId.TheVariants.{Ground, At}
use Rattle.device.specs.declared.Stage.TheVariants as Stage
use Rattle.mosfet1.specs.declared.steps.Conditions.{Conditions}

-- 2.0
abbrev two : Float
two = of_bits binary64 0x4000000000000000

-- 0.6
abbrev phi : Float
phi = of_bits binary64 0x3fe3333333333333

-- 0.8
abbrev pb : Float
pb = of_bits binary64 0x3fe999999999999a

-- 0.5
abbrev half : Float
half = of_bits binary64 0x3fe0000000000000

-- 0.33
abbrev grading : Float
grading = of_bits binary64 0x3fd51eb851eb851f

-- 1e-4
abbrev side : Float
side = of_bits binary64 0x3f1a36e2eb1c432d

-- 300.15
abbrev nominal : Float
nominal = of_bits binary64 0x4072c26666666666

abbrev pub the_card : Card
the_card = record {
  vto = +1;
  kp = two;
  lambda = +0;
  gamma = +0;
  phi = phi;
  rd_card = None;
  rs_card = None;
  rsh = +0;
  is_bulk = +0;
  js = +0;
  kf = +0;
  af = +1;
  tnom = record { 0 = nominal };
  polarity = +1;
  cgso = +0;
  cgdo = +0;
  cgbo = +0;
  cox = +0;
  cj = +0;
  cjsw = +0;
  pb = pb;
  mj = half;
  mjsw = grading;
  fc = half;
}

abbrev pub the_geometry : Geometry
the_geometry = record {
  rd = +0;
  rs = +0;
  nrd = +1;
  nrs = +1;
  isat_bs = +0;
  isat_bd = +0;
  w = side;
  l = side;
  w_over_l = +1;
  as_ = +0;
  ad = +0;
  ps = +0;
  pd = +0;
  cgs_ov = +0;
  cgd_ov = +0;
  cgb_ov = +0;
  cox_wl = +0;
  cbs_bot = +0;
  cbs_sw = +0;
  cbd_bot = +0;
  cbd_sw = +0;
}

abbrev pub the_scaled : Scaled
the_scaled = record {
  isat_t_factor = +1;
  pb_t = pb;
  cj_t_factor = +1;
  cjsw_t_factor = +1;
  vto_t = +1;
  kp_t = two;
  phi_t = phi;
}

abbrev pub the_terminals : Terminals
the_terminals = record {
  drain_ext = At 0;
  source_ext = Ground;
  drain = At 0;
  gate = At 1;
  source = Ground;
  bulk = Ground;
}

abbrev pub the_point : OperatingPoint
the_point = record {
  ids_eval = +0;
  gbs = +0;
  gbd = +0;
  ibs_eq = +0;
  ibd_eq = +0;
  gm = +0;
  gds = +0;
  gmbs = +0;
  jeq = +0;
  vgs_eff_prev = +0;
  vds_eff_prev = +0;
}

abbrev pub the_charges : Charges
the_charges = record {
  cgs_eval = +0;
  cgd_eval = +0;
  cgb_eval = +0;
  q_gs_eval = +0;
  q_gd_eval = +0;
  q_gb_eval = +0;
  vbs_eval = +0;
  vbd_eval = +0;
  cbs_eval = +0;
  cbd_eval = +0;
  q_bs_eval = +0;
  q_bd_eval = +0;
}

abbrev pub no_history_lem : ChargeHistory
no_history_lem = record { q_prev = +0; q_prev2 = None; i_prev = +0 }

abbrev pub the_device : Mosfet1
the_device = record {
  card = the_card;
  geometry = the_geometry;
  scaled = the_scaled;
  terminals = the_terminals;
  point = the_point;
  charges = the_charges;
  histories = record { gs_hist = no_history_lem; gd_hist = no_history_lem; gb_hist = no_history_lem; bs_hist = no_history_lem; bd_hist = no_history_lem };
  disc = Discretisation.None;
  stage = Stage.Bound;
}

abbrev pub the_conditions : Conditions
the_conditions = record { temperature = record { 0 = nominal }; gmin = +0; limiter = false; method = Discretisation.None }
