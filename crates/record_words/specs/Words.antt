-- The 113 words of eight bytes that a device's record is, each given as a float: the record that words are, and the words that a record is.
use Rattle.std.specs.Prelude.{ℕ, ◌+◌, ◌<◌, ◌^◌, List, [], ◌∷◌, ◌++◌, cond, get_or, Float}
use Rattle.std.specs.Float.{nan, binary64}
use Rattle.std.specs.Float.Ieee.{is_nan, to_bits, of_bits}
use Rattle.device.specs.declared.Geometry.{Geometry}
use Rattle.device.specs.declared.Scaled.{Scaled}
use Rattle.device.specs.declared.OperatingPoint.{OperatingPoint}
use Rattle.device.specs.declared.Charges.{Charges}
use Rattle.record.specs.declared.NodeRecord.{NodeRecord}
use Rattle.record.specs.declared.GivenRecord.{GivenRecord}
use Rattle.record.specs.declared.MethodRecord.{MethodRecord}
use Rattle.record.specs.declared.CardRecord.{CardRecord}
use Rattle.record.specs.declared.TerminalsRecord.{TerminalsRecord}
use Rattle.record.specs.declared.HistoryRecord.{HistoryRecord}
use Rattle.record.specs.declared.HistoriesRecord.{HistoriesRecord}
use Rattle.record.specs.declared.DeviceRecord.{DeviceRecord}

-- ---- from the words to the record

-- a word that is a whole number: its bits, and all ones where they are a NaN's
unfoldable pub whole_of : Float → ℕ
whole_of x = cond (is_nan x) 18446744073709551615 (to_bits binary64 x)

-- a number that may be absent, from word k on
unfoldable pub given_at : List Float → ℕ → GivenRecord
given_at w k = record { tag = whole_of (get_or w k nan); value = get_or w (k + 1) nan }

-- a node, from word k on
unfoldable pub node_at : List Float → ℕ → NodeRecord
node_at w k = record { tag = whole_of (get_or w k nan); index = whole_of (get_or w (k + 1) nan) }

-- a charge branch's past, from word k on
unfoldable pub history_at : List Float → ℕ → HistoryRecord
history_at w k = record { q_prev = get_or w k nan; q_prev2 = given_at w (k + 1); i_prev = get_or w (k + 3) nan }

-- words 0 to 25
unfoldable pub card_of : List Float → CardRecord
card_of w =
    record {
      vto = get_or w 0 nan;
      kp = get_or w 1 nan;
      lambda = get_or w 2 nan;
      gamma = get_or w 3 nan;
      phi = get_or w 4 nan;
      rd_card = given_at w 5;
      rs_card = given_at w 7;
      rsh = get_or w 9 nan;
      is_bulk = get_or w 10 nan;
      js = get_or w 11 nan;
      kf = get_or w 12 nan;
      af = get_or w 13 nan;
      tnom = get_or w 14 nan;
      polarity = get_or w 15 nan;
      cgso = get_or w 16 nan;
      cgdo = get_or w 17 nan;
      cgbo = get_or w 18 nan;
      cox = get_or w 19 nan;
      cj = get_or w 20 nan;
      cjsw = get_or w 21 nan;
      pb = get_or w 22 nan;
      mj = get_or w 23 nan;
      mjsw = get_or w 24 nan;
      fc = get_or w 25 nan;
    }

-- words 26 to 46
unfoldable pub geometry_of : List Float → Geometry
geometry_of w =
    record {
      rd = get_or w 26 nan;
      rs = get_or w 27 nan;
      nrd = get_or w 28 nan;
      nrs = get_or w 29 nan;
      isat_bs = get_or w 30 nan;
      isat_bd = get_or w 31 nan;
      w = get_or w 32 nan;
      l = get_or w 33 nan;
      w_over_l = get_or w 34 nan;
      as_ = get_or w 35 nan;
      ad = get_or w 36 nan;
      ps = get_or w 37 nan;
      pd = get_or w 38 nan;
      cgs_ov = get_or w 39 nan;
      cgd_ov = get_or w 40 nan;
      cgb_ov = get_or w 41 nan;
      cox_wl = get_or w 42 nan;
      cbs_bot = get_or w 43 nan;
      cbs_sw = get_or w 44 nan;
      cbd_bot = get_or w 45 nan;
      cbd_sw = get_or w 46 nan;
    }

-- words 47 to 53
unfoldable pub scaled_of : List Float → Scaled
scaled_of w =
    record {
      isat_t_factor = get_or w 47 nan;
      pb_t = get_or w 48 nan;
      cj_t_factor = get_or w 49 nan;
      cjsw_t_factor = get_or w 50 nan;
      vto_t = get_or w 51 nan;
      kp_t = get_or w 52 nan;
      phi_t = get_or w 53 nan;
    }

-- words 54 to 65
unfoldable pub terminals_of : List Float → TerminalsRecord
terminals_of w =
    record {
      drain_ext = node_at w 54;
      source_ext = node_at w 56;
      drain = node_at w 58;
      gate = node_at w 60;
      source = node_at w 62;
      bulk = node_at w 64;
    }

-- words 66 to 76
unfoldable pub point_of : List Float → OperatingPoint
point_of w =
    record {
      ids_eval = get_or w 66 nan;
      gbs = get_or w 67 nan;
      gbd = get_or w 68 nan;
      ibs_eq = get_or w 69 nan;
      ibd_eq = get_or w 70 nan;
      gm = get_or w 71 nan;
      gds = get_or w 72 nan;
      gmbs = get_or w 73 nan;
      jeq = get_or w 74 nan;
      vgs_eff_prev = get_or w 75 nan;
      vds_eff_prev = get_or w 76 nan;
    }

-- words 77 to 88
unfoldable pub charges_of : List Float → Charges
charges_of w =
    record {
      cgs_eval = get_or w 77 nan;
      cgd_eval = get_or w 78 nan;
      cgb_eval = get_or w 79 nan;
      q_gs_eval = get_or w 80 nan;
      q_gd_eval = get_or w 81 nan;
      q_gb_eval = get_or w 82 nan;
      vbs_eval = get_or w 83 nan;
      vbd_eval = get_or w 84 nan;
      cbs_eval = get_or w 85 nan;
      cbd_eval = get_or w 86 nan;
      q_bs_eval = get_or w 87 nan;
      q_bd_eval = get_or w 88 nan;
    }

-- words 89 to 108
unfoldable pub histories_of : List Float → HistoriesRecord
histories_of w =
    record {
      gs_hist = history_at w 89;
      gd_hist = history_at w 93;
      gb_hist = history_at w 97;
      bs_hist = history_at w 101;
      bd_hist = history_at w 105;
    }

-- words 109 to 111
unfoldable pub method_of : List Float → MethodRecord
method_of w =
    record {
      tag = whole_of (get_or w 109 nan);
      h = get_or w 110 nan;
      h_prev = get_or w 111 nan;
    }

-- the record that the words are; the stage is the last
unfoldable pub record_of : List Float → DeviceRecord
record_of w =
    record {
      card = card_of w;
      geometry = geometry_of w;
      scaled = scaled_of w;
      terminals = terminals_of w;
      point = point_of w;
      charges = charges_of w;
      histories = histories_of w;
      method = method_of w;
      stage = whole_of (get_or w 112 nan);
    }

-- ---- from the record to the words

-- a whole number as the float of these bits, and NaN where they are a NaN's
abbrev pub float_of : ℕ → Float
float_of n = of_bits binary64 n

-- a number that may be absent: two words
unfoldable pub given_words : GivenRecord → List Float
given_words g = float_of g.tag ∷ g.value ∷ []

-- a node: two words
unfoldable pub node_words : NodeRecord → List Float
node_words n = float_of n.tag ∷ float_of n.index ∷ []

-- a charge branch's past: four words
unfoldable pub history_words : HistoryRecord → List Float
history_words h = (h.q_prev ∷ []) ++ given_words h.q_prev2 ++ (h.i_prev ∷ [])

-- words 0 to 25
unfoldable pub card_words : CardRecord → List Float
card_words c =
    (c.vto ∷ c.kp ∷ c.lambda ∷ c.gamma ∷ c.phi ∷ [])
    ++ given_words c.rd_card
    ++ given_words c.rs_card
    ++ (c.rsh ∷ c.is_bulk ∷ c.js ∷ c.kf ∷ c.af ∷ c.tnom ∷ c.polarity ∷ c.cgso ∷ c.cgdo ∷ c.cgbo ∷ c.cox ∷ c.cj
    ∷ c.cjsw ∷ c.pb ∷ c.mj ∷ c.mjsw ∷ c.fc ∷ [])

-- words 26 to 46
unfoldable pub geometry_words : Geometry → List Float
geometry_words g =
    g.rd ∷ g.rs ∷ g.nrd ∷ g.nrs ∷ g.isat_bs ∷ g.isat_bd ∷ g.w ∷ g.l ∷ g.w_over_l ∷ g.as_ ∷ g.ad ∷ g.ps
    ∷ g.pd ∷ g.cgs_ov ∷ g.cgd_ov ∷ g.cgb_ov ∷ g.cox_wl ∷ g.cbs_bot ∷ g.cbs_sw ∷ g.cbd_bot ∷ g.cbd_sw
    ∷ []

-- words 47 to 53
unfoldable pub scaled_words : Scaled → List Float
scaled_words s =
    s.isat_t_factor ∷ s.pb_t ∷ s.cj_t_factor ∷ s.cjsw_t_factor ∷ s.vto_t ∷ s.kp_t ∷ s.phi_t ∷ []

-- words 54 to 65
unfoldable pub terminals_words : TerminalsRecord → List Float
terminals_words t =
    node_words t.drain_ext
    ++ node_words t.source_ext
    ++ node_words t.drain
    ++ node_words t.gate
    ++ node_words t.source
    ++ node_words t.bulk

-- words 66 to 76
unfoldable pub point_words : OperatingPoint → List Float
point_words p =
    p.ids_eval ∷ p.gbs ∷ p.gbd ∷ p.ibs_eq ∷ p.ibd_eq ∷ p.gm ∷ p.gds ∷ p.gmbs ∷ p.jeq ∷ p.vgs_eff_prev
    ∷ p.vds_eff_prev ∷ []

-- words 77 to 88
unfoldable pub charges_words : Charges → List Float
charges_words c =
    c.cgs_eval ∷ c.cgd_eval ∷ c.cgb_eval ∷ c.q_gs_eval ∷ c.q_gd_eval ∷ c.q_gb_eval ∷ c.vbs_eval
    ∷ c.vbd_eval ∷ c.cbs_eval ∷ c.cbd_eval ∷ c.q_bs_eval ∷ c.q_bd_eval ∷ []

-- words 89 to 108
unfoldable pub histories_words : HistoriesRecord → List Float
histories_words h =
    history_words h.gs_hist
    ++ history_words h.gd_hist
    ++ history_words h.gb_hist
    ++ history_words h.bs_hist
    ++ history_words h.bd_hist

-- words 109 to 111
unfoldable pub method_words : MethodRecord → List Float
method_words m =
    float_of m.tag ∷ m.h ∷ m.h_prev ∷ []

-- the words that the record is
unfoldable pub words_of : DeviceRecord → List Float
words_of r =
    card_words r.card
    ++ geometry_words r.geometry
    ++ scaled_words r.scaled
    ++ terminals_words r.terminals
    ++ point_words r.point
    ++ charges_words r.charges
    ++ histories_words r.histories
    ++ method_words r.method
    ++ (float_of r.stage ∷ [])

-- ---- which records are read back from their words

-- each whole number of the record is below 2 ^ 52, as every known tag is
pub record WholeNumbersSmall (r : DeviceRecord) : Type 0 where
  pub rd_tag : r.card.rd_card.tag < 2 ^ 52
  pub rs_tag : r.card.rs_card.tag < 2 ^ 52
  pub drain_ext_tag : r.terminals.drain_ext.tag < 2 ^ 52
  pub drain_ext_index : r.terminals.drain_ext.index < 2 ^ 52
  pub source_ext_tag : r.terminals.source_ext.tag < 2 ^ 52
  pub source_ext_index : r.terminals.source_ext.index < 2 ^ 52
  pub drain_tag : r.terminals.drain.tag < 2 ^ 52
  pub drain_index : r.terminals.drain.index < 2 ^ 52
  pub gate_tag : r.terminals.gate.tag < 2 ^ 52
  pub gate_index : r.terminals.gate.index < 2 ^ 52
  pub source_tag : r.terminals.source.tag < 2 ^ 52
  pub source_index : r.terminals.source.index < 2 ^ 52
  pub bulk_tag : r.terminals.bulk.tag < 2 ^ 52
  pub bulk_index : r.terminals.bulk.index < 2 ^ 52
  pub gs_tag : r.histories.gs_hist.q_prev2.tag < 2 ^ 52
  pub gd_tag : r.histories.gd_hist.q_prev2.tag < 2 ^ 52
  pub gb_tag : r.histories.gb_hist.q_prev2.tag < 2 ^ 52
  pub bs_tag : r.histories.bs_hist.q_prev2.tag < 2 ^ 52
  pub bd_tag : r.histories.bd_hist.q_prev2.tag < 2 ^ 52
  pub method_tag : r.method.tag < 2 ^ 52
  pub stage : r.stage < 2 ^ 52
