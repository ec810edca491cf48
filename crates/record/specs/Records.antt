-- The record of a device: each number as it is, each choice as a tag. A field that a tag leaves unused is 0.
use Rattle.exact.specs.Float64.{+0}
use Rattle.std.specs.Prelude.{ℕ, Option, Some, None, Float}
use Rattle.device.specs.declared.NodeId.{NodeId}
use Rattle.device.specs.declared.Discretisation.{Discretisation}
use Rattle.device.specs.declared.Stage.{Stage}
use Rattle.device.specs.declared.Card.{Card}
use Rattle.device.specs.declared.Terminals.{Terminals}
use Rattle.device.specs.declared.ChargeHistory.{ChargeHistory}
use Rattle.device.specs.declared.Histories.{Histories}
use Rattle.device.specs.declared.Mosfet1.{Mosfet1}
use Rattle.device.specs.declared.NodeId.TheVariants.{Ground, At}
use Rattle.device.specs.declared.Discretisation.TheVariants as Discretisation
use Rattle.device.specs.declared.Stage.TheVariants as Stage
use Rattle.record.specs.declared.NodeRecord.{NodeRecord}
use Rattle.record.specs.declared.GivenRecord.{GivenRecord}
use Rattle.record.specs.declared.MethodRecord.{MethodRecord}
use Rattle.record.specs.declared.CardRecord.{CardRecord}
use Rattle.record.specs.declared.TerminalsRecord.{TerminalsRecord}
use Rattle.record.specs.declared.HistoryRecord.{HistoryRecord}
use Rattle.record.specs.declared.HistoriesRecord.{HistoriesRecord}
use Rattle.record.specs.declared.DeviceRecord.{DeviceRecord}

unfoldable pub node_record : NodeId → NodeRecord
node_record Ground = record { tag = 0; index = 0 }
node_record (At i) = record { tag = 1; index = i }

unfoldable pub given_record : Option Float → GivenRecord
given_record None = record { tag = 0; value = +0 }
given_record (Some v) = record { tag = 1; value = v }

unfoldable pub method_record : Discretisation → MethodRecord
method_record Discretisation.None = record { tag = 0; h = +0; h_prev = +0 }
method_record (Discretisation.Euler h) = record { tag = 1; h = h; h_prev = +0 }
method_record (Discretisation.Trapezoid h) = record { tag = 2; h = h; h_prev = +0 }
method_record (Discretisation.Gear h before) = record { tag = 3; h = h; h_prev = before }

-- the stages from 1 on
abbrev pub stage_tag : Stage → ℕ
stage_tag Stage.Card = 1
stage_tag Stage.Geometry = 2
stage_tag Stage.Scaled = 3
stage_tag Stage.Bound = 4
stage_tag Stage.Evaluated = 5

unfoldable pub card_record : Card → CardRecord
card_record card =
    record {
      vto = card.vto;
      kp = card.kp;
      lambda = card.lambda;
      gamma = card.gamma;
      phi = card.phi;
      rd_card = given_record card.rd_card;
      rs_card = given_record card.rs_card;
      rsh = card.rsh;
      is_bulk = card.is_bulk;
      js = card.js;
      kf = card.kf;
      af = card.af;
      tnom = card.tnom.0;
      polarity = card.polarity;
      cgso = card.cgso;
      cgdo = card.cgdo;
      cgbo = card.cgbo;
      cox = card.cox;
      cj = card.cj;
      cjsw = card.cjsw;
      pb = card.pb;
      mj = card.mj;
      mjsw = card.mjsw;
      fc = card.fc;
    }

unfoldable pub terminals_record : Terminals → TerminalsRecord
terminals_record t =
    record {
      drain_ext = node_record t.drain_ext;
      source_ext = node_record t.source_ext;
      drain = node_record t.drain;
      gate = node_record t.gate;
      source = node_record t.source;
      bulk = node_record t.bulk;
    }

unfoldable pub history_record : ChargeHistory → HistoryRecord
history_record h =
    record {
      q_prev = h.q_prev;
      q_prev2 = given_record h.q_prev2;
      i_prev = h.i_prev;
    }

unfoldable pub histories_record : Histories → HistoriesRecord
histories_record h =
    record {
      gs_hist = history_record h.gs_hist;
      gd_hist = history_record h.gd_hist;
      gb_hist = history_record h.gb_hist;
      bs_hist = history_record h.bs_hist;
      bd_hist = history_record h.bd_hist;
    }

unfoldable pub device_record : Mosfet1 → DeviceRecord
device_record d =
    record {
      card = card_record d.card;
      geometry = d.geometry;
      scaled = d.scaled;
      terminals = terminals_record d.terminals;
      point = d.point;
      charges = d.charges;
      histories = histories_record d.histories;
      method = method_record d.disc;
      stage = stage_tag d.stage;
    }
