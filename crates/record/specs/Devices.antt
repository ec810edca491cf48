-- The device that a record with known tags stands for.
use Rattle.std.specs.Prelude.{ℕ, cond, eqb, Option, Some, None, Float}
use Rattle.device.specs.declared.NodeId.{NodeId}
use Rattle.device.specs.declared.Discretisation.{Discretisation}
use Rattle.device.specs.declared.Stage.{Stage}
use Rattle.device.specs.declared.Card.{Card}
use Rattle.device.specs.declared.Terminals.{Terminals}
use Rattle.device.specs.declared.ChargeHistory.{ChargeHistory}
use Rattle.device.specs.declared.Histories.{Histories}
use Rattle.device.specs.declared.Mosfet1.{Mosfet1}
use Rattle.device.specs.declared.NodeId.TheVariants.{Ground, At}
use Rattle.device.specs.declared.Discretisation.TheVariants as Discretisation
use Rattle.device.specs.declared.Stage.TheVariants as Stage
use Rattle.record.specs.declared.NodeRecord.{NodeRecord}
use Rattle.record.specs.declared.GivenRecord.{GivenRecord}
use Rattle.record.specs.declared.MethodRecord.{MethodRecord}
use Rattle.record.specs.declared.CardRecord.{CardRecord}
use Rattle.record.specs.declared.TerminalsRecord.{TerminalsRecord}
use Rattle.record.specs.declared.HistoryRecord.{HistoryRecord}
use Rattle.record.specs.declared.HistoriesRecord.{HistoriesRecord}
use Rattle.record.specs.declared.DeviceRecord.{DeviceRecord}

unfoldable pub node_from : NodeRecord → NodeId
node_from r = cond (eqb r.tag 0) Ground (At r.index)

unfoldable pub given_from : GivenRecord → Option Float
given_from r = cond (eqb r.tag 0) None (Some r.value)

unfoldable pub method_from : MethodRecord → Discretisation
method_from r =
    cond (eqb r.tag 0) Discretisation.None
    (cond (eqb r.tag 1) (Discretisation.Euler r.h)
    (cond (eqb r.tag 2) (Discretisation.Trapezoid r.h) (Discretisation.Gear r.h r.h_prev)))

unfoldable pub stage_from : ℕ → Stage
stage_from tag =
    cond (eqb tag 1) Stage.Card
    (cond (eqb tag 2) Stage.Geometry (cond (eqb tag 3) Stage.Scaled (cond (eqb tag 4) Stage.Bound Stage.Evaluated)))

unfoldable pub card_from : CardRecord → Card
card_from r =
    record {
      vto = r.vto;
      kp = r.kp;
      lambda = r.lambda;
      gamma = r.gamma;
      phi = r.phi;
      rd_card = given_from r.rd_card;
      rs_card = given_from r.rs_card;
      rsh = r.rsh;
      is_bulk = r.is_bulk;
      js = r.js;
      kf = r.kf;
      af = r.af;
      tnom = record { 0 = r.tnom };
      polarity = r.polarity;
      cgso = r.cgso;
      cgdo = r.cgdo;
      cgbo = r.cgbo;
      cox = r.cox;
      cj = r.cj;
      cjsw = r.cjsw;
      pb = r.pb;
      mj = r.mj;
      mjsw = r.mjsw;
      fc = r.fc;
    }

unfoldable pub terminals_from : TerminalsRecord → Terminals
terminals_from r =
    record {
      drain_ext = node_from r.drain_ext;
      source_ext = node_from r.source_ext;
      drain = node_from r.drain;
      gate = node_from r.gate;
      source = node_from r.source;
      bulk = node_from r.bulk;
    }

unfoldable pub history_from : HistoryRecord → ChargeHistory
history_from r =
    record {
      q_prev = r.q_prev;
      q_prev2 = given_from r.q_prev2;
      i_prev = r.i_prev;
    }

unfoldable pub histories_from : HistoriesRecord → Histories
histories_from r =
    record {
      gs_hist = history_from r.gs_hist;
      gd_hist = history_from r.gd_hist;
      gb_hist = history_from r.gb_hist;
      bs_hist = history_from r.bs_hist;
      bd_hist = history_from r.bd_hist;
    }

unfoldable pub device_from : DeviceRecord → Mosfet1
device_from r =
    record {
      card = card_from r.card;
      geometry = r.geometry;
      scaled = r.scaled;
      terminals = terminals_from r.terminals;
      point = r.point;
      charges = r.charges;
      histories = histories_from r.histories;
      disc = method_from r.method;
      stage = stage_from r.stage;
    }
