-- Which tags are known, and a record with its unused fields at 0.
use Rattle.std.specs.Prelude.{ℕ, Bool, cond, ◌&&◌, eqb, leb}
use Rattle.exact.specs.Float64.{+0}
use Rattle.record.specs.declared.NodeRecord.{NodeRecord}
use Rattle.record.specs.declared.GivenRecord.{GivenRecord}
use Rattle.record.specs.declared.MethodRecord.{MethodRecord}
use Rattle.record.specs.declared.CardRecord.{CardRecord}
use Rattle.record.specs.declared.TerminalsRecord.{TerminalsRecord}
use Rattle.record.specs.declared.HistoryRecord.{HistoryRecord}
use Rattle.record.specs.declared.HistoriesRecord.{HistoriesRecord}
use Rattle.record.specs.declared.DeviceRecord.{DeviceRecord}

unfoldable pub good_terminals : TerminalsRecord → Bool
good_terminals t =
    leb t.drain_ext.tag 1
    && leb t.source_ext.tag 1
    && leb t.drain.tag 1
    && leb t.gate.tag 1
    && leb t.source.tag 1
    && leb t.bulk.tag 1

unfoldable pub good_histories : HistoriesRecord → Bool
good_histories h =
    leb h.gs_hist.q_prev2.tag 1
    && leb h.gd_hist.q_prev2.tag 1
    && leb h.gb_hist.q_prev2.tag 1
    && leb h.bs_hist.q_prev2.tag 1
    && leb h.bd_hist.q_prev2.tag 1

unfoldable pub good_stage : ℕ → Bool
good_stage s = leb 1 s && leb s 5

-- every tag of the record is known
unfoldable pub good_tags : DeviceRecord → Bool
good_tags d =
    leb d.card.rd_card.tag 1
    && leb d.card.rs_card.tag 1
    && leb d.method.tag 3
    && good_terminals d.terminals
    && good_histories d.histories
    && good_stage d.stage

-- ---- unused fields at 0

unfoldable pub plain_node : NodeRecord → NodeRecord
plain_node r = record { tag = r.tag; index = cond (eqb r.tag 0) 0 r.index }

unfoldable pub plain_given : GivenRecord → GivenRecord
plain_given r = record { tag = r.tag; value = cond (eqb r.tag 0) +0 r.value }

-- h is unused where there is no method, the earlier h where it is not Gear
unfoldable pub plain_method : MethodRecord → MethodRecord
plain_method r = record { tag = r.tag; h = cond (eqb r.tag 0) +0 r.h; h_prev = cond (eqb r.tag 3) r.h_prev +0 }

unfoldable pub plain_card : CardRecord → CardRecord
plain_card r =
    record {
      vto = r.vto;
      kp = r.kp;
      lambda = r.lambda;
      gamma = r.gamma;
      phi = r.phi;
      rd_card = plain_given r.rd_card;
      rs_card = plain_given r.rs_card;
      rsh = r.rsh;
      is_bulk = r.is_bulk;
      js = r.js;
      kf = r.kf;
      af = r.af;
      tnom = r.tnom;
      polarity = r.polarity;
      cgso = r.cgso;
      cgdo = r.cgdo;
      cgbo = r.cgbo;
      cox = r.cox;
      cj = r.cj;
      cjsw = r.cjsw;
      pb = r.pb;
      mj = r.mj;
      mjsw = r.mjsw;
      fc = r.fc;
    }

unfoldable pub plain_terminals : TerminalsRecord → TerminalsRecord
plain_terminals r =
    record {
      drain_ext = plain_node r.drain_ext;
      source_ext = plain_node r.source_ext;
      drain = plain_node r.drain;
      gate = plain_node r.gate;
      source = plain_node r.source;
      bulk = plain_node r.bulk;
    }

unfoldable pub plain_history : HistoryRecord → HistoryRecord
plain_history r =
    record {
      q_prev = r.q_prev;
      q_prev2 = plain_given r.q_prev2;
      i_prev = r.i_prev;
    }

unfoldable pub plain_histories : HistoriesRecord → HistoriesRecord
plain_histories r =
    record {
      gs_hist = plain_history r.gs_hist;
      gd_hist = plain_history r.gd_hist;
      gb_hist = plain_history r.gb_hist;
      bs_hist = plain_history r.bs_hist;
      bd_hist = plain_history r.bd_hist;
    }

unfoldable pub plain_device : DeviceRecord → DeviceRecord
plain_device r =
    record {
      card = plain_card r.card;
      geometry = r.geometry;
      scaled = r.scaled;
      terminals = plain_terminals r.terminals;
      point = r.point;
      charges = r.charges;
      histories = plain_histories r.histories;
      method = plain_method r.method;
      stage = r.stage;
    }
