-- The words of a record are that record again, where its whole numbers are below 2 ^ 52: none of them is then a NaN's bits.
-- Assumes nothing.
use mathlib.Core.Path.{◌≡◌}
use Rattle.record.specs.declared.DeviceRecord.{DeviceRecord}
use Rattle.record_words.specs.Words.{given_at, node_at, history_at, card_of, geometry_of, scaled_of, terminals_of, point_of, charges_of, histories_of, method_of, record_of, given_words, node_words, history_words, card_words, geometry_words, scaled_words, terminals_words, point_words, charges_words, histories_words, method_words, words_of, WholeNumbersSmall}
use Rattle.record_words.proofs.WholeNumbers.{whole_back}

pub record_of_words : (r : DeviceRecord) → WholeNumbersSmall r → record_of (words_of r) ≡ r
unfolding record_of card_of geometry_of scaled_of terminals_of point_of charges_of histories_of method_of given_at node_at history_at words_of card_words geometry_words scaled_words terminals_words point_words charges_words histories_words method_words given_words node_words history_words
record_of_words r h =
    λ i.
    record {
      card = record { vto = r.card.vto; kp = r.card.kp; lambda = r.card.lambda; gamma = r.card.gamma; phi = r.card.phi; rd_card = record { tag = whole_back r.card.rd_card.tag h.rd_tag i; value = r.card.rd_card.value }; rs_card = record { tag = whole_back r.card.rs_card.tag h.rs_tag i; value = r.card.rs_card.value }; rsh = r.card.rsh; is_bulk = r.card.is_bulk; js = r.card.js; kf = r.card.kf; af = r.card.af; tnom = r.card.tnom; polarity = r.card.polarity; cgso = r.card.cgso; cgdo = r.card.cgdo; cgbo = r.card.cgbo; cox = r.card.cox; cj = r.card.cj; cjsw = r.card.cjsw; pb = r.card.pb; mj = r.card.mj; mjsw = r.card.mjsw; fc = r.card.fc };
      geometry = r.geometry;
      scaled = r.scaled;
      terminals = record { drain_ext = record { tag = whole_back r.terminals.drain_ext.tag h.drain_ext_tag i; index = whole_back r.terminals.drain_ext.index h.drain_ext_index i }; source_ext = record { tag = whole_back r.terminals.source_ext.tag h.source_ext_tag i; index = whole_back r.terminals.source_ext.index h.source_ext_index i }; drain = record { tag = whole_back r.terminals.drain.tag h.drain_tag i; index = whole_back r.terminals.drain.index h.drain_index i }; gate = record { tag = whole_back r.terminals.gate.tag h.gate_tag i; index = whole_back r.terminals.gate.index h.gate_index i }; source = record { tag = whole_back r.terminals.source.tag h.source_tag i; index = whole_back r.terminals.source.index h.source_index i }; bulk = record { tag = whole_back r.terminals.bulk.tag h.bulk_tag i; index = whole_back r.terminals.bulk.index h.bulk_index i } };
      point = r.point;
      charges = r.charges;
      histories = record { gs_hist = record { q_prev = r.histories.gs_hist.q_prev; q_prev2 = record { tag = whole_back r.histories.gs_hist.q_prev2.tag h.gs_tag i; value = r.histories.gs_hist.q_prev2.value }; i_prev = r.histories.gs_hist.i_prev }; gd_hist = record { q_prev = r.histories.gd_hist.q_prev; q_prev2 = record { tag = whole_back r.histories.gd_hist.q_prev2.tag h.gd_tag i; value = r.histories.gd_hist.q_prev2.value }; i_prev = r.histories.gd_hist.i_prev }; gb_hist = record { q_prev = r.histories.gb_hist.q_prev; q_prev2 = record { tag = whole_back r.histories.gb_hist.q_prev2.tag h.gb_tag i; value = r.histories.gb_hist.q_prev2.value }; i_prev = r.histories.gb_hist.i_prev }; bs_hist = record { q_prev = r.histories.bs_hist.q_prev; q_prev2 = record { tag = whole_back r.histories.bs_hist.q_prev2.tag h.bs_tag i; value = r.histories.bs_hist.q_prev2.value }; i_prev = r.histories.bs_hist.i_prev }; bd_hist = record { q_prev = r.histories.bd_hist.q_prev; q_prev2 = record { tag = whole_back r.histories.bd_hist.q_prev2.tag h.bd_tag i; value = r.histories.bd_hist.q_prev2.value }; i_prev = r.histories.bd_hist.i_prev } };
      method = record { tag = whole_back r.method.tag h.method_tag i; h = r.method.h; h_prev = r.method.h_prev };
      stage = whole_back r.stage h.stage i;
    }
