-- The record of a device stands for that device, and a record with known tags for one whose record is that one, its unused fields at 0.
-- Assumes nothing.
use Rattle.std.specs.Prelude.{Option, Some, None}
use Prim.Native.Nat.{ℕ, zero, suc}
use mathlib.Core.Path.{◌≡◌, refl, sym, subst}
use mathlib.Core.Bool.{Bool, true, false, ◌&&◌}
use lib.Dec.{T, leb}
use lib.Ieee.{Float}
use native.Mathlib.Omega.{arith}
use borrow.Author.Tests.{leb-true}
use Rattle.device.specs.declared.NodeId.{NodeId}
use Rattle.device.specs.declared.Discretisation.{Discretisation}
use Rattle.device.specs.declared.Stage.{Stage}
use Rattle.device.specs.declared.Card.{Card}
use Rattle.device.specs.declared.Terminals.{Terminals}
use Rattle.device.specs.declared.ChargeHistory.{ChargeHistory}
use Rattle.device.specs.declared.Histories.{Histories}
use Rattle.device.specs.declared.Mosfet1.{Mosfet1}
use Rattle.device.specs.declared.NodeId.TheVariants.{Ground, At}
use Rattle.record.specs.declared.CardRecord.{CardRecord}
use Rattle.record.specs.declared.TerminalsRecord.{TerminalsRecord}
use Rattle.record.specs.declared.HistoryRecord.{HistoryRecord}
use Rattle.record.specs.declared.HistoriesRecord.{HistoriesRecord}
use Rattle.record.specs.declared.DeviceRecord.{DeviceRecord}
use Rattle.record.specs.Records.{stage_tag, node_record, given_record, method_record, card_record, terminals_record, history_record, histories_record, device_record}
use Rattle.from_record.specs.Devices.{node_from, given_from, method_from, stage_from, card_from, terminals_from, history_from, histories_from, device_from}
use Rattle.from_record.specs.Tags.{good_terminals, good_histories, good_stage, good_tags, plain_node, plain_given, plain_method, plain_card, plain_terminals, plain_history, plain_histories, plain_device}

-- ---- from a device to its record and back

node_back : (n : NodeId) → node_from (node_record n) ≡ n
unfolding node_from node_record
node_back Ground = refl
node_back (At i) = refl

given_back : (g : Option Float) → given_from (given_record g) ≡ g
unfolding given_from given_record
given_back None = refl
given_back (Some v) = refl

method_back : (m : Discretisation) → method_from (method_record m) ≡ m
unfolding method_from method_record
method_back Discretisation.None = refl
method_back (Discretisation.Euler h) = refl
method_back (Discretisation.Trapezoid h) = refl
method_back (Discretisation.Gear h k) = refl

stage_back : (s : Stage) → stage_from (stage_tag s) ≡ s
unfolding stage_from
stage_back Stage.Card = refl
stage_back Stage.Geometry = refl
stage_back Stage.Scaled = refl
stage_back Stage.Bound = refl
stage_back Stage.Evaluated = refl

card_back : (r : Card) → card_from (card_record r) ≡ r
unfolding card_from card_record
card_back r = λ i.
    record {
      vto = r.vto;
      kp = r.kp;
      lambda = r.lambda;
      gamma = r.gamma;
      phi = r.phi;
      rd_card = given_back r.rd_card i;
      rs_card = given_back r.rs_card i;
      rsh = r.rsh;
      is_bulk = r.is_bulk;
      js = r.js;
      kf = r.kf;
      af = r.af;
      tnom = record { 0 = r.tnom.0 };
      polarity = r.polarity;
      cgso = r.cgso;
      cgdo = r.cgdo;
      cgbo = r.cgbo;
      cox = r.cox;
      cj = r.cj;
      cjsw = r.cjsw;
      pb = r.pb;
      mj = r.mj;
      mjsw = r.mjsw;
      fc = r.fc;
    }

terminals_back : (r : Terminals) → terminals_from (terminals_record r) ≡ r
unfolding terminals_from terminals_record
terminals_back r = λ i.
    record {
      drain_ext = node_back r.drain_ext i;
      source_ext = node_back r.source_ext i;
      drain = node_back r.drain i;
      gate = node_back r.gate i;
      source = node_back r.source i;
      bulk = node_back r.bulk i;
    }

history_back : (r : ChargeHistory) → history_from (history_record r) ≡ r
unfolding history_from history_record
history_back r = λ i.
    record {
      q_prev = r.q_prev;
      q_prev2 = given_back r.q_prev2 i;
      i_prev = r.i_prev;
    }

histories_back : (r : Histories) → histories_from (histories_record r) ≡ r
unfolding histories_from histories_record
histories_back r = λ i.
    record {
      gs_hist = history_back r.gs_hist i;
      gd_hist = history_back r.gd_hist i;
      gb_hist = history_back r.gb_hist i;
      bs_hist = history_back r.bs_hist i;
      bd_hist = history_back r.bd_hist i;
    }

-- every device comes back from its record
pub device_back : (d : Mosfet1) → device_from (device_record d) ≡ d
unfolding device_from device_record
device_back d = λ i.
    record {
      card = card_back d.card i;
      geometry = d.geometry;
      scaled = d.scaled;
      terminals = terminals_back d.terminals i;
      point = d.point;
      charges = d.charges;
      histories = histories_back d.histories i;
      disc = method_back d.disc i;
      stage = stage_back d.stage i;
    }

-- ---- the tags of a device's record are known

node_tag : (n : NodeId) → leb (node_record n).tag 1 ≡ true
unfolding node_record
node_tag Ground = refl
node_tag (At i) = refl

given_tag : (g : Option Float) → leb (given_record g).tag 1 ≡ true
unfolding given_record
given_tag None = refl
given_tag (Some v) = refl

method_tag : (m : Discretisation) → leb (method_record m).tag 3 ≡ true
unfolding method_record
method_tag Discretisation.None = refl
method_tag (Discretisation.Euler h) = refl
method_tag (Discretisation.Trapezoid h) = refl
method_tag (Discretisation.Gear h k) = refl

stage_tag_lem : (s : Stage) → good_stage (stage_tag s) ≡ true
unfolding good_stage
stage_tag_lem Stage.Card = refl
stage_tag_lem Stage.Geometry = refl
stage_tag_lem Stage.Scaled = refl
stage_tag_lem Stage.Bound = refl
stage_tag_lem Stage.Evaluated = refl

terminals_tags : (t : Terminals) → good_terminals (terminals_record t) ≡ true
unfolding good_terminals terminals_record
terminals_tags t = rw (node_tag t.drain_ext, node_tag t.source_ext, node_tag t.drain, node_tag t.gate, node_tag t.source, node_tag t.bulk)

histories_tags : (h : Histories) → good_histories (histories_record h) ≡ true
unfolding good_histories histories_record history_record
histories_tags h = rw (given_tag h.gs_hist.q_prev2, given_tag h.gd_hist.q_prev2, given_tag h.gb_hist.q_prev2, given_tag h.bs_hist.q_prev2, given_tag h.bd_hist.q_prev2)

pub device_tags : (d : Mosfet1) → good_tags (device_record d) ≡ true
unfolding good_tags device_record card_record
device_tags d = rw (given_tag d.card.rd_card, given_tag d.card.rs_card, method_tag d.disc, terminals_tags d.terminals, histories_tags d.histories, stage_tag_lem d.stage)

-- ---- from a record to its device and back

first : (a b : Bool) → (a && b) ≡ true → a ≡ true
first true b h = refl
first false b h = h

second : (a b : Bool) → (a && b) ≡ true → b ≡ true
second true b h = h
second false b h = absurd (subst T (sym h) tt)

-- the five parts of a conjunction that holds
five : (a b c d e : Bool) → (a && b && c && d && e) ≡ true → (a ≡ true) × ((b ≡ true) × ((c ≡ true) × ((d ≡ true) × (e ≡ true))))
five a b c d e h =
    let h4 = first (a && b && c && d) e h in
    let h3 = first (a && b && c) d h4 in
    let h2 = first (a && b) c h3 in
    (first a b h2, (second a b h2, (second (a && b) c h3, (second (a && b && c) d h4, second (a && b && c && d) e h))))

node_plain : (t i : ℕ) → leb t 1 ≡ true → node_record (node_from (record { tag = t; index = i })) ≡ plain_node (record { tag = t; index = i })
unfolding node_from node_record plain_node
node_plain zero i h = refl
node_plain (suc zero) i h = refl
node_plain (suc (suc t)) i h = absurd (omega (arith, leb-true (suc (suc t)) 1 h))

given_plain : (t : ℕ) (v : Float) → leb t 1 ≡ true → given_record (given_from (record { tag = t; value = v })) ≡ plain_given (record { tag = t; value = v })
unfolding given_from given_record plain_given
given_plain zero v h = refl
given_plain (suc zero) v h = refl
given_plain (suc (suc t)) v h = absurd (omega (arith, leb-true (suc (suc t)) 1 h))

method_plain : (t : ℕ) (a b : Float) → leb t 3 ≡ true → method_record (method_from (record { tag = t; h = a; h_prev = b })) ≡ plain_method (record { tag = t; h = a; h_prev = b })
unfolding method_from method_record plain_method
method_plain zero a b e = refl
method_plain (suc zero) a b e = refl
method_plain (suc (suc zero)) a b e = refl
method_plain (suc (suc (suc zero))) a b e = refl
method_plain (suc (suc (suc (suc t)))) a b e = absurd (omega (arith, leb-true (suc (suc (suc (suc t)))) 3 e))

stage_plain : (t : ℕ) → good_stage t ≡ true → stage_tag (stage_from t) ≡ t
unfolding good_stage stage_from
stage_plain zero e = absurd (subst T (sym e) tt)
stage_plain (suc zero) e = refl
stage_plain (suc (suc zero)) e = refl
stage_plain (suc (suc (suc zero))) e = refl
stage_plain (suc (suc (suc (suc zero)))) e = refl
stage_plain (suc (suc (suc (suc (suc zero))))) e = refl
stage_plain (suc (suc (suc (suc (suc (suc t)))))) e =
    absurd (omega (arith, leb-true (suc (suc (suc (suc (suc (suc t)))))) 5 (second (leb 1 (suc (suc (suc (suc (suc (suc t))))))) (leb (suc (suc (suc (suc (suc (suc t)))))) 5) e)))

card_plain : (r : CardRecord) → leb r.rd_card.tag 1 ≡ true → leb r.rs_card.tag 1 ≡ true → card_record (card_from r) ≡ plain_card r
unfolding card_from card_record plain_card
card_plain r hd hs = λ i.
    record {
      vto = r.vto;
      kp = r.kp;
      lambda = r.lambda;
      gamma = r.gamma;
      phi = r.phi;
      rd_card = given_plain r.rd_card.tag r.rd_card.value hd i;
      rs_card = given_plain r.rs_card.tag r.rs_card.value hs i;
      rsh = r.rsh;
      is_bulk = r.is_bulk;
      js = r.js;
      kf = r.kf;
      af = r.af;
      tnom = r.tnom;
      polarity = r.polarity;
      cgso = r.cgso;
      cgdo = r.cgdo;
      cgbo = r.cgbo;
      cox = r.cox;
      cj = r.cj;
      cjsw = r.cjsw;
      pb = r.pb;
      mj = r.mj;
      mjsw = r.mjsw;
      fc = r.fc;
    }

terminals_plain : (r : TerminalsRecord) → good_terminals r ≡ true → terminals_record (terminals_from r) ≡ plain_terminals r
unfolding good_terminals terminals_from terminals_record plain_terminals
terminals_plain r h =
    let k = five (leb r.drain_ext.tag 1) (leb r.source_ext.tag 1) (leb r.drain.tag 1) (leb r.gate.tag 1) (leb r.source.tag 1) (first ((leb r.drain_ext.tag 1) && (leb r.source_ext.tag 1) && (leb r.drain.tag 1) && (leb r.gate.tag 1) && (leb r.source.tag 1)) (leb r.bulk.tag 1) h) in
    λ i.
    record {
      drain_ext = node_plain r.drain_ext.tag r.drain_ext.index k.0 i;
      source_ext = node_plain r.source_ext.tag r.source_ext.index k.1.0 i;
      drain = node_plain r.drain.tag r.drain.index k.1.1.0 i;
      gate = node_plain r.gate.tag r.gate.index k.1.1.1.0 i;
      source = node_plain r.source.tag r.source.index k.1.1.1.1 i;
      bulk = node_plain r.bulk.tag r.bulk.index (second ((leb r.drain_ext.tag 1) && (leb r.source_ext.tag 1) && (leb r.drain.tag 1) && (leb r.gate.tag 1) && (leb r.source.tag 1)) (leb r.bulk.tag 1) h) i;
    }

history_plain : (r : HistoryRecord) → leb r.q_prev2.tag 1 ≡ true → history_record (history_from r) ≡ plain_history r
unfolding history_from history_record plain_history
history_plain r h = λ i.
    record {
      q_prev = r.q_prev;
      q_prev2 = given_plain r.q_prev2.tag r.q_prev2.value h i;
      i_prev = r.i_prev;
    }

histories_plain : (r : HistoriesRecord) → good_histories r ≡ true → histories_record (histories_from r) ≡ plain_histories r
unfolding good_histories histories_from histories_record plain_histories
histories_plain r h =
    let k = five (leb r.gs_hist.q_prev2.tag 1) (leb r.gd_hist.q_prev2.tag 1) (leb r.gb_hist.q_prev2.tag 1) (leb r.bs_hist.q_prev2.tag 1) (leb r.bd_hist.q_prev2.tag 1) h in
    λ i.
    record {
      gs_hist = history_plain r.gs_hist k.0 i;
      gd_hist = history_plain r.gd_hist k.1.0 i;
      gb_hist = history_plain r.gb_hist k.1.1.0 i;
      bs_hist = history_plain r.bs_hist k.1.1.1.0 i;
      bd_hist = history_plain r.bd_hist k.1.1.1.1 i;
    }

-- every record with known tags comes back from its device, its unused fields at 0
pub record_back : (r : DeviceRecord) → good_tags r ≡ true → device_record (device_from r) ≡ plain_device r
unfolding good_tags device_from device_record plain_device
record_back r h =
    let k = five (leb r.card.rd_card.tag 1) (leb r.card.rs_card.tag 1) (leb r.method.tag 3) (good_terminals r.terminals) (good_histories r.histories) (first ((leb r.card.rd_card.tag 1) && (leb r.card.rs_card.tag 1) && (leb r.method.tag 3) && (good_terminals r.terminals) && (good_histories r.histories)) (good_stage r.stage) h) in
    λ i.
    record {
      card = card_plain r.card k.0 k.1.0 i;
      geometry = r.geometry;
      scaled = r.scaled;
      terminals = terminals_plain r.terminals k.1.1.1.0 i;
      point = r.point;
      charges = r.charges;
      histories = histories_plain r.histories k.1.1.1.1 i;
      method = method_plain r.method.tag r.method.h r.method.h_prev k.1.1.0 i;
      stage = stage_plain r.stage (second ((leb r.card.rd_card.tag 1) && (leb r.card.rs_card.tag 1) && (leb r.method.tag 3) && (good_terminals r.terminals) && (good_histories r.histories)) (good_stage r.stage) h) i;
    }
