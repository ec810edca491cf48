-- A node's number from its tag and its index: all ones where the tag is 0, the index where it is 1.
use Rattle.std.proofs.Common.{◌≡◌, ℕ, zero, suc, ◌+◌, ◌%◌, ◌^◌, ◌<◌, Bool, true, false, cond, ◌&&◌, eqb, leb, List, refl, ap, ◌∙◌, arith, leb-true}
use mathlib.Core.Bool.{false≢true}
use lib.Bits.{bit_or, or_zero_l, or_lt}
use lib.Ieee.{Float}
use Rattle.device.specs.declared.NodeId.TheVariants.{Ground, At}
use Rattle.places.specs.Places.{index_of}
use Rattle.record.specs.declared.TerminalsRecord.{TerminalsRecord}
use Rattle.record.specs.declared.DeviceRecord.{DeviceRecord}
use Rattle.from_record.specs.Tags.{good_terminals, good_histories, good_stage, good_tags}
use Rattle.from_record.proofs.TagsAtOnce.{or_above_l}
use Rattle.record_loading.specs.Load.{good_load}
use Rattle.record_resolved.specs.Steps.{resolved_number}

all_ones : (m i : ℕ) → m ≡ 18446744073709551615 → i < 2 ^ 64 → bit_or m i ≡ 18446744073709551615
all_ones m i e h = omega (arith, or_above_l m i, or_lt 64 m i (omega (arith, e)) h)

pub by_tag : (tag m i : ℕ) → leb tag 1 ≡ true → (m + 1) % 2 ^ 64 ≡ tag → m < 2 ^ 64 → i < 2 ^ 64 → bit_or m i ≡ index_of (cond (eqb tag 0) Ground (At i))
unfolding index_of
by_tag zero m i g e f h = all_ones m i (omega (arith, e, f)) h
by_tag (suc zero) m i g e f h = ap (λ (k : ℕ). bit_or k i) z ∙ or_zero_l i
  where
    z : m ≡ 0
    z = omega (arith, e, f)
by_tag (suc (suc tag)) m i g e f h = absurd (omega (arith, leb-true (suc (suc tag)) 1 g))

first : (a b : Bool) → (a && b) ≡ true → a ≡ true
first true b e = refl
first false b e = absurd (false≢true e)

second : (a b : Bool) → (a && b) ≡ true → b ≡ true
second true b e = e
second false b e = absurd (false≢true e)

-- the tags of the six nodes, each known
pub record Known (t : TerminalsRecord) : Type 0 where
  pub drain_ext : leb t.drain_ext.tag 1 ≡ true
  pub source_ext : leb t.source_ext.tag 1 ≡ true
  pub drain : leb t.drain.tag 1 ≡ true
  pub gate : leb t.gate.tag 1 ≡ true
  pub source : leb t.source.tag 1 ≡ true
  pub bulk : leb t.bulk.tag 1 ≡ true

pub known : (t : TerminalsRecord) → good_terminals t ≡ true → Known t
unfolding good_terminals
known t g =
    let a = leb t.drain_ext.tag 1 in
    let b = leb t.source_ext.tag 1 in
    let c = leb t.drain.tag 1 in
    let d = leb t.gate.tag 1 in
    let e = leb t.source.tag 1 in
    let f = leb t.bulk.tag 1 in
    let g5 = first (a && b && c && d && e) f g in
    let g4 = first (a && b && c && d) e g5 in
    let g3 = first (a && b && c) d g4 in
    let g2 = first (a && b) c g3 in
    record {
      drain_ext = first a b g2;
      source_ext = second a b g2;
      drain = second (a && b) c g3;
      gate = second (a && b && c) d g4;
      source = second (a && b && c && d) e g5;
      bulk = second (a && b && c && d && e) f g;
    }

pub of_tags : (r : DeviceRecord) → good_tags r ≡ true → good_terminals r.terminals ≡ true
unfolding good_tags
of_tags r g =
    let m = leb r.card.rd_card.tag 1 && leb r.card.rs_card.tag 1 && leb r.method.tag 3 in
    let t = good_terminals r.terminals in
    let h = good_histories r.histories in
    second m t (first (m && t) h (first (m && t && h) (good_stage r.stage) g))

tags_of_load : (r : DeviceRecord) (t : ℕ) → good_load r t ≡ true → good_tags r ≡ true
unfolding good_load
tags_of_load r t g = first (good_tags r) (leb t 1) g

zero_good : (good : Bool) (n : ℕ) → cond good n 100 ≡ 0 → good ≡ true
zero_good true n e = refl
zero_good false n e = absurd (omega (arith, e))

-- where a load's number is 0, every tag is known
pub tags_of_zero : (r : DeviceRecord) (t : ℕ) (alpha : Float) (w : List ℕ) (rows n : ℕ) → resolved_number r t alpha w rows n ≡ 0 → good_tags r ≡ true
unfolding resolved_number
tags_of_zero r t alpha w rows n e = tags_of_load r t (zero_good (good_load r t) _ e)

-- those of the nodes among them
pub of_zero : (r : DeviceRecord) (t : ℕ) (alpha : Float) (w : List ℕ) (rows n : ℕ) → resolved_number r t alpha w rows n ≡ 0 → good_terminals r.terminals ≡ true
of_zero r t alpha w rows n e = of_tags r (tags_of_zero r t alpha w rows n e)
