-- Where the OR of the six nodes' indices is inside, so is each of them, and no node is beyond, whichever are ground.
-- Assumes nothing.
use Prim.Native.Nat.{ℕ, ◌≤◌, ◌<◌}
use mathlib.Core.Path.{◌≡◌, refl}
use mathlib.Core.Bool.{Bool, true, false, cond, ◌||◌}
use lib.Bits.{bit_or}
use lib.Dec.{eqb}
use native.Mathlib.Omega.{arith}
use borrow.Author.Tests.{lt-leb}
use Rattle.device.specs.Nodes.{node_beyond, any_node_beyond}
use Rattle.device.specs.declared.NodeId.TheVariants.{Ground, At}
use Rattle.record.specs.declared.NodeRecord.{NodeRecord}
use Rattle.record.specs.declared.TerminalsRecord.{TerminalsRecord}
use Rattle.from_record.specs.Devices.{node_from, terminals_from}
use Rattle.from_record.specs.Inside.{indices_or}
use Rattle.from_record.proofs.TagsAtOnce.{or_above_l, or_above_r}

-- ground or not, the node is not beyond
by_tag : (is_ground : Bool) (i n : ℕ) → i < n → node_beyond n (cond is_ground Ground (At i)) ≡ false
by_tag true i n h = refl
by_tag false i n h = lt-leb n i h

node_inside : (r : NodeRecord) (n : ℕ) → r.index < n → node_beyond n (node_from r) ≡ false
unfolding node_from
node_inside r n h = by_tag (eqb r.tag 0) r.index n h

none : (a b c d e f : Bool) → a ≡ false → b ≡ false → c ≡ false → d ≡ false → e ≡ false → f ≡ false → (a || b || c || d || e || f) ≡ false
none a b c d e f p q r s t u = rw (p, q, r, s, t, u)

-- a number at most x is at most x OR y
through : (a x y : ℕ) → a ≤ x → a ≤ bit_or x y
through a x y h = omega (arith, h, or_above_l x y)

-- the index of each of the six nodes is below n
pub record Inside (t : TerminalsRecord) (n : ℕ) : Type 0 where
  pub drain_ext : t.drain_ext.index < n
  pub source_ext : t.source_ext.index < n
  pub drain : t.drain.index < n
  pub gate : t.gate.index < n
  pub source : t.source.index < n
  pub bulk : t.bulk.index < n

below : (a b n : ℕ) → a ≤ b → b < n → a < n
below a b n h k = omega (arith, h, k)

pub all_inside : (t : TerminalsRecord) (n : ℕ) → indices_or t < n → Inside t n
unfolding indices_or
all_inside t n h =
    let a = t.drain_ext.index in
    let b = t.source_ext.index in
    let c = t.drain.index in
    let d = t.gate.index in
    let e = t.source.index in
    let p = bit_or a b in
    let q = bit_or p c in
    let s = bit_or q d in
    let u = bit_or s e in
    let f = t.bulk.index in
    record {
      drain_ext = below a _ n (through a u f (through a s e (through a q d (through a p c (or_above_l a b))))) h;
      source_ext = below b _ n (through b u f (through b s e (through b q d (through b p c (or_above_r a b))))) h;
      drain = below c _ n (through c u f (through c s e (through c q d (or_above_r p c)))) h;
      gate = below d _ n (through d u f (through d s e (or_above_r q d))) h;
      source = below e _ n (through e u f (or_above_r s e)) h;
      bulk = below f _ n (or_above_r u f) h;
    }

pub none_beyond : (t : TerminalsRecord) (n : ℕ) → indices_or t < n → any_node_beyond n (terminals_from t) ≡ false
unfolding any_node_beyond terminals_from
none_beyond t n h =
    let i = all_inside t n h in
    none _ _ _ _ _ _
    (node_inside t.drain_ext n i.drain_ext) (node_inside t.source_ext n i.source_ext) (node_inside t.drain n i.drain)
    (node_inside t.gate n i.gate) (node_inside t.source n i.source) (node_inside t.bulk n i.bulk)
