use mathlib.Core.Bool.{cond}
use mathlib.Core.List.{List}
use Prim.Native.Nat.{ℕ, ◌+◌}
use native.Mathlib.Omega.{arith}
use lib.ListN.{set}
use lib.Seq.{sets}
use Rattle.device.proofs.Branches.{cond_yes, cond_no}
use Rattle.keys.specs.Ranges.{is_unknown}
use Rattle.entries.specs.Entries.{Entry, unknown_from}
use Rattle.entries.proofs.Entries.{paired, rest, entry_end, room_for_place, room_after, place_step}
use Rattle.entries.proofs.list_unknown.Goals as goal
use Rattle.entries.proofs.list_unknown.Goals.{then-is_unknown, else-is_unknown}
-- `entries::list_unknown` meets its contract.
-- Assumes nothing.
use mathlib.Core.Path.{◌≡◌, ◌∙◌, sym, ap, ap₂}

-- the test of the key at i

pub meaning_at-requires : goal.meaning_at-requires
meaning_at-requires c = (paired _ _ _ _ c.args.keys.paired).within _ c.loop-i-test.true

pub bounds-list-k : goal.bounds-list-k
bounds-list-k c = room_for_place _ _ _ _ _ (paired _ _ _ _ c.args.keys.paired) _ c.loop-i-test.true _ _ _ (c.is_unknown.ensures ∙ ap is_unknown c.meaning_at.ensures) c.loop-i.invariant.0 c.if-is_unknown.true

pub loop-i-preserved : goal.loop-i-preserved
loop-i-preserved c =
    let l = c.loop-i in
    let n = c.if-is_unknown in
    let k = c.args.keys.lent in
    let p = paired k.bytes.now k.offsets.now k.lengths.now k.values.now c.args.keys.paired in
    let unknown = c.is_unknown.ensures ∙ ap is_unknown c.meaning_at.ensures in
    let next : n.k ≡ cond c.is_unknown.result (l.k + 1) l.k = elim n.branch [
      | then-is_unknown w ↦ w.k-is ∙ cond_yes _ _ w.if-is_unknown.true
      | else-is_unknown w ↦ w.k-is ∙ cond_no _ _ w.if-is_unknown.false
    ] in
    let put : n.list ≡ cond c.is_unknown.result (set l.list l.k l.i) l.list = elim n.branch [
      | then-is_unknown w ↦ w.list-is ∙ cond_yes _ _ w.if-is_unknown.true
      | else-is_unknown w ↦ w.list-is ∙ cond_no _ _ w.if-is_unknown.false
    ] in (
      omega (arith, next, room_after _ _ _ _ _ p _ c.loop-i-test.true _ _ _ unknown l.invariant.0),
      ap₂ (λ (m : List ℕ) (j : ℕ). sets m j (unknown_from c.args.table (l.i + 1) (rest k.bytes.now k.offsets.now k.lengths.now k.values.now (l.i + 1)))) put next ∙ place_step _ _ _ _ _ p _ c.loop-i-test.true _ _ _ unknown ∙ l.invariant.1,
    )

pub returns : goal.returns
unfolding unknown_from
returns c = let a = c.args in let l = c.loop-i in sym (ap (λ (es : List Entry). sets l.list l.k (unknown_from a.table l.i es)) (entry_end _ _ _ _ _ c.loop-i-test.false)) ∙ l.invariant.1
