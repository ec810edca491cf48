use Prim.Native.Nat.{suc, ◌-◌, ◌<◌}
use native.Mathlib.Nat.{le_refl}
use native.Mathlib.Omega.{arith}
use lib.ListN.{length}
use Rattle.keys.specs.Names.{meaning_of}
use Rattle.entries.specs.Entries.{beyond_ascii, any_beyond_ascii, unknown_from, unknown_count, any_outside, any_tnom_outside, scan_of}
use Rattle.entries.specs.declared.Scan.{Scan}
use Rattle.entries.proofs.Entries.{paired, entry_end, count_rest, scan_step}
use Rattle.entries.proofs.scan_keys.Goals as goal
-- `entries::scan_keys` meets its contract.
-- Assumes nothing.
use mathlib.Core.Path.{◌≡◌, ◌∙◌, sym, ap}

pub loop-i-init : goal.loop-i-init
unfolding any_beyond_ascii unknown_from unknown_count any_outside any_tnom_outside
loop-i-init c = let k = c.args.keys.lent in sym (ap (scan_of c.args.table) (entry_end k.bytes.now k.offsets.now k.lengths.now k.values.now (length k.offsets.now) (le_refl _)))

pub key_at-key-requires : goal.key_at-key-requires
key_at-key-requires c = (paired _ _ _ _ c.args.keys.paired).within _ (omega arith)

pub bounds-keys-i : goal.bounds-keys-i
bounds-keys-i c = omega (arith, (paired _ _ _ _ c.args.keys.paired).as_many_values)

pub with-scan-requires : goal.with-scan-requires
with-scan-requires c = let k = c.args.keys.lent in omega (arith, ap (λ (x : Scan). x.unknown) c.loop-i.invariant, count_rest c.args.table k.bytes.now k.offsets.now k.lengths.now k.values.now c.loop-i.i)

pub loop-i-preserved : goal.loop-i-preserved
loop-i-preserved c =
    let h : c.loop-i.i - 1 < length c.args.keys.lent.offsets.now = omega arith in
    let e : c.loop-i.i ≡ suc (c.loop-i.i - 1) = omega arith in
    c.with-scan.ensures ∙ scan_step _ _ _ _ _ (paired _ _ _ _ c.args.keys.paired) _ _ h e _ _ _ c.loop-i.invariant (c.beyond_ascii.ensures ∙ ap beyond_ascii c.key_at-key.ensures) (c.meaning_of-m.ensures ∙ ap (meaning_of c.args.table) c.key_at-key.ensures)
