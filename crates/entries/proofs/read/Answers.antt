use Prim.Native.Nat.{◌+◌}
use native.Mathlib.Omega.{arith}
use lib.Ieee.{nan}
use lib.ListN.{get_or}
use Rattle.keys.specs.declared.Meaning.{Meaning}
use Rattle.entries.specs.Entries.{settings_of}
use Rattle.entries.proofs.Entries.{paired, rest, entry_end, settings_step}
use Rattle.entries.proofs.read.Goals as goal
-- `entries::read` meets its contract.
-- Assumes nothing.
use mathlib.Core.Path.{◌∙◌, sym, ap}

pub bounds-keys-i : goal.bounds-keys-i
bounds-keys-i g c = omega (arith, (paired _ _ _ _ c.args.keys.paired).as_many_values)

pub meaning_at-requires : goal.meaning_at-requires
meaning_at-requires g c = (paired _ _ _ _ c.args.keys.paired).within _ c.loop-i-test.true

pub loop-i-preserved : goal.loop-i-preserved
loop-i-preserved g c =
    let k = c.args.keys.lent in
    let l = c.loop-i in
    let assigned = g.S.Settings.with_key in
    ap (λ (s : _). settings_of assigned c.args.table s (rest k.bytes.now k.offsets.now k.lengths.now k.values.now (l.i + 1))) (c.assign.ensures ∙ ap (λ (m : Meaning). assigned l.settings m (get_or k.values.now l.i nan)) c.meaning_at.ensures)
    ∙ settings_step assigned c.args.table _ _ _ _ (paired k.bytes.now k.offsets.now k.lengths.now k.values.now c.args.keys.paired) l.settings l.i c.loop-i-test.true
    ∙ l.invariant

pub returns : goal.returns
unfolding settings_of
returns g c = let l = c.loop-i in sym (ap (settings_of g.S.Settings.with_key c.args.table l.settings) (entry_end _ _ _ _ _ c.loop-i-test.false)) ∙ l.invariant
