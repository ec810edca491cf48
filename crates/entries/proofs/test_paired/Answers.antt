use Prim.Native.Nat.{ℕ, ◌<◌, ◌≤◌}
use borrow.Author.Tests.{lt-ltb, le-ltb}
use Rattle.device.specs.Refusals.{done}
use Rattle.device.proofs.Branches.{cond_yes, cond_no, tested}
use Rattle.entries.specs.Entries.{keys_of}
use Rattle.entries.specs.declared.Scan.{Scan}
use Rattle.entries.proofs.test_paired.Goals as goal
-- `entries::test_paired` meets its contract: each answer follows from the tests on the way.
-- Assumes nothing.
use mathlib.Core.Path.{◌∙◌, ap, subst}

pub returns-then-scan : goal.returns-then-scan
unfolding keys_of
returns-then-scan c = cond_yes _ _ (tested (ap (λ (x : Scan). x.beyond_ascii) c.scan_keys-scan.ensures) c.if-scan.true) ∙ cond_no _ _ c.args.keys.paired

pub returns-then-space-scan : goal.returns-then-space-scan
unfolding keys_of
returns-then-space-scan c = cond_yes _ _ (lt-ltb _ _ (subst (λ (n : ℕ). c.args.space < n) (ap (λ (x : Scan). x.unknown) c.scan_keys-scan.ensures) c.if-space-scan.true)) ∙ cond_no _ _ (tested (ap (λ (x : Scan). x.beyond_ascii) c.scan_keys-scan.ensures) c.if-scan.false) ∙ cond_no _ _ c.args.keys.paired

pub returns-then-scan-2 : goal.returns-then-scan-2
unfolding keys_of
returns-then-scan-2 c = cond_yes _ _ (tested (ap (λ (x : Scan). x.outside) c.scan_keys-scan.ensures) c.if-scan-2.true) ∙ cond_no _ _ (le-ltb _ _ (subst (λ (n : ℕ). n ≤ c.args.space) (ap (λ (x : Scan). x.unknown) c.scan_keys-scan.ensures) c.if-space-scan.false)) ∙ cond_no _ _ (tested (ap (λ (x : Scan). x.beyond_ascii) c.scan_keys-scan.ensures) c.if-scan.false) ∙ cond_no _ _ c.args.keys.paired

pub returns : goal.returns
unfolding keys_of
returns c = (λ i. done (record { unknown = ((ap (λ (x : Scan). x.unknown) c.scan_keys-scan.ensures) i); outside = (c.scan_keys-scan.ensures i).tnom_outside })) ∙ cond_no _ _ (tested (ap (λ (x : Scan). x.outside) c.scan_keys-scan.ensures) c.if-scan-2.false) ∙ cond_no _ _ (le-ltb _ _ (subst (λ (n : ℕ). n ≤ c.args.space) (ap (λ (x : Scan). x.unknown) c.scan_keys-scan.ensures) c.if-space-scan.false)) ∙ cond_no _ _ (tested (ap (λ (x : Scan). x.beyond_ascii) c.scan_keys-scan.ensures) c.if-scan.false) ∙ cond_no _ _ c.args.keys.paired
