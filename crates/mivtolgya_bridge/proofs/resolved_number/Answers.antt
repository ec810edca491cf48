use mathlib.Core.Bool.{Bool, true, false, not}
use Rattle.device_bank.specs.Bank.{bank_good}
use native.Mathlib.Omega.{arith}
use borrow.Author.Tests.{le-leb, eqb-false}
use Rattle.bridge_calls.specs.Steps.{resolved_bridge_number}
use Rattle.bridge_calls.proofs.Numbers.{unknown_tag, unknown_kind}
use Rattle.bridge_calls.proofs.Resolved.{resolved_14, resolved_row}
use Rattle.bank_resolved.proofs.Rows.{lowest_row, zero_good}
use Rattle.mivtolgya_bridge.proofs.resolved_number.Goals as goal
use Rattle.mivtolgya_bridge.proofs.resolved_number.Goals.{then-number-ne0, else-number-ne0, then-not-good_bank-via-then-not-good_bank, then-not-good_bank-via-else-not-good_bank+then-transient-gt1}
-- `mivtolgya_bridge::resolved_number`: tags and kind, then row 14, then the rows of the devices with their cells. Where the devices' own number
-- is 0, every tag is known.
use mathlib.Core.Path.{◌≡◌, refl, sym, ◌∙◌, subst}
use lib.Dec.{T}

yes : (b : Bool) → not b ≡ false → b ≡ true
yes true e = refl
yes false e = absurd (subst T e tt)

no : (b : Bool) → not b ≡ true → b ≡ false
no false e = refl
no true e = absurd (subst T (sym e) tt)

pub returns-then-not-good_bank : goal.returns-then-not-good_bank
unfolding resolved_bridge_number
returns-then-not-good_bank c =
    elim c.then-not-good_bank.branch [
      | then-not-good_bank-via-then-not-good_bank w ↦ elim c.if-number-ne0.branch [ then-number-ne0 v ↦ c.number.ensures ∙ unknown_tag c.args.bank.now c.args.transient _ v.good_bank.ensures _ (no _ (sym v.value-is ∙ w.if-not-good_bank.true)) | else-number-ne0 v ↦ absurd (eqb-false c.lowest_number-number.result 0 (no _ (sym v.value-is ∙ w.if-not-good_bank.true)) v.if-number-ne0.false) ]
      | then-not-good_bank-via-else-not-good_bank+then-transient-gt1 w ↦
          let tags : bank_good c.args.bank.now ≡ true = elim c.if-number-ne0.branch [ then-number-ne0 v ↦ sym v.good_bank.ensures ∙ yes _ (sym v.value-is ∙ w.if-not-good_bank.false) | else-number-ne0 v ↦ zero_good c.args.bank.now c.args.transient c.args.alpha c.args.cells.now c.args.rows c.args.values (sym c.lowest_number-number.ensures ∙ v.if-number-ne0.false) ] in
          c.number.ensures ∙ unknown_kind c.args.bank.now c.args.transient _ refl _ tags w.if-transient-gt1.true
    ]

pub returns-then-bridge_refused : goal.returns-then-bridge_refused
returns-then-bridge_refused c =
    let tags : bank_good c.args.bank.now ≡ true = elim c.if-number-ne0.branch [ then-number-ne0 w ↦ sym w.good_bank.ensures ∙ yes _ (sym w.value-is ∙ c.if-not-good_bank.false) | else-number-ne0 w ↦ zero_good c.args.bank.now c.args.transient c.args.alpha c.args.cells.now c.args.rows c.args.values (sym c.lowest_number-number.ensures ∙ w.if-number-ne0.false) ] in
    c.number-then-bridge_refused.ensures ∙ resolved_14 c.args.bank.now c.args.runs.starts.now c.args.runs.counts.now c.args.transient c.args.alpha c.args.cells.now c.args.rows c.args.values _ refl tags (omega arith) _ c.bridge_refused.ensures c.if-bridge_refused.true

pub returns : goal.returns
returns c =
    let tags : bank_good c.args.bank.now ≡ true = elim c.if-number-ne0.branch [ then-number-ne0 w ↦ sym w.good_bank.ensures ∙ yes _ (sym w.value-is ∙ c.if-not-good_bank.false) | else-number-ne0 w ↦ zero_good c.args.bank.now c.args.transient c.args.alpha c.args.cells.now c.args.rows c.args.values (sym c.lowest_number-number.ensures ∙ w.if-number-ne0.false) ] in
    c.lowest_number-number.ensures
    ∙ lowest_row c.args.bank.now c.args.transient c.args.alpha c.args.cells.now c.args.rows c.args.values tags (le-leb c.args.transient 1 (omega arith))
    ∙ resolved_row c.args.bank.now c.args.runs.starts.now c.args.runs.counts.now c.args.transient c.args.alpha c.args.cells.now c.args.rows c.args.values _ refl tags (omega arith) _ c.bridge_refused.ensures c.if-bridge_refused.false
