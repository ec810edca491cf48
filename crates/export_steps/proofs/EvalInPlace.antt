-- What `mivtolgya_eval_in_place` answers, and the record that it leaves, from what the three steps gave: the reading, what of the record changes,
-- and with the transient flag the charges.
-- Assumes nothing.
use Rattle.std.proofs.Common.{◌≡◌, ℕ, List, ap, sym, ◌∙◌}
use Rattle.std.specs.Prelude.{Option, Some, None}
use lib.Ieee.{Float}
use Rattle.device.specs.Refusals.{done, refused}
use Rattle.device.specs.declared.Charges.{Charges}
use Rattle.record.specs.declared.DeviceRecord.{DeviceRecord}
use Rattle.record_steps.specs.declared.ConditionsRecord.{ConditionsRecord}
use Rattle.record_steps.specs.declared.EvaluationReply.{EvaluationReply}
use Rattle.record_steps.specs.declared.Reading.{Reading}
use Rattle.record_steps.specs.declared.EvaluationChanges.{EvaluationChanges}
use Rattle.record_steps.specs.Steps.{reading_of, refused_reply, changes_at, charges_from, charges_after, changed_record, eval_call, reply_of}
use Rattle.record_steps.proofs.Changes.{evaluation_outcome_lem, reply_of_changes, device_of_changes, reply_of_refusal, device_of_refusal}

-- the changes are stored, with what became of the charges
changed : (r : DeviceRecord) (x : List Float) (k : ConditionsRecord) (at : Reading) (c : EvaluationChanges) (q : Option Charges)
    → done at ≡ reading_of r x k → c ≡ changes_at r at k → q ≡ charges_from r at k c
    → (◌≡◌ {A = EvaluationReply} (record { refusal = 0; answer = c.answer }) (reply_of (eval_call r x k))) × (changed_record r c (charges_after r.charges q) ≡ (eval_call r x k).device)
changed r x k at c q e f g =
    let o = evaluation_outcome_lem r x k (done at) e in
    rw (g, f) (reply_of_changes r k at (eval_call r x k) o, device_of_changes r k at (eval_call r x k) o)

-- the charges are stored too
pub charged : (r : DeviceRecord) (x : List Float) (k : ConditionsRecord) (at : Reading) (c : EvaluationChanges) (q : Charges)
    → done at ≡ reading_of r x k → c ≡ changes_at r at k → Some q ≡ charges_from r at k c
    → (◌≡◌ {A = EvaluationReply} (record { refusal = 0; answer = c.answer }) (reply_of (eval_call r x k))) × (changed_record r c q ≡ (eval_call r x k).device)
unfolding charges_after
charged r x k at c q e f g = changed r x k at c (Some q) e f g

-- the charges stay
pub uncharged : (r : DeviceRecord) (x : List Float) (k : ConditionsRecord) (at : Reading) (c : EvaluationChanges)
    → done at ≡ reading_of r x k → c ≡ changes_at r at k → None ≡ charges_from r at k c
    → (◌≡◌ {A = EvaluationReply} (record { refusal = 0; answer = c.answer }) (reply_of (eval_call r x k))) × (changed_record r c r.charges ≡ (eval_call r x k).device)
unfolding charges_after
uncharged r x k at c e f g = changed r x k at c None e f g

-- nothing is stored
pub evaluation_refused : (r : DeviceRecord) (x : List Float) (k : ConditionsRecord) (n : ℕ) (y : EvaluationReply)
    → refused n ≡ reading_of r x k → y ≡ refused_reply n
    → (y ≡ reply_of (eval_call r x k)) × (r ≡ (eval_call r x k).device)
evaluation_refused r x k n y e f =
    let o = evaluation_outcome_lem r x k (refused n) e in
    rw (f) (reply_of_refusal r k n (eval_call r x k) o, device_of_refusal r k n (eval_call r x k) o)
