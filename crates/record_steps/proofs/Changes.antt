-- What a call gives to be stored, put into the record handed in, makes the record that the call answers.
-- Assumes nothing.
use Prim.Native.Nat.{ℕ}
use mathlib.Core.Path.{◌≡◌, refl, ap, ◌∙◌}
use mathlib.Core.Bool.{Bool, true, false, cond}
use Rattle.std.specs.Prelude.{Some, None}
use Rattle.temperature.specs.declared.Kelvin.{Kelvin}
use mathlib.Core.List.{List}
use lib.Dec.{eqb}
use lib.Ieee.{Float}
use Rattle.device.specs.Refusals.{Outcome, done, refused}
use Rattle.device.specs.declared.Charges.{Charges}
use Rattle.device.specs.declared.Mosfet1.{Mosfet1}
use Rattle.bias.specs.declared.Voltages.{Voltages}
use Rattle.junction.specs.Junction.{thermal_voltage_of}
use Rattle.mosfet1.specs.Steps.{evaluated_point_of, evaluated_charges_of, evaluated_from_of, evaluated_of}
use Rattle.mosfet1.specs.declared.steps.Conditions.{Conditions}
use Rattle.rows.specs.Rows.{voltages_of, eval_rows, eval_row_of}
use Rattle.device.proofs.Rows.{by_number}
use Rattle.model.proofs.ByRow.{eval_by_row}
use Rattle.model.specs.Calls.{eval_of, commit_of}
use Rattle.record.specs.declared.DeviceOutcome.{DeviceOutcome}
use Rattle.record.specs.declared.DeviceRecord.{DeviceRecord}
use Rattle.from_record.specs.Devices.{device_from}
use Rattle.from_record.specs.Tags.{good_tags}
use Rattle.record_steps.specs.declared.ConditionsRecord.{ConditionsRecord}
use Rattle.record_steps.specs.declared.EvaluationReply.{EvaluationReply}
use Rattle.record_steps.specs.declared.Reading.{Reading}
use Rattle.record_steps.specs.declared.EvaluationChanges.{EvaluationChanges}
use Rattle.record_steps.specs.declared.CommitChanges.{CommitChanges}
use Rattle.record_steps.specs.Steps.{EvaluationOutcome, good_conditions, conditions_from, refused_reply, refused_evaluation, read_of, reading_of, evaluated_record, evaluated_outcome, evaluation_outcome, eval_call, reply_of, changed_record, outcome_from, changes_at, charges_from, charges_after, committed_record, commit_outcome, commit_call, advanced_record, commit_given, commit_record_of, commit_outcome_from}

-- ---- the evaluation

-- what is read where no row refuses
abbrev read_at : Voltages → Kelvin → Reading
read_at v t = record { voltages = v; vt = thermal_voltage_of t }

-- what was read by the number of the row that refuses, 0 where none does
pub read_by_row : (d : Mosfet1) (x : List Float) (k : Conditions) → read_of d x k ≡ cond (eqb (eval_row_of d.stage d.terminals x k.temperature k.gmin k.method) 0) (done (record { voltages = voltages_of x d.terminals; vt = thermal_voltage_of k.temperature })) (refused (eval_row_of d.stage d.terminals x k.temperature k.gmin k.method))
unfolding read_of eval_row_of
read_by_row d x k = by_number (eval_rows d.stage d.terminals x k.temperature k.gmin k.method) refused _ tt

-- what is read makes the outcome o
Made : DeviceRecord → ConditionsRecord → Outcome Reading → EvaluationOutcome → Type 0
Made r k a o = outcome_from r k a ≡ o

-- with the flag the charges come on top; without it the device's charges are those of the record
by_flag : DeviceRecord → Voltages → ConditionsRecord → Bool → EvaluationOutcome
by_flag r v k t =
    let c = changes_at r (read_at v (record { 0 = k.temperature })) k in
    record { refusal = 0; answer = c.answer; device = changed_record r c (charges_after r.charges (cond t (Some (evaluated_charges_of (device_from r) v true c.answer)) None)) }

made_by_flag : (r : DeviceRecord) (v : Voltages) (k : ConditionsRecord) (t : Bool) → by_flag r v k t ≡ evaluated_outcome r (evaluated_of (device_from r) v t (conditions_from k))
unfolding by_flag charges_after changed_record changes_at evaluated_outcome evaluated_record evaluated_of evaluated_from_of evaluated_point_of evaluated_charges_of conditions_from device_from
made_by_flag r v k true = refl
made_by_flag r v k false = refl

made_done : (r : DeviceRecord) (v : Voltages) (k : ConditionsRecord) → Made r k (done (read_at v (record { 0 = k.temperature }))) (evaluated_outcome r (evaluated_of (device_from r) v (eqb k.transient 1) (conditions_from k)))
unfolding Made outcome_from charges_from by_flag
made_done r v k = made_by_flag r v k (eqb k.transient 1)

-- a refusal stores nothing
made_refused : (r : DeviceRecord) (k : ConditionsRecord) (n : ℕ) → Made r k (refused n) (refused_evaluation r n)
unfolding Made outcome_from
made_refused r k n = refl

made_by_row : (r : DeviceRecord) (k : ConditionsRecord) (v : Voltages) (n : ℕ) (b : Bool)
    → Made r k (cond b (done (read_at v (record { 0 = k.temperature }))) (refused n)) (evaluation_outcome r (cond b (done (evaluated_of (device_from r) v (eqb k.transient 1) (conditions_from k))) (refused n)))
unfolding evaluation_outcome
made_by_row r k v n true = made_done r v k
made_by_row r k v n false = made_refused r k n

made_read : (r : DeviceRecord) (x : List Float) (k : ConditionsRecord) → Made r k (read_of (device_from r) x (conditions_from k)) (evaluation_outcome r (eval_of (device_from r) x (eqb k.transient 1) (conditions_from k)))
unfolding conditions_from
made_read r x k =
    let d = device_from r in
    let c = conditions_from k in
    rw (read_by_row d x c, eval_by_row d x (eqb k.transient 1) c) (made_by_row r k (voltages_of x d.terminals) (eval_row_of d.stage d.terminals x c.temperature c.gmin c.method) _)

made_either : (r : DeviceRecord) (k : ConditionsRecord) (b : Bool) (c d : Outcome Reading) (o p : EvaluationOutcome) → Made r k c o → Made r k d p → Made r k (cond b c d) (cond b o p)
made_either r k true c d o p h g = h
made_either r k false c d o p h g = g

pub evaluation_made : (r : DeviceRecord) (x : List Float) (k : ConditionsRecord) → outcome_from r k (reading_of r x k) ≡ eval_call r x k
unfolding reading_of eval_call Made outcome_from
evaluation_made r x k =
    made_either r k (good_tags r) _ _ _ _
    (made_either r k (good_conditions k) _ _ _ _ (made_read r x k) (made_refused r k 100))
    (made_refused r k 100)

pub evaluation_outcome_lem : (r : DeviceRecord) (x : List Float) (k : ConditionsRecord) (a : Outcome Reading) → a ≡ reading_of r x k → outcome_from r k a ≡ eval_call r x k
evaluation_outcome_lem r x k a e = ap (outcome_from r k) e ∙ evaluation_made r x k

-- what holds of an evaluation's changes, and of its refusal, from the outcome that they make with the record handed in
pub reply_of_changes : (r : DeviceRecord) (k : ConditionsRecord) (at : Reading) (o : EvaluationOutcome) → outcome_from r k (done at) ≡ o → ◌≡◌ {A = EvaluationReply} (record { refusal = 0; answer = (changes_at r at k).answer }) (reply_of o)
unfolding outcome_from reply_of
reply_of_changes r k at o e = ap reply_of e

pub device_of_changes : (r : DeviceRecord) (k : ConditionsRecord) (at : Reading) (o : EvaluationOutcome) → outcome_from r k (done at) ≡ o → changed_record r (changes_at r at k) (charges_after r.charges (charges_from r at k (changes_at r at k))) ≡ o.device
unfolding outcome_from
device_of_changes r k at o e = ap (λ (p : EvaluationOutcome). p.device) e

pub reply_of_refusal : (r : DeviceRecord) (k : ConditionsRecord) (n : ℕ) (o : EvaluationOutcome) → outcome_from r k (refused n) ≡ o → refused_reply n ≡ reply_of o
unfolding outcome_from refused_evaluation refused_reply reply_of
reply_of_refusal r k n o e = ap reply_of e

pub device_of_refusal : (r : DeviceRecord) (k : ConditionsRecord) (n : ℕ) (o : EvaluationOutcome) → outcome_from r k (refused n) ≡ o → r ≡ o.device
unfolding outcome_from refused_evaluation
device_of_refusal r k n o e = ap (λ (p : EvaluationOutcome). p.device) e

-- ---- the commit

commit_either : (r : DeviceRecord) (b : Bool) (c d : Outcome CommitChanges) (o p : DeviceOutcome) → commit_outcome_from r c ≡ o → commit_outcome_from r d ≡ p → commit_outcome_from r (cond b c d) ≡ cond b o p
commit_either r true c d o p h k = h
commit_either r false c d o p h k = k

commit_given_lem : (r : DeviceRecord) (a : Outcome Mosfet1) → commit_outcome_from r (commit_given a) ≡ commit_outcome r a
unfolding commit_outcome_from commit_given advanced_record commit_outcome committed_record
commit_given_lem r (done e) = refl
commit_given_lem r (refused n) = refl

pub commit_made : (r : DeviceRecord) (x : List Float) → commit_outcome_from r (commit_record_of r x) ≡ commit_call r x
unfolding commit_record_of commit_call commit_outcome_from advanced_record
commit_made r x = commit_either r (good_tags r) _ _ _ _ (commit_given_lem r (commit_of (device_from r) x)) refl

pub commit_outcome_lem : (r : DeviceRecord) (x : List Float) (a : Outcome CommitChanges) → a ≡ commit_record_of r x → commit_outcome_from r a ≡ commit_call r x
commit_outcome_lem r x a e = ap (commit_outcome_from r) e ∙ commit_made r x

-- what holds of a commit's changes, and of its refusal, from the outcome that they make with the record handed in
pub number_of_commit : (r : DeviceRecord) (c : CommitChanges) (o : DeviceOutcome) → commit_outcome_from r (done c) ≡ o → 0 ≡ o.refusal
unfolding commit_outcome_from
number_of_commit r c o e = ap (λ (p : DeviceOutcome). p.refusal) e

pub device_of_commit : (r : DeviceRecord) (c : CommitChanges) (o : DeviceOutcome) → commit_outcome_from r (done c) ≡ o → advanced_record r c ≡ o.device
unfolding commit_outcome_from
device_of_commit r c o e = ap (λ (p : DeviceOutcome). p.device) e

pub number_of_refused_commit : (r : DeviceRecord) (n : ℕ) (o : DeviceOutcome) → commit_outcome_from r (refused n) ≡ o → n ≡ o.refusal
unfolding commit_outcome_from
number_of_refused_commit r n o e = ap (λ (p : DeviceOutcome). p.refusal) e

pub device_of_refused_commit : (r : DeviceRecord) (n : ℕ) (o : DeviceOutcome) → commit_outcome_from r (refused n) ≡ o → r ≡ o.device
unfolding commit_outcome_from
device_of_refused_commit r n o e = ap (λ (p : DeviceOutcome). p.device) e
