-- Evaluation and commit of a device that is a record: a record with an unknown tag is refused under 100, any other as its device is.
-- What a call does not change stays in the record as it was handed in, unused fields too.
use Rattle.std.specs.Prelude.{ℕ, Bool, true, cond, ◌&&◌, List, eqb, leb, Float, Option, Some, None}
use Rattle.exact.specs.Float64.{+0}
use Rattle.bias.specs.declared.Answer.{Answer}
use Rattle.bias.specs.declared.Voltages.{Voltages}
use Rattle.junction.specs.Junction.{thermal_voltage_of}
use Rattle.mosfet1.specs.Steps.{evaluated_answer_of, point_at, evaluated_charges_of}
use Rattle.mosfet1.specs.declared.steps.Conditions.{Conditions}
use Rattle.mosfet1.specs.declared.steps.Evaluated.{Evaluated}
use Rattle.rows.specs.Rows.{voltages_of, eval_rows}
use Rattle.step_rows.specs.StepRows.{last_row_of}
use Rattle.model.specs.Calls.{eval_of, commit_of}
use Rattle.device.specs.Refusals.{unless, Outcome, done, refused}
use Rattle.device.specs.declared.Charges.{Charges}
use Rattle.device.specs.declared.Discretisation.{Discretisation}
use Rattle.device.specs.declared.Mosfet1.{Mosfet1}
use Rattle.record.specs.Records.{histories_record, method_record, stage_tag}
use Rattle.record.specs.declared.DeviceOutcome.{DeviceOutcome}
use Rattle.record.specs.declared.DeviceRecord.{DeviceRecord}
use Rattle.from_record.specs.Devices.{device_from, method_from}
use Rattle.from_record.specs.Tags.{good_tags}
use Rattle.record_steps.specs.declared.ConditionsRecord.{ConditionsRecord}
use Rattle.record_steps.specs.declared.EvaluationReply.{EvaluationReply}
use Rattle.record_steps.specs.declared.Reading.{Reading}
use Rattle.record_steps.specs.declared.EvaluationChanges.{EvaluationChanges}
use Rattle.record_steps.specs.declared.CommitChanges.{CommitChanges}

unfoldable pub good_conditions : ConditionsRecord → Bool
good_conditions k = leb k.limiter 1 && leb k.transient 1 && leb k.method.tag 3

unfoldable pub conditions_from : ConditionsRecord → Conditions
conditions_from k =
    record {
      temperature = record { 0 = k.temperature };
      gmin = k.gmin;
      limiter = eqb k.limiter 1;
      method = method_from k.method;
    }

-- what an evaluation is in all: the number of the refusal, what is answered, and the record afterwards
pub record EvaluationOutcome : Type 0 where
  pub refusal : ℕ
  pub answer : Answer
  pub device : DeviceRecord

-- a refusal carries its number; the answer is zeros, the device the one handed in
unfoldable pub refused_reply : ℕ → EvaluationReply
refused_reply n = record { refusal = n; answer = record { vgs = +0; vds = +0; vth = +0; ids = +0; gm = +0; gds = +0; gmbs = +0 } }

unfoldable pub refused_evaluation : DeviceRecord → ℕ → EvaluationOutcome
refused_evaluation r n = record { refusal = n; answer = (refused_reply n).answer; device = r }

-- the record after an evaluation that leaves the device d
unfoldable pub evaluated_record : DeviceRecord → Mosfet1 → DeviceRecord
evaluated_record r d =
    record {
      card = r.card;
      geometry = r.geometry;
      scaled = r.scaled;
      terminals = r.terminals;
      point = d.point;
      charges = d.charges;
      histories = r.histories;
      method = method_record d.disc;
      stage = stage_tag d.stage;
    }

unfoldable pub evaluated_outcome : DeviceRecord → Evaluated → EvaluationOutcome
evaluated_outcome r e = record { refusal = 0; answer = e.answer; device = evaluated_record r e.device }

unfoldable pub evaluation_outcome : DeviceRecord → Outcome Evaluated → EvaluationOutcome
evaluation_outcome r (done e) = evaluated_outcome r e
evaluation_outcome r (refused n) = refused_evaluation r n

-- x is the lent list of node voltages
unfoldable pub eval_call : DeviceRecord → List Float → ConditionsRecord → EvaluationOutcome
eval_call r x k =
    cond (good_tags r)
    (cond (good_conditions k) (evaluation_outcome r (eval_of (device_from r) x (eqb k.transient 1) (conditions_from k))) (refused_evaluation r 100))
    (refused_evaluation r 100)

-- what a call answers that changes the record where it lies
unfoldable pub reply_of : EvaluationOutcome → EvaluationReply
reply_of o = record { refusal = o.refusal; answer = o.answer }

-- What an evaluation reads from the voltages on: the inner nodes' and the thermal voltage, or the row that refuses it
unfoldable pub read_at_of : Voltages → Float → Discretisation → Outcome Reading
read_at_of v vt method = cond (eqb (last_row_of v method) 0) (done (record { voltages = v; vt = vt })) (refused (last_row_of v method))

unfoldable pub read_of : Mosfet1 → List Float → Conditions → Outcome Reading
read_of d x k =
    unless (eval_rows d.stage d.terminals x k.temperature k.gmin k.method) refused
    (done (record { voltages = voltages_of x d.terminals; vt = thermal_voltage_of k.temperature }))

-- 100 for an unknown tag
unfoldable pub reading_of : DeviceRecord → List Float → ConditionsRecord → Outcome Reading
reading_of r x k = cond (good_tags r) (cond (good_conditions k) (read_of (device_from r) x (conditions_from k)) (refused 100)) (refused 100)

-- what an evaluation gives to be stored, the charges aside: the answer with the parts that it changes
unfoldable pub changes_at : DeviceRecord → Reading → ConditionsRecord → EvaluationChanges
changes_at r at k =
    let a = evaluated_answer_of (device_from r) at.voltages k.gmin (eqb k.limiter 1) in
    record {
      answer = a;
      point = point_at (device_from r) at.voltages at.vt k.gmin a;
      method = method_record (method_from k.method);
    }

-- the charges of an evaluation, which change with the transient flag alone
unfoldable pub charges_from : DeviceRecord → Reading → ConditionsRecord → EvaluationChanges → Option Charges
charges_from r at k c = cond (eqb k.transient 1) (Some (evaluated_charges_of (device_from r) at.voltages true c.answer)) None

unfoldable pub charges_after : Charges → Option Charges → Charges
charges_after q (Some p) = p
charges_after q None = q

-- the record with an evaluation's changes; the device is evaluated
unfoldable pub changed_record : DeviceRecord → EvaluationChanges → Charges → DeviceRecord
changed_record r c q =
    record {
      card = r.card;
      geometry = r.geometry;
      scaled = r.scaled;
      terminals = r.terminals;
      point = c.point;
      charges = q;
      histories = r.histories;
      method = c.method;
      stage = 5;
    }

-- the outcome of a call, from the record handed in and what was read
unfoldable pub outcome_from : DeviceRecord → ConditionsRecord → Outcome Reading → EvaluationOutcome
outcome_from r k (done at) =
    let c = changes_at r at k in
    record { refusal = 0; answer = c.answer; device = changed_record r c (charges_after r.charges (charges_from r at k c)) }
outcome_from r k (refused n) = refused_evaluation r n

-- the record after a commit that leaves the device d
unfoldable pub committed_record : DeviceRecord → Mosfet1 → DeviceRecord
committed_record r d =
    record {
      card = r.card;
      geometry = r.geometry;
      scaled = r.scaled;
      terminals = r.terminals;
      point = d.point;
      charges = r.charges;
      histories = histories_record d.histories;
      method = r.method;
      stage = r.stage;
    }

unfoldable pub commit_outcome : DeviceRecord → Outcome Mosfet1 → DeviceOutcome
commit_outcome r (done e) = record { refusal = 0; device = committed_record r e }
commit_outcome r (refused n) = record { refusal = n; device = r }

unfoldable pub commit_call : DeviceRecord → List Float → DeviceOutcome
commit_call r x = cond (good_tags r) (commit_outcome r (commit_of (device_from r) x)) (record { refusal = 100; device = r })

-- the record with a commit's changes
unfoldable pub advanced_record : DeviceRecord → CommitChanges → DeviceRecord
advanced_record r c =
    record {
      card = r.card;
      geometry = r.geometry;
      scaled = r.scaled;
      terminals = r.terminals;
      point = c.point;
      charges = r.charges;
      histories = c.histories;
      method = r.method;
      stage = r.stage;
    }

-- what a commit gives to be stored: the parts that it changes
unfoldable pub commit_given : Outcome Mosfet1 → Outcome CommitChanges
commit_given (done e) = done (record { point = e.point; histories = histories_record e.histories })
commit_given (refused n) = refused n

unfoldable pub commit_record_of : DeviceRecord → List Float → Outcome CommitChanges
commit_record_of r x = cond (good_tags r) (commit_given (commit_of (device_from r) x)) (refused 100)

-- the outcome of a call, from the record handed in and what the call gives to be stored
unfoldable pub commit_outcome_from : DeviceRecord → Outcome CommitChanges → DeviceOutcome
commit_outcome_from r (done c) = record { refusal = 0; device = advanced_record r c }
commit_outcome_from r (refused n) = record { refusal = n; device = r }
