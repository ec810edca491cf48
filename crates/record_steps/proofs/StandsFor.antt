-- After a call the record stands for the device that the model's call leaves, and its tags are known.
-- Assumes nothing.
use mathlib.Core.Path.{◌≡◌, refl, sym, subst}
use mathlib.Core.Bool.{Bool, true, false, cond, ◌&&◌}
use mathlib.Core.List.{List}
use lib.Dec.{T, eqb, leb}
use lib.Ieee.{Float}
use Rattle.bias.specs.declared.Voltages.{Voltages}
use Rattle.device.specs.Refusals.{Outcome, done, refused, if_accepted, values_or}
use Rattle.device.specs.declared.Mosfet1.{Mosfet1}
use Rattle.rows.specs.Rows.{voltages_of, eval_rows, commit_rows}
use Rattle.device.proofs.Rows.{unless_either}
use Rattle.mosfet1.specs.Steps.{evaluated_from_of, evaluated_of, committed_of}
use Rattle.mosfet1.specs.declared.steps.Conditions.{Conditions}
use Rattle.mosfet1.specs.declared.steps.Evaluated.{Evaluated}
use Rattle.model.specs.Calls.{eval_of, commit_of}
use Rattle.record.specs.Records.{device_record}
use Rattle.record.specs.declared.DeviceRecord.{DeviceRecord}
use Rattle.from_record.specs.Devices.{device_from}
use Rattle.from_record.specs.Tags.{good_terminals, good_histories, good_stage, good_tags}
use Rattle.from_record.proofs.ThereAndBack.{device_back, device_tags}
use Rattle.record_steps.specs.declared.ConditionsRecord.{ConditionsRecord}
use Rattle.record_steps.specs.Steps.{EvaluationOutcome, good_conditions, conditions_from, refused_evaluation, evaluated_record, evaluated_outcome, evaluation_outcome, eval_call, committed_record, commit_outcome, commit_call}

-- ---- the device

evaluated_back : (r : DeviceRecord) (v : Voltages) (t : Bool) (k : Conditions) → device_from (evaluated_record r (evaluated_of (device_from r) v t k).device) ≡ (evaluated_of (device_from r) v t k).device
unfolding evaluated_record evaluated_of evaluated_from_of device_from device_record
evaluated_back r v t k =
    let d = (evaluated_of (device_from r) v t k).device in
    let back = device_back d in
    λ i.
    record {
      card = d.card;
      geometry = d.geometry;
      scaled = d.scaled;
      terminals = d.terminals;
      point = d.point;
      charges = d.charges;
      histories = d.histories;
      disc = (back i).disc;
      stage = (back i).stage;
    }

committed_back : (r : DeviceRecord) (v : Voltages) → device_from (committed_record r (committed_of (device_from r) v)) ≡ committed_of (device_from r) v
unfolding committed_record committed_of device_from device_record
committed_back r v =
    let d = committed_of (device_from r) v in
    let back = device_back d in
    λ i.
    record {
      card = d.card;
      geometry = d.geometry;
      scaled = d.scaled;
      terminals = d.terminals;
      point = d.point;
      charges = d.charges;
      histories = (back i).histories;
      disc = d.disc;
      stage = d.stage;
    }

-- the model's device after a call: the one handed in where it is refused
abbrev pub after_evaluation : Mosfet1 → Outcome Evaluated → Mosfet1
after_evaluation d a = if_accepted (λ (e : Evaluated). e.device) d a

-- the record after the call stands for the device after the model's
Stands : DeviceRecord → Outcome Evaluated → Type 0
Stands r a = device_from (evaluation_outcome r a).device ≡ after_evaluation (device_from r) a

CommitStands : DeviceRecord → Outcome Mosfet1 → Type 0
CommitStands r a = device_from (commit_outcome r a).device ≡ values_or (device_from r) a

stands : (r : DeviceRecord) (x : List Float) (t : Bool) (k : Conditions) → Stands r (eval_of (device_from r) x t k)
unfolding eval_of Stands evaluation_outcome evaluated_outcome refused_evaluation
stands r x t k =
    let d = device_from r in
    unless_either (Stands r) (eval_rows d.stage d.terminals x k.temperature k.gmin k.method) refused _ (λ n. refl) (evaluated_back r (voltages_of x d.terminals) t k)

commit_stands : (r : DeviceRecord) (x : List Float) → CommitStands r (commit_of (device_from r) x)
unfolding commit_of CommitStands commit_outcome
commit_stands r x =
    let d = device_from r in
    unless_either (CommitStands r) (commit_rows d.stage d.terminals x) refused _ (λ n. refl) (committed_back r (voltages_of x d.terminals))

-- after an evaluation of a record with known tags, at known conditions, it stands for the device after the model's evaluation
pub eval_stands_for : (r : DeviceRecord) (x : List Float) (k : ConditionsRecord) → good_tags r ≡ true → good_conditions k ≡ true →
    device_from (eval_call r x k).device ≡ after_evaluation (device_from r) (eval_of (device_from r) x (eqb k.transient 1) (conditions_from k))
unfolding eval_call Stands
eval_stands_for r x k g h = rw (g, h) (stands r x (eqb k.transient 1) (conditions_from k))

-- after a commit of a record with known tags it stands for the device after the model's commit
pub commit_stands_for : (r : DeviceRecord) (x : List Float) → good_tags r ≡ true →
    device_from (commit_call r x).device ≡ values_or (device_from r) (commit_of (device_from r) x)
unfolding commit_call CommitStands
commit_stands_for r x g = rw (g) (commit_stands r x)

-- ---- the tags

first : (a b : Bool) → (a && b) ≡ true → a ≡ true
first true b h = refl
first false b h = h

second : (a b : Bool) → (a && b) ≡ true → b ≡ true
second true b h = h
second false b h = absurd (subst T (sym h) tt)

both : (a b : Bool) → a ≡ true → b ≡ true → (a && b) ≡ true
both a b h k = rw (h, k)

-- a conjunction of six with its third and last part, or its fifth, from another
third_and_last : (a b c d e f p q s u v w : Bool) → (a && b && c && d && e && f) ≡ true → (p && q && s && u && v && w) ≡ true → (a && b && s && d && e && w) ≡ true
third_and_last a b c d e f p q s u v w h k =
    let h5 = first (a && b && c && d && e) f h in
    let h4 = first (a && b && c && d) e h5 in
    let h3 = first (a && b && c) d h4 in
    let k3 = first (p && q && s) u (first (p && q && s && u) v (first (p && q && s && u && v) w k)) in
    both (a && b && s && d && e) w
    (both (a && b && s && d) e (both (a && b && s) d (both (a && b) s (first (a && b) c h3) (second (p && q) s k3)) (second (a && b && c) d h4)) (second (a && b && c && d) e h5))
    (second (p && q && s && u && v) w k)

fifth : (a b c d e f p q s u v w : Bool) → (a && b && c && d && e && f) ≡ true → (p && q && s && u && v && w) ≡ true → (a && b && c && d && v && f) ≡ true
fifth a b c d e f p q s u v w h k =
    let h5 = first (a && b && c && d && e) f h in
    both (a && b && c && d && v) f
    (both (a && b && c && d) v (first (a && b && c && d) e h5) (second (p && q && s && u) v (first (p && q && s && u && v) w k)))
    (second (a && b && c && d && e) f h)

evaluated_tags : (r : DeviceRecord) (d : Mosfet1) → good_tags r ≡ true → good_tags (evaluated_record r d) ≡ true
unfolding good_tags evaluated_record device_record
evaluated_tags r d g =
    let p = device_record d in
    third_and_last (leb r.card.rd_card.tag 1) (leb r.card.rs_card.tag 1) (leb r.method.tag 3) (good_terminals r.terminals) (good_histories r.histories) (good_stage r.stage)
    (leb p.card.rd_card.tag 1) (leb p.card.rs_card.tag 1) (leb p.method.tag 3) (good_terminals p.terminals) (good_histories p.histories) (good_stage p.stage) g (device_tags d)

committed_tags : (r : DeviceRecord) (d : Mosfet1) → good_tags r ≡ true → good_tags (committed_record r d) ≡ true
unfolding good_tags committed_record device_record
committed_tags r d g =
    let p = device_record d in
    fifth (leb r.card.rd_card.tag 1) (leb r.card.rs_card.tag 1) (leb r.method.tag 3) (good_terminals r.terminals) (good_histories r.histories) (good_stage r.stage)
    (leb p.card.rd_card.tag 1) (leb p.card.rs_card.tag 1) (leb p.method.tag 3) (good_terminals p.terminals) (good_histories p.histories) (good_stage p.stage) g (device_tags d)

-- the tags stay known, whatever the call answers
evaluation_tags : (r : DeviceRecord) (a : Outcome Evaluated) → good_tags r ≡ true → good_tags (evaluation_outcome r a).device ≡ true
unfolding evaluation_outcome evaluated_outcome refused_evaluation
evaluation_tags r (done e) g = evaluated_tags r e.device g
evaluation_tags r (refused n) g = g

of_either : (b : Bool) (o p : EvaluationOutcome) → good_tags o.device ≡ true → good_tags p.device ≡ true → good_tags (cond b o p).device ≡ true
of_either true o p h k = h
of_either false o p h k = k

pub eval_tags : (r : DeviceRecord) (x : List Float) (k : ConditionsRecord) → good_tags r ≡ true → good_tags (eval_call r x k).device ≡ true
unfolding eval_call refused_evaluation
eval_tags r x k g = rw (g) (of_either (good_conditions k) _ _ (evaluation_tags r (eval_of (device_from r) x (eqb k.transient 1) (conditions_from k)) g) g)

commit_outcome_tags : (r : DeviceRecord) (a : Outcome Mosfet1) → good_tags r ≡ true → good_tags (commit_outcome r a).device ≡ true
unfolding commit_outcome
commit_outcome_tags r (done e) g = committed_tags r e g
commit_outcome_tags r (refused n) g = g

pub commit_tags : (r : DeviceRecord) (x : List Float) → good_tags r ≡ true → good_tags (commit_call r x).device ≡ true
unfolding commit_call
commit_tags r x g = rw (g) (commit_outcome_tags r (commit_of (device_from r) x) g)
