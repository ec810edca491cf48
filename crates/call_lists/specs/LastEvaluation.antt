-- The last accepted evaluation of a list, with the device that it was made on: the parameters in force at it stay those of this device,
-- whatever calls come after.
use Rattle.std.specs.Prelude.{◌≡◌, Bool, true, false, cond, List, [], ◌∷◌, ◌++◌, Float}
use Rattle.exact.specs.Float64.{◌⊖◌, ◌⊗◌}
use Rattle.device.specs.Stages.{before}
use Rattle.device.specs.declared.Charges.{Charges}
use Rattle.device.specs.declared.Mosfet1.{Mosfet1}
use Rattle.device.specs.declared.OperatingPoint.{OperatingPoint}
use Rattle.device.specs.declared.Stage.TheVariants as Stage
use Rattle.mosfet1.specs.Steps.{evaluated_answer_of, evaluated_point_of, evaluated_charges_of}
use Rattle.bias.specs.declared.Answer as bias
use Rattle.bias.specs.declared.Kept.{Kept}
use Rattle.bias.specs.declared.Voltages.{Voltages}
use Rattle.mosfet1.specs.declared.steps.Conditions.{Conditions}
use Rattle.rows.specs.Rows.{voltages_of, eval_row_of}
use Rattle.assembly.specs.Assembly.{Pattern}
use Rattle.loading.specs.declared.LoadKind.{LoadKind}
use Rattle.temperature.specs.declared.Kelvin.{Kelvin}
use Rattle.call_lists.specs.Calls.{Call, geometry, scaling, binding, evaluation, loading, commit, noise, reactances, accepted, after, run}

-- an evaluation: the device that it was made on and its arguments
pub record EvaluationMade : Type 0 where
  pub device : Mosfet1
  pub x : List Float
  pub transient : Bool
  pub conditions : Conditions

unfoldable pub evaluation_on : Mosfet1 → List Float → Bool → Conditions → EvaluationMade
evaluation_on d x transient k = record { device = d; x = x; transient = transient; conditions = k }

-- the four voltages that it read, and what the Level-1 definition makes of them
unfoldable pub voltages_at : EvaluationMade → Voltages
voltages_at e = voltages_of e.x e.device.terminals

unfoldable pub answer_at : EvaluationMade → bias.Answer
answer_at e = evaluated_answer_of e.device (voltages_at e) e.conditions.gmin e.conditions.limiter

unfoldable pub point_at : EvaluationMade → OperatingPoint
point_at e = evaluated_point_of e.device (voltages_at e) e.conditions.temperature e.conditions.gmin (answer_at e)

unfoldable pub charges_at : EvaluationMade → Charges
charges_at e = evaluated_charges_of e.device (voltages_at e) e.transient (answer_at e)

-- the kept voltages: an evaluation's are those that it answers, a commit's are the committed ones, flipped and not limited
unfoldable pub evaluated_kept : EvaluationMade → Kept
evaluated_kept e = record { vgs = (answer_at e).vgs; vds = (answer_at e).vds }

unfoldable pub committed_kept : Mosfet1 → Voltages → Kept
committed_kept d v = record { vgs = d.card.polarity ⊗ (v.vg ⊖ v.vs); vds = d.card.polarity ⊗ (v.vd ⊖ v.vs) }

-- no accepted evaluation, or the last one with the voltages that it or an accepted commit after it left as kept
pub data LastEvaluation : Type 0 where
  none : LastEvaluation
  made : (e : EvaluationMade) (kept : Kept) → LastEvaluation

-- an accepted evaluation takes the last one's place, with the transient flag or without; an accepted commit changes the kept voltages
unfoldable pub evaluated_last : LastEvaluation → EvaluationMade → LastEvaluation
evaluated_last last e = made e (evaluated_kept e)

unfoldable pub committed_last : LastEvaluation → Mosfet1 → Voltages → LastEvaluation
committed_last none d v = none
committed_last (made e kept) d v = made e (committed_kept d v)

-- after one call more, on d
unfoldable pub noted : LastEvaluation → Call → Mosfet1 → LastEvaluation
noted last (evaluation x transient k) d =
    cond (accepted (evaluation x transient k) d) (evaluated_last last (evaluation_on d x transient k)) last
noted last (commit x) d = cond (accepted (commit x) d) (committed_last last d (voltages_of x d.terminals)) last
noted last (geometry bytes offsets lengths values list) d = last
noted last (scaling t) d = last
noted last (binding drain gate source bulk first) d = last
noted last (loading kind P rhs values) d = last
noted last (noise t freq) d = last
noted last reactances d = last

unfoldable pub last_from : LastEvaluation → List Call → Mosfet1 → LastEvaluation
last_from last [] d = last
last_from last (c ∷ calls) d = last_from (noted last c d) calls (after c d)

unfoldable pub last_evaluation : List Call → Mosfet1 → LastEvaluation
last_evaluation calls d = last_from none calls d

-- an operating point under other kept voltages
unfoldable pub keeping : OperatingPoint → Kept → OperatingPoint
keeping p kept = record {
  ids_eval = p.ids_eval;
  gbs = p.gbs;
  gbd = p.gbd;
  ibs_eq = p.ibs_eq;
  ibd_eq = p.ibd_eq;
  gm = p.gm;
  gds = p.gds;
  gmbs = p.gmbs;
  jeq = p.jeq;
  vgs_eff_prev = kept.vgs;
  vds_eff_prev = kept.vds;
}

-- what a device holds of an evaluation e
pub record HoldsEvaluation (e : EvaluationMade) (kept : Kept) (d : Mosfet1) : Type 0 where
  pub card : d.card ≡ e.device.card
  pub geometry : d.geometry ≡ e.device.geometry
  pub terminals : d.terminals ≡ e.device.terminals
  pub point : d.point ≡ keeping (point_at e) kept
  pub charges : d.charges ≡ charges_at e
  pub disc : d.disc ≡ e.conditions.method
  pub stage : d.stage ≡ Stage.Evaluated

-- without an accepted evaluation the stage is an earlier one
abbrev pub HoldsLast : LastEvaluation → Mosfet1 → Type 0
HoldsLast none d = before d.stage Stage.Evaluated ≡ true
HoldsLast (made e kept) d = HoldsEvaluation e kept d

-- where an accepted evaluation stands in a list on d: after `prefix`, whose device it was made on
pub record StandsIn (calls : List Call) (d : Mosfet1) (e : EvaluationMade) : Type 0 where
  pub prefix : List Call
  pub rest : List Call
  pub stands : calls ≡ prefix ++ (evaluation e.x e.transient e.conditions ∷ rest)
  pub device : e.device ≡ run prefix d
  pub row : eval_row_of e.device.stage e.device.terminals e.x e.conditions.temperature e.conditions.gmin e.conditions.method ≡ 0

-- the calls that need an accepted evaluation are refused on d, whatever their arguments
pub record RefusedBeforeEvaluation (d : Mosfet1) : Type 0 where
  pub load_refused : (kind : LoadKind) (P : Pattern) (rhs values : List Float) → accepted (loading kind P rhs values) d ≡ false
  pub commit_refused : (x : List Float) → accepted (commit x) d ≡ false
  pub noise_refused : (t : Kelvin) (freq : Float) → accepted (noise t freq) d ≡ false
  pub reactances_refused : accepted reactances d ≡ false
