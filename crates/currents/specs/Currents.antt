-- Demand 3: one claim about every list of calls. Quotations are from document 01, "What demand 3 measures".
use Rattle.std.specs.Prelude.{◌≡◌, true, false, List, ◌∷◌, ◌++◌, Float}
use Rattle.exact.specs.Float64.{◌⊖◌, ◌⊗◌}
use Rattle.device.specs.declared.ChargeHistory.{ChargeHistory}
use Rattle.device.specs.declared.Mosfet1.{Mosfet1}
use Rattle.threshold.specs.Threshold.{body_slope_of}
use Rattle.bias.specs.Bias.{evaluated_body_of}
use Rattle.bias.specs.declared.Kept.{Kept}
use Rattle.assembly.specs.Assembly.{Pattern}
use Rattle.loading.specs.Loading.{Loaded, branches_of}
use Rattle.loading.specs.declared.LoadKind.{LoadKind}
use Rattle.loading.specs.declared.LoadKind.TheVariants.{DirectCurrent, Transient}
use Rattle.device.specs.Refusals.{done}
use Rattle.call_lists.specs.Calls.{Call, run, loading, answer, loading_answer}
use Rattle.call_lists.specs.F64.{Every, IsF64, Fresh}
use Rattle.call_lists.specs.LastEvaluation.{EvaluationMade, made, last_evaluation, voltages_at, answer_at, charges_at}
use Rattle.call_lists.specs.Recount.{recount}
use Rattle.column_sums.specs.ColumnSums.{LoadCancels}
use Rattle.channel_current.specs.ChannelCurrent.{ChannelInputs, ChannelReturns}
use Rattle.temperature.specs.declared.Kelvin.{Kelvin}
use Rattle.junction_current.specs.JunctionCurrent.{WithinThermalVoltages, JunctionReturns}
use Rattle.charge_current.specs.ChargeCurrent.{RecordedSize, HoldsBefore, OnlyZeros, ChargeReturns, exact_terms}
use Rattle.currents.specs.Loaded.{loaded_channel, loaded_source_junction, loaded_drain_junction}
use Rattle.currents.specs.Places.{LoadedPlaces}
use Rattle.currents.specs.Branches.{Branch, voltage_of, capacitance_of, charge_of, past_of, history_loaded, loaded_branch}

-- ---- the last accepted evaluation, "Parameters are the scaled ones in force at that evaluation"
-- "Channel and junction voltages are that evaluation's, flipped"; vgs and vds are the kept ones, vth the answered one. A commit after the
-- evaluation changes what the device keeps, and none of these. The claim does not read the slope: the evaluated gmbs is made from it.
unfoldable pub channel_at : EvaluationMade → ChannelInputs
channel_at e =
    let d = e.device in
    record {
      pol = d.card.polarity;
      kp = d.scaled.kp_t;
      w = d.geometry.w;
      l = d.geometry.l;
      lambda = d.card.lambda;
      vth = (answer_at e).vth;
      slope = body_slope_of d.card.gamma (evaluated_body_of d.card d.scaled (voltages_at e));
      vgs = (answer_at e).vgs;
      vds = (answer_at e).vds;
      node_vbs = (voltages_at e).vb ⊖ (voltages_at e).vs;
      gmin = e.conditions.gmin;
    }

unfoldable pub polarity_at : EvaluationMade → Float
polarity_at e = e.device.card.polarity

unfoldable pub temperature_at : EvaluationMade → Kelvin
temperature_at e = e.conditions.temperature

-- a junction's node difference, from the bulk to the inner source or drain
unfoldable pub source_voltage : EvaluationMade → Float
source_voltage e = voltage_of Branch.bs (voltages_at e)

unfoldable pub drain_voltage : EvaluationMade → Float
drain_voltage e = voltage_of Branch.bd (voltages_at e)

-- "isat the rounded product of the current with its temperature factor"
unfoldable pub source_saturation : EvaluationMade → Float
source_saturation e = e.device.geometry.isat_bs ⊗ e.device.scaled.isat_t_factor

unfoldable pub drain_saturation : EvaluationMade → Float
drain_saturation e = e.device.geometry.isat_bd ⊗ e.device.scaled.isat_t_factor

-- ---- premises, at a load of the device that the calls leave on d; e is their last accepted evaluation
-- "Earlier charges and recorded currents above are its own": the recount's
unfoldable pub recounted : List Call → Mosfet1 → Branch → ChargeHistory
recounted calls d b = past_of b (recount calls d)

abbrev pub IsTransient : LoadKind → Type 0
IsTransient DirectCurrent = ⊥
IsTransient (Transient alpha) = Unit {0}

-- The last three speak of the charge branches and are asked where the load is transient. Recorded currents are bounded at the load, not at
-- every commit before it.
pub record Premises (calls : List Call) (d : Mosfet1) (e : EvaluationMade) (kind : LoadKind) : Type 0 where
  -- "the last evaluation had the transient flag"
  pub transient : e.transient ≡ true
  -- "both junctions lie within ±500 thermal voltages"
  pub source_junction : WithinThermalVoltages (polarity_at e) (source_voltage e) (temperature_at e)
  pub drain_junction : WithinThermalVoltages (polarity_at e) (drain_voltage e) (temperature_at e)
  -- "recorded branch currents stay below 1e100 A in size"
  pub recorded : IsTransient kind → (b : Branch) → RecordedSize (recounted calls d b).i_prev
  -- "under Gear with an earlier step, each branch whose history current is loaded holds a charge before the last"
  pub before_the_last : IsTransient kind → (b : Branch) → history_loaded b (run calls d).geometry ≡ true → HoldsBefore e.conditions.method (recounted calls d b).q_prev2
  -- "a junction whose bottom and sidewall capacitances are both zero at the load has only zeros as evaluated capacitance and charge,
  -- earlier charges and recorded current"
  pub only_zeros : IsTransient kind → (b : Branch) → history_loaded b (run calls d).geometry ≡ false → OnlyZeros (capacitance_of b (charges_at e)) (charge_of b (charges_at e)) (recounted calls d b)

-- ---- the claim
-- the five charge branches of a transient load; "At a load one alpha serves both the matrix and the right-hand side"
abbrev pub BranchesReturn : List Call → Mosfet1 → EvaluationMade → LoadKind → Type 0
BranchesReturn calls d e DirectCurrent = Unit {0}
BranchesReturn calls d e (Transient alpha) =
    (b : Branch) → ChargeReturns (loaded_branch b (branches_of (run calls d) (Transient alpha))) (voltage_of b (voltages_at e)) (exact_terms e.conditions.method alpha (charge_of b (charges_at e)) (recounted calls d b))

-- the loaded values, multiplied out exactly at the voltages of e, return its currents: each claim is finite values and "within 2^-40 of each
-- branch's scale plus 2^-900 A"
pub record CurrentsReturn (calls : List Call) (d : Mosfet1) (e : EvaluationMade) (kind : LoadKind) : Type 0 where
  pub channel : ChannelReturns (channel_at e) (loaded_channel (run calls d) kind)
  pub source_junction : JunctionReturns (loaded_source_junction (run calls d) kind).conductance (loaded_source_junction (run calls d) kind).offset (source_saturation e) (polarity_at e) (source_voltage e) (temperature_at e) e.conditions.gmin
  pub drain_junction : JunctionReturns (loaded_drain_junction (run calls d) kind).conductance (loaded_drain_junction (run calls d) kind).offset (drain_saturation e) (polarity_at e) (drain_voltage e) (temperature_at e) e.conditions.gmin
  pub branches : BranchesReturn calls d e kind

-- of an accepted load, whatever the slices held: its values stand where they are named, there was an accepted evaluation, the last one's
-- currents come back under the premises, and with no premise the contributions to each column and to the right-hand side sum to exactly
-- zero and no other cell changes
pub record LoadHolds (calls : List Call) (d : Mosfet1) (kind : LoadKind) (P : Pattern) (rhs values rhs' values' : List Float) : Type 0 where
  pub places : LoadedPlaces (run calls d) kind
  pub evaluated : (e : EvaluationMade) × (kept : Kept) × (last_evaluation calls d ≡ made e kept)
  pub returns : (e : EvaluationMade) (kept : Kept) → last_evaluation calls d ≡ made e kept → Premises calls d e kind → CurrentsReturn calls d e kind
  pub cancels : LoadCancels (run calls d) kind P rhs values rhs' values'

-- "This is a single claim about the list, not one for each call": any list of calls on a fresh device, refused ones among them, then a load
-- that is accepted. Numbers of the calls are f64s, NaNs and infinities among them, as every caller's are. Nothing is asked of the load's
-- pattern, slices and alpha but that it is accepted.
abbrev pub EveryLoadHolds : Type 0
EveryLoadHolds =
    (d : Mosfet1) → Fresh d → (calls : List Call) → Every IsF64 calls
    → (kind : LoadKind) (P : Pattern) (rhs values rhs' values' : List Float) → Loaded (run calls d) kind P rhs values (done tt) rhs' values'
    → LoadHolds calls d kind P rhs values rhs' values'

-- The same of a load inside a list: wherever a list of calls is split at a load that is accepted there, on the device that the calls
-- before it leave, the claims hold of that load, whatever calls follow it. What its slices hold at exit is in its answer.
abbrev pub EveryLoadInAListHolds : Type 0
EveryLoadInAListHolds =
    (d : Mosfet1) → Fresh d → (calls : List Call) → Every IsF64 calls
    → (prefix rest : List Call) (kind : LoadKind) (P : Pattern) (rhs values rhs' values' : List Float) → calls ≡ prefix ++ (loading kind P rhs values ∷ rest)
    → answer (loading kind P rhs values) (run prefix d) ≡ loading_answer (done tt) rhs' values'
    → LoadHolds prefix d kind P rhs values rhs' values'
