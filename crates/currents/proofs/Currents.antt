-- THE THEOREM of demand 3: every accepted load after every list of calls on a fresh device.
use mathlib.Core.Path.{◌≡◌, refl, sym, subst}
use mathlib.Core.Bool.{true, false}
use mathlib.Core.List.{List}
use lib.Ieee.{Float}
use Rattle.exact.specs.Float64.{◌⊗◌}
use Rattle.device.specs.declared.Charges as device
use Rattle.device.specs.declared.Discretisation.{Discretisation}
use Rattle.device.specs.declared.Histories.{Histories}
use Rattle.device.specs.declared.Mosfet1.{Mosfet1}
use Rattle.bias.specs.declared.Kept.{Kept}
use Rattle.assembly.specs.Assembly.{Pattern}
use Rattle.loading.specs.Loading.{load_of, branches_of, alpha_outside}
use Rattle.loading.specs.declared.LoadKind.{LoadKind}
use Rattle.loading.specs.declared.LoadKind.TheVariants.{DirectCurrent, Transient}
use Rattle.device.specs.Refusals.{done}
use Rattle.call_lists.specs.Calls.{Call, run, loading, answer, is_done, accepted}
use Rattle.call_lists.specs.F64.{Every, IsF64, Fresh}
use Rattle.call_lists.specs.LastEvaluation.{EvaluationMade, made, last_evaluation, voltages_at, charges_at, HoldsEvaluation}
use Rattle.call_lists.specs.Recount.{recount}
use Rattle.call_lists.proofs.Histories.{histories_are_recounted}
use Rattle.call_lists.proofs.LastEvaluation.{device_holds_the_evaluation}
use Rattle.call_lists.proofs.Prefix.{last_evaluation_stands}
use Rattle.call_lists.proofs.Unevaluated.{load_after_an_evaluation}
use Rattle.column_sums.proofs.EveryLoad.{every_load_cancels}
use Rattle.evaluation_sizes.specs.Arguments.{VoltagesSizes, EvaluationAccepted}
use Rattle.evaluation_sizes.proofs.Accepted.{eval_row_accepted}
use Rattle.reachable.specs.DeviceBounds.{DeviceBounds}
use Rattle.reachable.proofs.Reachable.{every_list_in_bounds, last_evaluation_in_bounds}
use Rattle.channel_current.specs.ChannelCurrent.{ChannelReturns}
use Rattle.channel_current.proofs.ChannelReturns.{channel_returns}
use Rattle.junction_current.specs.JunctionCurrent.{JunctionReturns}
use Rattle.junction_current.proofs.Returns.{junction_returns}
use Rattle.charge_current.specs.ChargeCurrent.{ChargeReturns, RecordedSize, HoldsBefore, OnlyZeros, exact_terms}
use Rattle.currents.specs.Loaded.{JunctionStamp, loaded_channel, loaded_source_junction, loaded_drain_junction}
use Rattle.currents.specs.Branches.{Branch, voltage_of, capacitance_of, charge_of, past_of, loaded_branch}
use Rattle.currents.specs.Currents.{channel_at, polarity_at, temperature_at, source_voltage, drain_voltage, source_saturation, drain_saturation, recounted, Premises, BranchesReturn, EveryLoadHolds}
use Rattle.currents.proofs.Places.{loaded_places}
use Rattle.currents.proofs.Stamps.{channel_is_loaded, evaluated_source, evaluated_drain, source_is_loaded, drain_is_loaded}
use Rattle.currents.proofs.Evaluations.{channel_sizes, source_sizes, drain_sizes}
use Rattle.currents.proofs.Charges.{alpha_passed, term_of, evaluated_term, branch_returns}

module _ (d : Mosfet1) (F : Fresh d) (calls : List Call) (fs : Every IsF64 calls) where
  -- ---- a load after the evaluation e
  module _ (e : EvaluationMade) (kept : Kept) (last : last_evaluation calls d ≡ made e kept) (kind : LoadKind) (premises : Premises calls d e kind) where
    holds : HoldsEvaluation e kept (run calls d)
    holds = device_holds_the_evaluation calls d e kept F last

    at_evaluation : DeviceBounds e.device
    at_evaluation = last_evaluation_in_bounds calls d e kept F fs last

    passed : EvaluationAccepted e.device e.x e.conditions
    passed = eval_row_accepted e.device e.x e.conditions (last_evaluation_stands calls d e kept last).row

    channel : ChannelReturns (channel_at e) (loaded_channel (run calls d) kind)
    channel = subst (ChannelReturns (channel_at e)) (sym (channel_is_loaded (run calls d) kind e kept holds.point at_evaluation.parameters.geometry.w_over_l)) (channel_returns (channel_at e) (channel_sizes e at_evaluation passed))

    source_junction : JunctionReturns (loaded_source_junction (run calls d) kind).conductance (loaded_source_junction (run calls d) kind).offset (source_saturation e) (polarity_at e) (source_voltage e) (temperature_at e) e.conditions.gmin
    unfolding evaluated_source
    source_junction =
        subst (λ (s : JunctionStamp). JunctionReturns s.conductance s.offset (source_saturation e) (polarity_at e) (source_voltage e) (temperature_at e) e.conditions.gmin) (sym (source_is_loaded (run calls d) kind e kept holds.point))
        (junction_returns (source_sizes e at_evaluation passed) premises.source_junction)

    drain_junction : JunctionReturns (loaded_drain_junction (run calls d) kind).conductance (loaded_drain_junction (run calls d) kind).offset (drain_saturation e) (polarity_at e) (drain_voltage e) (temperature_at e) e.conditions.gmin
    unfolding evaluated_drain
    drain_junction =
        subst (λ (s : JunctionStamp). JunctionReturns s.conductance s.offset (drain_saturation e) (polarity_at e) (drain_voltage e) (temperature_at e) e.conditions.gmin) (sym (drain_is_loaded (run calls d) kind e kept holds.point))
        (junction_returns (drain_sizes e at_evaluation passed) premises.drain_junction)

  -- ---- the charge branches of a transient load
  module _ (e : EvaluationMade) (kept : Kept) (last : last_evaluation calls d ≡ made e kept) (alpha : Float) (row : alpha_outside (run calls d).disc (Transient alpha) ≡ false) (premises : Premises calls d e (Transient alpha)) (b : Branch) where
    same_past : (run calls d).histories ≡ recount calls d
    same_past = histories_are_recounted calls d F

    same_charges : (run calls d).charges ≡ charges_at e
    same_charges = (holds e kept last (Transient alpha) premises).charges

    same_method : (run calls d).disc ≡ e.conditions.method
    same_method = (holds e kept last (Transient alpha) premises).disc

    voltages : VoltagesSizes (voltages_at e)
    unfolding voltages_at
    voltages = (passed e kept last (Transient alpha) premises).voltages

    -- of what the device itself holds
    from_the_device : ChargeReturns (loaded_branch b (branches_of (run calls d) (Transient alpha))) (voltage_of b (voltages_at e)) (exact_terms (run calls d).disc alpha (charge_of b (run calls d).charges) (past_of b (run calls d).histories))
    unfolding branches_of recounted
    from_the_device =
        branch_returns (run calls d) alpha (every_list_in_bounds calls d F fs).state row b voltages
        (subst (λ (c : device.Charges). term_of b c ≡ capacitance_of b c ⊗ voltage_of b (voltages_at e)) (sym same_charges) (evaluated_term b e premises.transient))
        (subst (λ (h : Histories). RecordedSize (past_of b h).i_prev) (sym same_past) (premises.recorded tt b))
        (λ t. subst (λ (h : Histories). HoldsBefore (run calls d).disc (past_of b h).q_prev2) (sym same_past)
        (subst (λ (m : Discretisation). HoldsBefore m (past_of b (recount calls d)).q_prev2) (sym same_method) (premises.before_the_last tt b t)))
        (λ t. subst (λ (h : Histories). OnlyZeros (capacitance_of b (run calls d).charges) (charge_of b (run calls d).charges) (past_of b h)) (sym same_past)
        (subst (λ (c : device.Charges). OnlyZeros (capacitance_of b c) (charge_of b c) (past_of b (recount calls d))) (sym same_charges) (premises.only_zeros tt b t)))

    abbrev Claim : Discretisation → device.Charges → Histories → Type 0
    Claim m c h = ChargeReturns (loaded_branch b (branches_of (run calls d) (Transient alpha))) (voltage_of b (voltages_at e)) (exact_terms m alpha (charge_of b c) (past_of b h))

    branch : ChargeReturns (loaded_branch b (branches_of (run calls d) (Transient alpha))) (voltage_of b (voltages_at e)) (exact_terms e.conditions.method alpha (charge_of b (charges_at e)) (recounted calls d b))
    unfolding recounted
    branch =
        subst (λ (h : Histories). Claim e.conditions.method (charges_at e) h) same_past
        (subst (λ (c : device.Charges). Claim e.conditions.method c (run calls d).histories) same_charges
        (subst (λ (m : Discretisation). Claim m (run calls d).charges (run calls d).histories) same_method from_the_device))

  branches : (e : EvaluationMade) (kept : Kept) → last_evaluation calls d ≡ made e kept → (kind : LoadKind) → alpha_outside (run calls d).disc kind ≡ false → Premises calls d e kind → BranchesReturn calls d e kind
  branches e kept last DirectCurrent row premises = tt
  branches e kept last (Transient alpha) row premises = λ b. branch e kept last alpha row premises b

  done_accepted : (kind : LoadKind) (P : Pattern) (rhs values : List Float) → load_of (run calls d) kind P rhs values ≡ done tt → accepted (loading kind P rhs values) (run calls d) ≡ true
  unfolding accepted answer is_done
  done_accepted kind P rhs values h = rw (h) refl

-- Any list of calls on a fresh device, then an accepted load: the currents come back, the contributions cancel, no other cell changes.
pub currents_return : EveryLoadHolds
currents_return d F calls fs kind P rhs values rhs' values' loaded =
    let answered = sym loaded.answer in
    record {
      places = loaded_places (run calls d) kind;
      evaluated = load_after_an_evaluation calls d kind P rhs values F (done_accepted d F calls fs kind P rhs values answered);
      returns = λ e kept last premises. record {
        channel = channel d F calls fs e kept last kind premises;
        source_junction = source_junction d F calls fs e kept last kind premises;
        drain_junction = drain_junction d F calls fs e kept last kind premises;
        branches = branches d F calls fs e kept last kind (alpha_passed (run calls d) kind P rhs values answered) premises;
      };
      cancels = every_load_cancels (run calls d) kind P rhs values (done tt) rhs' values' loaded;
    }
