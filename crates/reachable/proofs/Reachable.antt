-- Every device that a list of calls can leave is within the bounds, and so is the one on which the last accepted evaluation was made.
use mathlib.Core.Path.{◌≡◌, refl, sym, subst}
use mathlib.Core.List.{List}
use Rattle.device.specs.declared.Mosfet1.{Mosfet1}
use Rattle.bias.specs.declared.Kept.{Kept}
use Rattle.mosfet1.specs.Steps.{evaluated_of, evaluated_from_of, committed_of}
use Rattle.mosfet1.specs.declared.steps.Evaluated.{Evaluated}
use Rattle.parameter_sizes.specs.ParameterSizes.{CardSizes, GeometrySizes, ScaledSizes, DeviceSizes}
use Rattle.parameter_sizes.proofs.Cards.{card_sizes, fresh_state}
use Rattle.parameter_sizes.proofs.Geometries.{geometry_keeps_sizes}
use Rattle.parameter_sizes.proofs.Scalings.{scaling_keeps_sizes, binding_keeps_sizes}
use Rattle.evaluation_sizes.specs.EvaluationSizes.{ParameterBounds, PointSizes, ChargesSizes, HistoriesSizes, StateSizes}
use Rattle.evaluation_sizes.specs.Arguments.{MethodSizes}
use Rattle.evaluation_sizes.proofs.Accepted.{eval_accepted, commit_accepted}
use Rattle.evaluation_sizes.proofs.Evaluated.{eval_sizes}
use Rattle.evaluation_sizes.proofs.Committed.{commit_sizes}
use Rattle.evaluation_sizes.proofs.Fresh.{fresh_sizes_lem}
use Rattle.call_lists.specs.Calls.{Call, run}
use Rattle.call_lists.specs.F64.{Every, IsF64, Fresh}
use Rattle.call_lists.specs.LastEvaluation.{EvaluationMade, made, last_evaluation}
use Rattle.call_lists.proofs.Outcomes.{geometry_done, scaling_done, binding_done}
use Rattle.call_lists.proofs.Induction.{Keeps, list_keeps, last_evaluation_keeps}
use Rattle.reachable.specs.DeviceBounds.{DeviceBounds}
use Rattle.reachable.proofs.Parameters.{parameter_bounds}

pub bounds_of : {d : Mosfet1} → DeviceSizes d → ParameterBounds d.card d.geometry d.scaled
bounds_of D = parameter_bounds D.card D.geometry D.scaled

pub fresh_bounds : (d : Mosfet1) → Fresh d → DeviceBounds d
fresh_bounds d F =
    let fresh = fresh_state F.is_pmos F.bytes F.offsets F.lengths F.values F.space _ F.returned in
    record {
      parameters = card_sizes F.is_pmos F.bytes F.offsets F.lengths F.values F.space _ F.returned F.f64;
      state = fresh_sizes_lem d fresh.point fresh.charges fresh.histories fresh.disc;
    }

-- geometry, scaling and binding leave the state
same_state : {d e : Mosfet1} → e.point ≡ d.point → e.charges ≡ d.charges → e.histories ≡ d.histories → e.disc ≡ d.disc → StateSizes d → StateSizes e
same_state p c h m S = record {
  point = subst PointSizes (sym p) S.point;
  charges = subst ChargesSizes (sym c) S.charges;
  histories = subst HistoriesSizes (sym h) S.histories;
  method = subst MethodSizes (sym m) S.method;
}

-- evaluation and commit leave the parameters
same_parameters : {d e : Mosfet1} → e.card ≡ d.card → e.geometry ≡ d.geometry → e.scaled ≡ d.scaled → DeviceSizes d → DeviceSizes e
same_parameters c g s D = record { card = subst CardSizes (sym c) D.card; geometry = subst GeometrySizes (sym g) D.geometry; scaled = subst ScaledSizes (sym s) D.scaled }

pub calls_keep_bounds : Keeps DeviceBounds
unfolding evaluated_of evaluated_from_of committed_of
calls_keep_bounds = record {
  sized = λ d bytes offsets lengths values space k fs h D.
      let r = (geometry_done d bytes offsets lengths values space k h).1 in
      record {
        parameters = geometry_keeps_sizes d bytes offsets lengths values space k h D.parameters;
        state = subst StateSizes (sym r) (same_state {d = d} refl refl refl refl D.state);
      };
  scaled = λ d t e f h D.
      record {
        parameters = scaling_keeps_sizes d t e h D.parameters;
        state = subst StateSizes (sym (scaling_done d t e h).1) (same_state {d = d} refl refl refl refl D.state);
      };
  bound = λ d drain gate source bulk first e h D.
      record {
        parameters = binding_keeps_sizes d drain gate source bulk first e h D.parameters;
        state = subst StateSizes (sym (binding_done d drain gate source bulk first e h).1) (same_state {d = d} refl refl refl refl D.state);
      };
  evaluated = λ d x transient k e f h D.
      record {
        parameters = subst (λ (z : Evaluated). DeviceSizes z.device) (sym (eval_accepted d x transient k e h).0) (same_parameters {d = d} refl refl refl D.parameters);
        state = (eval_sizes (bounds_of D.parameters) D.state x transient k h).0;
      };
  committed = λ d x e fs h D.
      record {
        parameters = subst DeviceSizes (sym (commit_accepted d x e h).0) (same_parameters {d = d} refl refl refl D.parameters);
        state = commit_sizes (bounds_of D.parameters) D.state x h;
      };
}

-- After every list on a fresh device.
pub every_list_in_bounds : (calls : List Call) (d : Mosfet1) → Fresh d → Every IsF64 calls → DeviceBounds (run calls d)
every_list_in_bounds calls d F fs = list_keeps calls_keep_bounds calls d fs (fresh_bounds d F)

-- The device of the last accepted evaluation.
pub last_evaluation_in_bounds : (calls : List Call) (d : Mosfet1) (e : EvaluationMade) (kept : Kept) → Fresh d → Every IsF64 calls → last_evaluation calls d ≡ made e kept → DeviceBounds e.device
last_evaluation_in_bounds calls d e kept F fs h = (last_evaluation_keeps calls_keep_bounds calls d e kept fs (fresh_bounds d F) h).0
