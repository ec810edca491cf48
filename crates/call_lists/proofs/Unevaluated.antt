-- Without an accepted evaluation loading, commit, noise and reactances are refused.
use mathlib.Core.Path.{◌≡◌, refl, sym, ◌∙◌, subst}
use mathlib.Core.Bool.{Bool, true, false, false≢true}
use mathlib.Core.List.{List, [], ◌∷◌}
use lib.Ieee.{Float}
use Rattle.device.specs.Refusals.{Row, unless, done, refused, is_accepted, ◌when◌}
use Rattle.device.specs.Stages.{before, unevaluated}
use Rattle.device.specs.declared.Mosfet1.{Mosfet1}
use Rattle.device.specs.declared.Stage.TheVariants as Stages
use Rattle.bias.specs.declared.Kept.{Kept}
use Rattle.model.specs.Calls.{commit_of}
use Rattle.model.specs.SmallSignal.{noise_of, reactances_of}
use Rattle.rows.specs.Rows.{commit_rows, noise_rows, reactance_rows}
use Rattle.assembly.specs.Assembly.{Pattern}
use Rattle.loading.specs.Loading.{load_rows, load_of}
use Rattle.loading.specs.declared.LoadKind.{LoadKind}
use Rattle.call_lists.specs.Calls.{Call, loading, answer, is_done, accepted, run}
use Rattle.call_lists.specs.F64.{Fresh}
use Rattle.call_lists.specs.LastEvaluation.{EvaluationMade, LastEvaluation, none, made, last_evaluation, HoldsLast, RefusedBeforeEvaluation}
use Rattle.call_lists.proofs.LastEvaluation.{device_holds_the_last_evaluation}

-- ---- the rows

-- one of the rows applies
abbrev Applies : List Row → Type 0
Applies [] = ⊥
Applies ((n when b) ∷ rows) = b ≡ false → Applies rows

row_refuses : {A : Type 0} (rows : List Row) (x : A) → Applies rows → is_accepted (unless rows refused (done x)) ≡ false
row_refuses [] x h = absurd h
row_refuses ((n when true) ∷ rows) x h = refl
row_refuses ((n when false) ∷ rows) x h = row_refuses rows x (h refl)

never : {b : Bool} {A : Type 0} → b ≡ true → b ≡ false → A
never t f = absurd (false≢true (sym f ∙ t))

-- ---- the calls

pub refused_before_evaluation : (d : Mosfet1) → before d.stage Stages.Evaluated ≡ true → RefusedBeforeEvaluation d
unfolding accepted answer is_done load_of commit_of noise_of reactances_of unevaluated
refused_before_evaluation d h =
    record {
      load_refused = λ kind P rhs values. row_refuses (load_rows d kind P rhs values) tt (λ _ ten. never h ten);
      commit_refused = λ x. row_refuses (commit_rows d.stage d.terminals x) _ (λ _ _ ten. never h ten);
      noise_refused = λ t freq. row_refuses (noise_rows d.stage t) _ (λ _ ten. never h ten);
      reactances_refused = row_refuses (reactance_rows d.stage) _ (λ ten. never h ten);
    }

-- Without an accepted evaluation in a list on a fresh device, what needs one is refused on the device that the list leaves.
pub no_evaluation_refused : (calls : List Call) (d : Mosfet1) → Fresh d → last_evaluation calls d ≡ none → RefusedBeforeEvaluation (run calls d)
no_evaluation_refused calls d f h =
    refused_before_evaluation (run calls d) (subst (λ (last : LastEvaluation). HoldsLast last (run calls d)) h (device_holds_the_last_evaluation calls d f))

-- So an accepted load comes after an accepted evaluation.
pub load_after_an_evaluation : (calls : List Call) (d : Mosfet1) (kind : LoadKind) (P : Pattern) (rhs values : List Float) → Fresh d → accepted (loading kind P rhs values) (run calls d) ≡ true → (e : EvaluationMade) × (kept : Kept) × (last_evaluation calls d ≡ made e kept)
load_after_an_evaluation calls d kind P rhs values f a = go (last_evaluation calls d) refl
  where
    go : (last : LastEvaluation) → last_evaluation calls d ≡ last → (e : EvaluationMade) × (kept : Kept) × (last_evaluation calls d ≡ made e kept)
    go none h = absurd (false≢true (sym ((no_evaluation_refused calls d f h).load_refused kind P rhs values) ∙ a))
    go (made e kept) h = (e, kept, h)
