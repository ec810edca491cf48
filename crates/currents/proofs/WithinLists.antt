-- Demand 3 of a load anywhere in a list of calls: the calls before it are a list of calls.
use mathlib.Core.Path.{◌≡◌, sym, ap, ◌∙◌, subst}
use mathlib.Core.List.{List, [], ◌∷◌, ◌++◌}
use lib.Ieee.{Float}
use Rattle.device.specs.declared.Mosfet1.{Mosfet1}
use Rattle.assembly.specs.Assembly.{Pattern, add_cells, add_sources}
use Rattle.loading.specs.Loading.{Loaded, if_done, jacobian_contributions, rhs_contributions}
use Rattle.loading.specs.declared.LoadKind.{LoadKind}
use Rattle.device.specs.Refusals.{Outcome, done}
use Rattle.call_lists.specs.Calls.{loading, answer, loading_answer}
use Rattle.call_lists.specs.F64.{Every, none, next, IsF64}
use Rattle.currents.specs.Currents.{EveryLoadInAListHolds}
use Rattle.currents.proofs.Currents.{currents_return}

every_before : {A : Type 0} {P : A → Type 0} (xs ys : List A) → Every P (xs ++ ys) → Every P xs
every_before [] ys h = none
every_before (x ∷ xs) ys (next p h) = next p (every_before xs ys h)

-- an answer's parts
parts : (r s : Outcome Unit) (a b a' b' : List Float) → loading_answer r a b ≡ loading_answer s a' b' → (r ≡ s) × ((a ≡ a') × (b ≡ b'))
parts r s a b a' b' e = (cc, (cc, cc))

-- what an accepted load answers, as its contract has it
loaded : (d : Mosfet1) (kind : LoadKind) (P : Pattern) (rhs values rhs' values' : List Float) → answer (loading kind P rhs values) d ≡ loading_answer (done tt) rhs' values' → Loaded d kind P rhs values (done tt) rhs' values'
unfolding answer
loaded d kind P rhs values rhs' values' e =
    let p = parts _ (done tt) _ _ rhs' values' e in
    record {
      answer = sym p.0;
      side = sym p.1.0 ∙ ap (λ (r : Outcome Unit). if_done r (add_sources (rhs_contributions d kind) rhs) rhs) p.0;
      matrix = sym p.1.1 ∙ ap (λ (r : Outcome Unit). if_done r (add_cells P (jacobian_contributions d kind) values) values) p.0;
    }

pub every_load_in_a_list_holds : EveryLoadInAListHolds
every_load_in_a_list_holds d F calls fs prefix rest kind P rhs values rhs' values' split answered =
    currents_return d F prefix (every_before prefix _ (subst (Every IsF64) split fs)) kind P rhs values rhs' values' (loaded _ kind P rhs values rhs' values' answered)
