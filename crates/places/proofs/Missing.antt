-- Whether none of the places is missing is asked of each.
use Rattle.std.proofs.Common.{◌≡◌, not, ◌&&◌, eqb, List, [], ◌∷◌, refl, ap, ◌∙◌, sym, ℕ, Bool}
use Rattle.std.specs.List.{list_all}
use Rattle.places.specs.Places.{none_missing, missing_number}

pub asked_of_each : (ps : List ℕ) → list_all (λ (p : ℕ). not (eqb p missing_number)) ps ≡ none_missing ps
unfolding none_missing
asked_of_each [] = refl
asked_of_each (p ∷ ps) = ap (λ b. not (eqb p missing_number) && b) (asked_of_each ps)
