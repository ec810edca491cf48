-- The outcomes of an assembly, from what its parts answered.
use mathlib.Core.Path.{◌≡◌, refl, sym, ◌∙◌}
use mathlib.Core.Bool.{Bool, true, false, cond, ◌&&◌}
use mathlib.Core.List.{List}
use Prim.Native.Nat.{ℕ, ◌≤◌}
use lib.ListN.{length}
use lib.Ieee.{Float}
use Rattle.pattern.specs.Pattern.{well_formed}
use Rattle.device.specs.declared.Terminals.{Terminals}
use Rattle.stamps.specs.declared.ChargeBranches.{ChargeBranches}
use Rattle.assembly.specs.Assembly.{Pattern, Contribution, Source, add_cells, all_there, add_sources, matrix_contributions, Assembled}
use Rattle.std.specs.Prelude.{Option, Some, None}
use Rattle.places.specs.Places.{missing_number, none_missing, branches_there}
use Rattle.places.specs.LookedUp.{cells_of, looked_up}
use Rattle.places.specs.declared.Cells.{Cells}
use Rattle.adding.specs.Adding.{add_all, add_branches}
use Rattle.assembly.proofs.Cells.{well_small, all_added, all_found}

module _ (P : Pattern) (cs : List Contribution) (ss : List Source) (values rhs : List Float) where
  pub refused : all_there P cs ≡ false → Assembled P cs ss values rhs false values rhs
  refused e = record { answer = sym e; matrix = rw e; side = rw e }

  pub accepted : all_there P cs ≡ true → (values' rhs' : List Float) → values' ≡ add_cells P cs values → rhs' ≡ add_sources ss rhs
      → Assembled P cs ss values rhs true values' rhs'
  accepted e values' rhs' m r = record { answer = sym e; matrix = rw e m; side = rw e r }

-- from what was looked up
module _ (P : Pattern) (t : Terminals) (b : ChargeBranches) (jacobian : List Float) where
  found : Bool
  found = none_missing (cells_of P t b).places && branches_there (cells_of P t b).places (cells_of P t b).gate b

  there_is : well_formed P.columns P.offsets P.lengths (length P.columns) ≡ true → length P.columns ≤ missing_number → length jacobian ≡ 24
      → found ≡ all_there P (matrix_contributions t jacobian b)
  unfolding found cells_of
  there_is well room len = all_found P t b (well_small P well room) jacobian len

  by_cases : (e : Bool) → found ≡ e → looked_up P t b ≡ cond e (Some (cells_of P t b)) None
  unfolding looked_up found
  by_cases e h = rw h

  none_found : (e : Bool) → found ≡ e → looked_up P t b ≡ None → e ≡ false
  none_found true h n = let z = sym (by_cases true h) ∙ n in cc
  none_found false h n = refl

  some_found : (e : Bool) (c : Cells) → found ≡ e → looked_up P t b ≡ Some c → (e ≡ true) × (c ≡ cells_of P t b)
  some_found true c h n = let z = sym (by_cases true h) ∙ n in (refl, cc)
  some_found false c h n = let z = sym (by_cases false h) ∙ n in absurd (cc)

  module _ (well : well_formed P.columns P.offsets P.lengths (length P.columns) ≡ true) (room : length P.columns ≤ missing_number) (len : length jacobian ≡ 24) where
    pub not_there : looked_up P t b ≡ None → all_there P (matrix_contributions t jacobian b) ≡ false
    not_there n = sym (there_is well room len) ∙ none_found found refl n

    pub are_there : (c : Cells) → looked_up P t b ≡ Some c → all_there P (matrix_contributions t jacobian b) ≡ true
    are_there c n = sym (there_is well room len) ∙ (some_found found c refl n).0

  pub looked_added : (c : Cells) → looked_up P t b ≡ Some c → (values : List Float) → length values ≤ missing_number
      → add_branches c.places c.gate b (add_all values c.places jacobian) ≡ add_cells P (matrix_contributions t jacobian b) values
  unfolding cells_of
  looked_added c n values room = rw ((some_found found c refl n).1) (all_added P t b jacobian values room)
