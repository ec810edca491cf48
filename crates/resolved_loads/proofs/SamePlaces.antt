-- Contributions at the places that were looked up in a pattern: what is tested and what is added is as by the pattern itself.
use mathlib.Core.Path.{◌≡◌, refl, sym, ap, ◌∙◌}
use mathlib.Core.Bool.{Bool, true, false, cond, ◌&&◌, ◌||◌}
use mathlib.Core.List.{List, [], ◌∷◌, ◌++◌}
use Prim.Native.Nat.{ℕ, suc, ◌≤◌, ◌<◌}
use native.Mathlib.Nat.{suc_inj, suc-ne-zero}
use native.Mathlib.Omega.{arith}
use lib.ListN.{length}
use lib.Dec.{ltb}
use lib.Ieee.{Float, neg}
use borrow.Author.Tests.{lt-ltb, le-ltb}
use Rattle.pattern.specs.Pattern.{cell_of}
use Rattle.std.specs.Prelude.{Option, Some, None}
use Rattle.device.specs.declared.NodeId.{NodeId}
use Rattle.device.specs.declared.NodeId.TheVariants.{Ground, At}
use Rattle.stamps.specs.Stamps.{position}
use Rattle.stamps.specs.declared.Position.{Position}
use Rattle.stamps.specs.declared.ChargeBranch.{ChargeBranch}
use Rattle.places.specs.Places.{missing_number, place_number, number_of, numbers_of}
use Rattle.adding.proofs.Adding.{add_outside}
use Rattle.assembly.specs.Assembly.{Pattern, Contribution, at, found_place, place_of, add_place, add_cells, there, all_there, paired, conductance_pair, branch_cells}
use Rattle.assembly.proofs.Cells.{cells_append, there_append, length_cells}
use Rattle.resolved_rows.specs.LoadResolved.{grounded, stored_place, add_stored, all_stored, branch_places}
use Rattle.resolved_rows.proofs.Held.{stored_append, length_append}
use Rattle.load_resolved.proofs.Parts.{added_append}

-- every place that the pattern gives lies among n values
pub record Within (P : Pattern) (n : ℕ) : Type 0 where
  pub within : (r c p : ℕ) → cell_of P.columns P.offsets P.lengths r c ≡ Some p → p < n
  pub room : n ≤ missing_number

-- contributions and their places: as many of each, tested and added alike
pub record Same (P : Pattern) (n : ℕ) (cs : List Contribution) (ps : List ℕ) : Type 0 where
  pub matched : length cs ≡ length ps
  pub tested : all_stored n cs ps ≡ all_there P cs
  pub added : (xs : List Float) → length xs ≤ missing_number → add_stored cs ps xs ≡ add_cells P cs xs

module _ (P : Pattern) (n : ℕ) (h : Within P n) where
  found_tested : (r c : ℕ) (f : Option ℕ) → cell_of P.columns P.offsets P.lengths r c ≡ f → ltb (place_number (found_place f)) n ≡ there (found_place f)
  unfolding place_number found_place there
  found_tested r c (Some p) e = lt-ltb p n (h.within r c p e)
  found_tested r c None e = le-ltb missing_number n h.room

  one_tested : (r c : NodeId) → (grounded (position r c) || ltb (number_of P r c) n) ≡ there (place_of P r c)
  unfolding grounded place_of there
  one_tested Ground c = refl
  one_tested (At i) Ground = refl
  one_tested (At i) (At j) = found_tested i j (cell_of P.columns P.offsets P.lengths i j) refl

  found_added : (f : Option ℕ) (x : Float) (xs : List Float) → length xs ≤ missing_number → add_place (at (place_number (found_place f))) x xs ≡ add_place (found_place f) x xs
  unfolding place_number found_place add_place
  found_added (Some p) x xs room = refl
  found_added None x xs room = add_outside xs missing_number x room

  one_added : (r c : NodeId) (x : Float) (xs : List Float) → length xs ≤ missing_number → add_place (stored_place (position r c) (number_of P r c)) x xs ≡ add_place (place_of P r c) x xs
  unfolding stored_place grounded place_of
  one_added Ground c x xs room = refl
  one_added (At i) Ground x xs room = refl
  one_added (At i) (At j) x xs room = found_added (cell_of P.columns P.offsets P.lengths i j) x xs room

  list_matched : (cs : List Position) (vs : List Float) → length cs ≡ length vs → length (paired cs vs) ≡ length (numbers_of P cs)
  unfolding paired numbers_of
  list_matched [] vs e = refl
  list_matched (c ∷ cs) [] e = absurd (suc-ne-zero (length cs) e)
  list_matched (c ∷ cs) (v ∷ vs) e = ap suc (list_matched cs vs (suc_inj e))

  list_tested : (cs : List Position) (vs : List Float) → length cs ≡ length vs → all_stored n (paired cs vs) (numbers_of P cs) ≡ all_there P (paired cs vs)
  unfolding all_stored all_there paired numbers_of
  list_tested [] vs e = refl
  list_tested (c ∷ cs) [] e = absurd (suc-ne-zero (length cs) e)
  list_tested (c ∷ cs) (v ∷ vs) e =
      ap (λ (b : Bool). b && all_stored n (paired cs vs) (numbers_of P cs)) (one_tested c.row c.col)
      ∙ ap (λ (b : Bool). there (place_of P c.row c.col) && b) (list_tested cs vs (suc_inj e))

  list_added : (cs : List Position) (vs xs : List Float) → length cs ≡ length vs → length xs ≤ missing_number → add_stored (paired cs vs) (numbers_of P cs) xs ≡ add_cells P (paired cs vs) xs
  unfolding add_stored add_cells paired numbers_of
  list_added [] vs xs e room = refl
  list_added (c ∷ cs) [] xs e room = absurd (suc-ne-zero (length cs) e)
  list_added (c ∷ cs) (v ∷ vs) xs e room =
      ap (add_stored (paired cs vs) (numbers_of P cs)) (one_added c.row c.col v xs room)
      ∙ list_added cs vs (add_place (place_of P c.row c.col) v xs) (suc_inj e) (omega (arith, length_cells P (record { position = c; value = v } ∷ []) xs))

  pub list_same : (cs : List Position) (vs : List Float) → length cs ≡ length vs → Same P n (paired cs vs) (numbers_of P cs)
  list_same cs vs e = record { matched = list_matched cs vs e; tested = list_tested cs vs e; added = λ xs room. list_added cs vs xs e room }

  pub join : (cs ds : List Contribution) (ps qs : List ℕ) → Same P n cs ps → Same P n ds qs → Same P n (cs ++ ds) (ps ++ qs)
  join cs ds ps qs s t = record {
    matched = length_append cs ds ps qs s.matched t.matched;
    tested = stored_append n cs ds ps qs s.matched ∙ rw (s.tested, t.tested) (sym (there_append P cs ds));
    added = λ xs room.
        added_append cs ds ps qs xs s.matched ∙ ap (add_stored ds qs) (s.added xs room)
        ∙ t.added (add_cells P cs xs) (omega (arith, length_cells P cs xs)) ∙ sym (cells_append P cs ds xs);
  }

  -- the four cells of a branch, where it conducts
  abbrev four : NodeId → NodeId → List Position
  four a b = position a a ∷ position a b ∷ position b b ∷ position b a ∷ []

  by_conducts : (a b : NodeId) (g : Float) (c : Bool)
      → Same P n (cond c (conductance_pair a b g) []) (cond c (number_of P a a ∷ number_of P a b ∷ number_of P b b ∷ number_of P b a ∷ []) [])
  unfolding conductance_pair paired numbers_of all_stored all_there add_stored add_cells
  by_conducts a b g true = list_same (four a b) (g ∷ neg g ∷ g ∷ neg g ∷ []) refl
  by_conducts a b g false = record { matched = refl; tested = refl; added = λ xs room. refl }

  pub branch_same : (a b : NodeId) (br : ChargeBranch) → Same P n (branch_cells a b br) (branch_places br (number_of P a a) (number_of P a b) (number_of P b b) (number_of P b a))
  unfolding branch_cells branch_places
  branch_same a b br = by_conducts a b br.conductance br.conducts
