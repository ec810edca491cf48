-- Devices to which no row of a load applies, loaded in their order on slices of the lengths that were tested: each load is accepted, since
-- the rows of a load depend on the slices by their lengths alone, and a load keeps the lengths.
use Prim.Native.Nat.{ℕ}
use mathlib.Core.Path.{◌≡◌, refl, sym, ap, ◌∙◌, subst}
use mathlib.Core.Bool.{Bool, false}
use mathlib.Core.List.{List, [], ◌∷◌, ◌++◌}
use lib.ListN.{length}
use Rattle.device.specs.Refusals.{Outcome, done, refused}
use Rattle.device.specs.declared.Mosfet1.{Mosfet1}
use Rattle.device.proofs.Rows.{NoneOf, none_applies}
use Rattle.adding.proofs.Adding.{sources_append}
use Rattle.assembly.specs.Assembly.{Pattern, add_cells, add_sources}
use Rattle.assembly.proofs.Cells.{cells_append}
use Rattle.loading.specs.Loading.{jacobian_contributions, rhs_contributions, load_rows, load_of, if_done}
use Rattle.loading.specs.declared.LoadKind.{LoadKind}
use Rattle.column_sums.proofs.Entries.{or_left, or_right}
use Rattle.column_sums.proofs.EveryLoad.{other_places_unchanged, other_entries_unchanged}
use Rattle.bridge.specs.Runs.{any_of}
use Rattle.bridge.specs.Bridge.{devices_rows, Slices, load_one, load_in_order}
use Rattle.bridge_sums.specs.BridgeSums.{LoadedAlone, EachLoaded, all_cells, all_sources, AllAdded}

-- where a condition holds of none, it does not hold of the first, nor of one behind it
module _ {A : Type 0} (p : A → Bool) (x : A) (xs : List A) (none : any_of p (x ∷ xs) ≡ false) where
  pub not_first : p x ≡ false
  unfolding any_of
  not_first = or_left (p x) (any_of p xs) none

  pub not_behind : any_of p xs ≡ false
  unfolding any_of
  not_behind = or_right (p x) (any_of p xs) none

module _ (k : LoadKind) (P : Pattern) (rows count : ℕ) where
  -- no row applies to any of the devices, on slices of so many rows and so many values
  abbrev pub NoRow : List Mosfet1 → Type 0
  NoRow ds = NoneOf (devices_rows ds k P rows count)

  -- the slices have the lengths that were tested
  record Sized (s : Slices) : Type 0 where
    side_length : length s.side ≡ rows
    matrix_length : length s.matrix ≡ count

  -- then none applies to those behind the first, nor to the first alone
  rest_passes : (d : Mosfet1) (ds : List Mosfet1) → NoRow (d ∷ ds) → NoRow ds
  rest_passes d ds h =
      (not_behind _ d ds h.0, (not_behind _ d ds h.1.0, (not_behind _ d ds h.1.1.0, (h.1.1.1.0, (not_behind _ d ds h.1.1.1.1.0, tt)))))

  first_passes : (d : Mosfet1) (ds : List Mosfet1) → NoRow (d ∷ ds) → (s : Slices) → Sized s → NoneOf (load_rows d k P s.side s.matrix)
  first_passes d ds h s z =
      rw (z.side_length, z.matrix_length)
      (not_first _ d ds h.0, (not_first _ d ds h.1.0, (not_first _ d ds h.1.1.0, (h.1.1.1.0, (not_first _ d ds h.1.1.1.1.0, tt)))))

  -- the first load is accepted and leaves what `load_one` says
  first_loaded : (d : Mosfet1) (ds : List Mosfet1) → NoRow (d ∷ ds) → (s : Slices) → Sized s → LoadedAlone d k P s (load_one k P d s)
  unfolding load_of load_one
  first_loaded d ds h s z =
      let e : load_of d k P s.side s.matrix ≡ done tt = none_applies (load_rows d k P s.side s.matrix) refused (done tt) (first_passes d ds h s z) in
      record {
        answer = sym e;
        side = ap (λ (r : Outcome Unit). if_done r (add_sources (rhs_contributions d k) s.side) s.side) e;
        matrix = ap (λ (r : Outcome Unit). if_done r (add_cells P (jacobian_contributions d k) s.matrix) s.matrix) e;
      }

  -- a load keeps the lengths, so the devices behind it are tested alike
  still_sized : (d : Mosfet1) (s s' : Slices) → LoadedAlone d k P s s' → Sized s → Sized s'
  still_sized d s s' l z = record {
    side_length = (other_entries_unchanged d k P s.side s.matrix (done tt) s'.side s'.matrix l).same_length ∙ z.side_length;
    matrix_length = (other_places_unchanged d k P s.side s.matrix (done tt) s'.side s'.matrix l).same_length ∙ z.matrix_length;
  }

  -- each load in turn
  loaded_behind : (before : List Mosfet1) (d : Mosfet1) (after : List Mosfet1) → NoRow (before ++ (d ∷ after)) → (s : Slices) → Sized s
      → LoadedAlone d k P (load_in_order k P before s) (load_one k P d (load_in_order k P before s))
  unfolding load_in_order
  loaded_behind [] d after h s z = first_loaded d after h s z
  loaded_behind (b ∷ before) d after h s z =
      loaded_behind before d after (rest_passes b _ h) (load_one k P b s) (still_sized b s (load_one k P b s) (first_loaded b _ h s z) z)

  -- what is added in turn is added as one list
  added_behind : (ds : List Mosfet1) → NoRow ds → (s : Slices) → Sized s → AllAdded ds k P s (load_in_order k P ds s)
  unfolding load_in_order all_cells all_sources if_done add_cells add_sources
  added_behind [] h s z = record { side = refl; matrix = refl }
  added_behind (d ∷ ds) h s z =
      let l = first_loaded d ds h s z in
      let a = added_behind ds (rest_passes d ds h) (load_one k P d s) (still_sized d s (load_one k P d s) l z) in
      record {
        side = a.side ∙ ap (add_sources (all_sources k ds)) l.side ∙ sym (sources_append (rhs_contributions d k) (all_sources k ds) s.side);
        matrix = a.matrix ∙ ap (add_cells P (all_cells k ds)) l.matrix ∙ sym (cells_append P (jacobian_contributions d k) (all_cells k ds) s.matrix);
      }

-- THE LAW of both kinds of load, from any slices of the lengths tested
module _ (ds : List Mosfet1) (k : LoadKind) (P : Pattern) (first : Slices) (passed : NoRow k P (length first.side) (length first.matrix) ds) where
  pub each_loaded : EachLoaded ds k P first
  each_loaded = record {
    each = λ before d after split.
        loaded_behind k P (length first.side) (length first.matrix) before d after (subst (NoRow k P (length first.side) (length first.matrix)) split passed) first
        (record { side_length = refl; matrix_length = refl });
  }

  pub all_added : AllAdded ds k P first (load_in_order k P ds first)
  all_added = added_behind k P (length first.side) (length first.matrix) ds passed first (record { side_length = refl; matrix_length = refl })
