-- What every load leaves, accepted or refused, for every device, kind of load, pattern and lent slices.
use mathlib.Core.Path.{◌≡◌, refl, sym}
use mathlib.Core.Bool.{Bool, true}
use mathlib.Core.List.{List}
use Prim.Native.Nat.{ℕ}
use borrow.Author.Tests.{not-false}
use lib.ListN.{length}
use lib.Ieee.{Float}
use Rattle.pattern.specs.Pattern.{well_formed}
use Rattle.pattern.proofs.Rows.{pairs_of}
use Rattle.device.specs.Refusals.{Outcome, done, refused}
use Rattle.device.specs.declared.Mosfet1.{Mosfet1}
use Rattle.device.proofs.Rows.{passed}
use Rattle.assembly.specs.Assembly.{Pattern, add_cells}
use Rattle.loading.specs.declared.LoadKind.{LoadKind}
use Rattle.loading.specs.Loading.{jacobian_contributions, rhs_contributions, load_rows, load_of, if_done, Loaded}
use Rattle.column_sums.specs.ColumnSums.{place_gets, entry_gets, OthersUnchanged, OtherCellsUnchanged, LoadCancels}
use Rattle.column_sums.proofs.Contributions.{columns_cancel, sources_cancel}
use Rattle.column_sums.proofs.Entries.{unchanged, other_places, other_entries_lem}
use Rattle.column_sums.proofs.Cells.{cells_unchanged}

-- a refused load leaves every entry
either_way : (gets : ℕ → Bool) (r : Outcome Unit) (before after : List Float) → OthersUnchanged gets before after → OthersUnchanged gets before (if_done r after before)
unfolding if_done
either_way gets (done v) before after u = u
either_way gets (refused n) before after u = unchanged gets before

-- the pattern of an accepted load is well formed
accepted_well : (d : Mosfet1) (k : LoadKind) (P : Pattern) (rhs values : List Float) (u : Unit) → load_of d k P rhs values ≡ done u → well_formed P.columns P.offsets P.lengths (length values) ≡ true
unfolding load_of
accepted_well d k P rhs values u e = not-false _ (passed (load_rows d k P rhs values) e).0.1.1.1.0

pub refused_load_changes_nothing : (d : Mosfet1) (k : LoadKind) (P : Pattern) (rhs values : List Float) (row : ℕ) (rhs' values' : List Float)
    → Loaded d k P rhs values (refused row) rhs' values' → (rhs' ≡ rhs) × (values' ≡ values)
unfolding if_done
refused_load_changes_nothing d k P rhs values row rhs' values' l = (l.side, l.matrix)

module _ (d : Mosfet1) (k : LoadKind) (P : Pattern) (rhs values : List Float) (r : Outcome Unit) (rhs' values' : List Float) (l : Loaded d k P rhs values r rhs' values') where
  pub other_places_unchanged : OthersUnchanged (place_gets P (jacobian_contributions d k)) values values'
  other_places_unchanged = rw l.matrix (either_way _ r values _ (other_places P (jacobian_contributions d k) values))

  pub other_cells_unchanged : OtherCellsUnchanged P (jacobian_contributions d k) values values'
  unfolding if_done
  other_cells_unchanged = go r l.answer l.matrix
    where
      go : (a : Outcome Unit) → a ≡ load_of d k P rhs values → values' ≡ if_done a (add_cells P (jacobian_contributions d k) values) values → OtherCellsUnchanged P (jacobian_contributions d k) values values'
      go (done u) e m = cells_unchanged P (pairs_of _ _ _ (length values) (accepted_well d k P rhs values u (sym e))) (jacobian_contributions d k) values values' other_places_unchanged
      go (refused n) e m = rw m (record { same_cell = λ r c p here f. refl })

  pub other_entries_unchanged : OthersUnchanged (entry_gets (rhs_contributions d k)) rhs rhs'
  other_entries_unchanged = rw l.side (either_way _ r rhs _ (other_entries_lem (rhs_contributions d k) rhs))

  pub every_load_cancels : LoadCancels d k P rhs values rhs' values'
  every_load_cancels = record {
    columns = columns_cancel d k;
    right_hand_side = sources_cancel d k;
    other_cells = other_cells_unchanged;
    other_places = other_places_unchanged;
    other_entries = other_entries_unchanged;
  }
