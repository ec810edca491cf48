-- Entries that get no contribution: +0 after the load of a bridge, unchanged after that of a block, and unchanged outside the block's run.
use Prim.Native.Nat.{ℕ, ◌+◌, ◌-◌, ◌≤◌, ◌<◌}
use mathlib.Core.Path.{◌≡◌, ◌∙◌, subst}
use mathlib.Core.Bool.{Bool, true, false}
use mathlib.Core.List.{List, ◌++◌}
use native.Mathlib.Omega.{arith}
use lib.ListN.{length, get_or, take, drop, length-append, length-drop, get_or-append}
use lib.Seq.{length-take-le, get_or-append-add, get_or-take, get_or-drop}
use lib.Ieee.{Float, nan}
use borrow.Author.Tests.{eqb-true}
use Rattle.pattern.specs.Pattern.{pairs_fit, well_formed, cell_of}
use Rattle.std.specs.Prelude.{Option, Some, None}
use Rattle.pattern.proofs.Places.{cell_within}
use Rattle.pattern.proofs.Rows.{and_left, pairs_of}
use Rattle.device.specs.Refusals.{done}
use Rattle.device.specs.declared.NodeId.TheVariants.{At}
use Rattle.device.specs.declared.Mosfet1.{Mosfet1}
use Rattle.assembly.specs.Assembly.{Pattern, Contribution, at, found_place, place_of}
use Rattle.loading.specs.declared.LoadKind.{LoadKind}
use Rattle.column_sums.specs.ColumnSums.{place_gets, entry_gets, OthersUnchanged, OtherCellsUnchanged}
use Rattle.column_sums.proofs.Entries.{other_places, other_entries_lem}
use Rattle.column_sums.proofs.Cells.{cells_unchanged}
use Rattle.bridge.specs.Bridge.{Slices, zeroed, bridge_of, bridge_slices, part_of, with_part, block_of, block_slices}
use Rattle.bridge_sums.specs.BridgeSums.{zero_slices, own_slices, all_cells, all_sources, AllAdded, OthersZero, OtherCellsZero, OtherRowsUnchanged, BridgeOthers, BlockOthers, OthersStayZero}
use Rattle.bridge_sums.proofs.Accepted.{length_zeroed, entry_zeroed, bridge_well, block_well, run_fits, length_part}
use Rattle.bridge_sums.proofs.EveryDevice.{every_contribution_is_added}

-- ---- both kinds of load, from any slices
module _ (ds : List Mosfet1) (k : LoadKind) (P : Pattern) (first last : Slices) (added : AllAdded ds k P first last) where
  same_places : OthersUnchanged (place_gets P (all_cells k ds)) first.matrix last.matrix
  same_places = rw added.matrix (other_places P (all_cells k ds) first.matrix)

  same_entries : OthersUnchanged (entry_gets (all_sources k ds)) first.side last.side
  same_entries = rw added.side (other_entries_lem (all_sources k ds) first.side)

  same_cells : pairs_fit P.columns 0 P.offsets P.lengths ≡ true → OtherCellsUnchanged P (all_cells k ds) first.matrix last.matrix
  same_cells fit = cells_unchanged P fit (all_cells k ds) first.matrix last.matrix same_places

-- ---- after the zeroing
zero_others : (gets : ℕ → Bool) (xs after : List Float) → OthersUnchanged gets (zeroed xs) after → OthersZero gets xs after
zero_others gets xs after u = record {
  same_length = u.same_length ∙ length_zeroed xs;
  zero = λ i h e. u.same_entry i e ∙ entry_zeroed xs i h;
}

-- the place of a cell lies inside the values of a well-formed pattern
found_at : (f : Option ℕ) (p : ℕ) → found_place f ≡ at p → f ≡ Some p
unfolding found_place
found_at (Some q) p e = cc
found_at None p e = let z : ◌≡◌ {A = ℕ} 0 1 = cc in absurd (omega arith)

place_inside : (P : Pattern) (count : ℕ) → well_formed P.columns P.offsets P.lengths count ≡ true → (r c p : ℕ) → place_of P (At r) (At c) ≡ at p → p < count
unfolding place_of well_formed
place_inside P count well r c p here =
    let inside = cell_within P.columns P.offsets P.lengths count well r c p (found_at (cell_of P.columns P.offsets P.lengths r c) p here) in
    let same = eqb-true count (length P.columns) (and_left _ (pairs_fit P.columns 0 P.offsets P.lengths) well) in
    omega arith

zero_cells : (P : Pattern) (cs : List Contribution) (values after : List Float) → well_formed P.columns P.offsets P.lengths (length values) ≡ true
    → OtherCellsUnchanged P cs (zeroed values) after → OtherCellsZero P cs after
zero_cells P cs values after well u = record {
  zero_cell = λ r c p here e. u.same_cell r c p here e ∙ entry_zeroed values p (place_inside P (length values) well r c p here);
}

-- ---- a list with another part
behind : (xs ys : List Float) (n i : ℕ) → length xs ≡ n → get_or (xs ++ ys) (n + i) nan ≡ get_or ys i nan
behind xs ys n i e = subst (λ (m : ℕ). get_or (xs ++ ys) (m + i) nan ≡ get_or ys i nan) e (get_or-append-add xs ys i nan)

module _ (start count : ℕ) (gets : ℕ → Bool) (xs part : List Float) (fits : start + count ≤ length xs) (sized : length part ≡ count) (same : OthersUnchanged gets (part_of start count xs) part) where
  front : length (take start xs) ≡ start
  front = length-take-le start xs (omega arith)

  rows_before : (i : ℕ) → i < start → get_or (with_part start count part xs) i nan ≡ get_or xs i nan
  rows_before i h = get_or-append (take start xs) (part ++ drop count (drop start xs)) nan i (omega (arith, front)) ∙ get_or-take start xs i nan h

  rows_inside : (i : ℕ) → i < count → gets i ≡ false → get_or (with_part start count part xs) (start + i) nan ≡ get_or xs (start + i) nan
  rows_inside i h e =
      behind (take start xs) (part ++ drop count (drop start xs)) start i front
      ∙ get_or-append part (drop count (drop start xs)) nan i (omega arith)
      ∙ same.same_entry i e
      ∙ get_or-take count (drop start xs) i nan h
      ∙ get_or-drop start xs i nan

  row_behind : (j : ℕ) → get_or (with_part start count part xs) (start + (count + j)) nan ≡ get_or xs (start + (count + j)) nan
  row_behind j =
      behind (take start xs) (part ++ drop count (drop start xs)) start (count + j) front
      ∙ behind part (drop count (drop start xs)) count j sized
      ∙ get_or-drop count (drop start xs) j nan
      ∙ get_or-drop start xs (count + j) nan

  rows_behind : (i : ℕ) → start + count ≤ i → get_or (with_part start count part xs) i nan ≡ get_or xs i nan
  rows_behind i h =
      let e : start + (count + (i - (start + count))) ≡ i = omega arith in
      subst (λ (n : ℕ). get_or (with_part start count part xs) n nan ≡ get_or xs n nan) e (row_behind (i - (start + count)))

  length_with : length (with_part start count part xs) ≡ length xs
  length_with = simp (length-append, length-drop) (omega (arith, front))

  other_rows : OtherRowsUnchanged start count gets xs (with_part start count part xs)
  other_rows = record {
    same_length = length_with;
    before_the_run = λ i h. rows_before i (omega arith);
    in_the_run = λ i h e. rows_inside i (omega arith) e;
    behind_the_run = λ i h. rows_behind i (omega arith);
  }

-- ---- the bridge and a block
bridge_others : (ds : List Mosfet1) (starts counts : List ℕ) (k : LoadKind) (P : Pattern) (rhs values : List Float)
    → bridge_of ds starts counts k P rhs values ≡ done tt → BridgeOthers ds k P rhs values (bridge_slices ds k P rhs values)
bridge_others ds starts counts k P rhs values e =
    let first = zero_slices rhs values in
    let last = bridge_slices ds k P rhs values in
    let added = every_contribution_is_added.of_a_bridge ds starts counts k P rhs values e in
    let well = bridge_well ds starts counts k P rhs values e in
    record {
      cells = zero_cells P (all_cells k ds) values last.matrix well (same_cells ds k P first last added (pairs_of _ _ _ (length values) well));
      places = zero_others _ values last.matrix (same_places ds k P first last added);
      entries = zero_others _ rhs last.side (same_entries ds k P first last added);
    }

block_others : (ds : List Mosfet1) (block : ℕ) (starts counts : List ℕ) (k : LoadKind) (P : Pattern) (rhs values : List Float)
    → block_of ds block starts counts k P rhs values ≡ done tt
    → BlockOthers ds (get_or starts block 0) (get_or counts block 0) k P rhs values (block_slices ds block starts counts k P rhs values)
block_others ds block starts counts k P rhs values e =
    let first = own_slices block starts counts rhs values in
    let last = block_slices ds block starts counts k P rhs values in
    let added = every_contribution_is_added.of_a_block ds block starts counts k P rhs values e in
    let own = same_entries ds k P first last added in
    record {
      cells = same_cells ds k P first last added (pairs_of _ _ _ (length values) (block_well ds block starts counts k P rhs values e));
      places = same_places ds k P first last added;
      entries = own;
      whole_side =
          other_rows (get_or starts block 0) (get_or counts block 0) (entry_gets (all_sources k ds)) rhs last.side
          (run_fits ds block starts counts k P rhs values e)
          (own.same_length ∙ length_part ds block starts counts k P rhs values e)
          own;
    }

pub others_stay_zero : OthersStayZero
others_stay_zero = record { of_a_bridge = bridge_others; of_a_block = block_others }
