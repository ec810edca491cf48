-- The pattern is well formed, and every cell of the list is found in it.
use mathlib.Core.Path.{◌≡◌, refl, sym, ap, ◌∙◌, subst}
use mathlib.Core.Bool.{Bool, true, false}
use mathlib.Core.List.{List}
use Prim.Native.Nat.{ℕ, zero, suc, ◌+◌, ◌-◌, ◌/◌, ◌%◌, ◌≤◌, ◌<◌}
use native.Mathlib.Nat.{zero-add}
use native.Mathlib.Numerals.{add-one}
use native.Mathlib.Omega.{arith}
use lib.ListN.{length, get_or}
use lib.Seq.{slice}
use lib.Dec.{leb, ltb}
use borrow.Author.Tests.{le-leb, eq-eqb, ltb-true, ltb-false}
use Rattle.pattern.specs.Pattern.{rising_after, rising, pairs_fit, well_formed, place_in, cell_of}
use Rattle.std.specs.Prelude.{Some}
use Rattle.pattern.proofs.Rows.{rise_start, rise_more, rise_end, rise_none}
use Rattle.pattern.proofs.Places.{places_found}
use Rattle.cells.specs.Cells.{row_width, cell_number}
use Rattle.cells.proofs.Members.{Stands}
use Rattle.cell_pattern.specs.CellPattern.{columns_in, count_in, lengths_in, running_offsets}
use Rattle.cell_pattern.specs.Steps.{count_before}
use Rattle.cell_pattern.proofs.Counts.{next_above, before_length, is_before, was_before, past, row_more, before_none, length_columns, column_at, offset_at, length_at}

-- a part that rises by each step rises
module _ (xs : List ℕ) (f t : ℕ) (inside : t ≤ length xs) (steps : (i : ℕ) → f ≤ i → suc i < t → get_or xs i 0 < get_or xs (suc i) 0) where
  rest_rises : (d i : ℕ) → f ≤ i → i + d + 1 ≡ t → rising_after (get_or xs i 0) (slice (i + 1) t xs) ≡ true
  rest_rises zero i h e = rise_end xs (get_or xs i 0) (i + 1) t (omega arith)
  rest_rises (suc d) i h e =
      let s = steps i h (omega arith) in
      rise_more xs t inside (get_or xs i 0) (i + 1) (omega arith) (rw (add-one) s)
      ∙ rest_rises d (i + 1) (omega arith) (omega arith)

  pub part_rises : f ≤ t → rising (slice f t xs) ≡ true
  part_rises h = go (ltb f t) refl
    where
      go : (b : Bool) → ltb f t ≡ b → rising (slice f t xs) ≡ true
      go true q = let l = ltb-true f t q in sym (rise_start xs t inside f l) ∙ rest_rises (t - f - 1) f (omega arith) (omega arith)
      go false q = let l = ltb-false f t q in rise_none xs f t (omega arith)

same_row : (r a b : ℕ) → a < b → a / row_width < suc r → b / row_width < suc r → r ≤ a / row_width → a % row_width < b % row_width
same_row r a b h k l m = omega arith

module _ (ks : List ℕ) (rises : rising ks ≡ true) where
  -- the cells of row r
  not_before : (r i : ℕ) → count_before r ks ≤ i → i < length ks → r ≤ get_or ks i 0 / row_width
  not_before r i h l = go (ltb (get_or ks i 0 / row_width) r) refl
    where
      go : (b : Bool) → ltb (get_or ks i 0 / row_width) r ≡ b → r ≤ get_or ks i 0 / row_width
      go true q = absurd (let m = is_before r ks rises i l (ltb-true _ r q) in omega arith)
      go false q = ltb-false _ r q

  row_step : (r i : ℕ) → count_before r ks ≤ i → suc i < count_before (suc r) ks → get_or (columns_in ks) i 0 < get_or (columns_in ks) (suc i) 0
  row_step r i h l =
      let n = before_length (suc r) ks in
      rw (column_at ks i (omega arith), column_at ks (suc i) (omega arith))
      (same_row r (get_or ks i 0) (get_or ks (suc i) 0) (next_above ks rises i (omega arith))
      (was_before (suc r) ks rises i (omega arith)) (was_before (suc r) ks rises (suc i) l) (not_before r i h (omega arith)))

  room : (r : ℕ) → count_before (suc r) ks ≤ length (columns_in ks)
  room r = omega (arith, before_length (suc r) ks, length_columns ks)

  pub row_rises : (r : ℕ) → rising (slice (count_before r ks) (count_before (suc r) ks) (columns_in ks)) ≡ true
  row_rises r = part_rises (columns_in ks) (count_before r ks) (count_before (suc r) ks) (room r) (λ i h l. row_step r i h l) (omega (arith, row_more r ks))

  pairs : (at r n : ℕ) → at ≡ count_before r ks → pairs_fit (columns_in ks) at (running_offsets at (lengths_in ks r n)) (lengths_in ks r n) ≡ true
  unfolding pairs_fit running_offsets lengths_in
  pairs at r zero e = refl
  pairs at r (suc n) e =
      let next : at + count_in r ks ≡ count_before (suc r) ks = omega (arith, row_more r ks) in
      let rises : rising (slice at (at + count_in r ks) (columns_in ks)) ≡ true = (rw (next, e) (row_rises r)) in
      let inside : leb (at + count_in r ks) (length (columns_in ks)) ≡ true = le-leb (at + count_in r ks) (length (columns_in ks)) (let l = room r in omega arith) in
      simp (le-leb at at (omega arith), inside, rises)
      (pairs (at + count_in r ks) (suc r) n next)

  -- row 12 does not apply, with as many values as columns
  pub well_formed_lem : (n : ℕ) → well_formed (columns_in ks) (running_offsets 0 (lengths_in ks 0 n)) (lengths_in ks 0 n) (length (columns_in ks)) ≡ true
  unfolding well_formed
  well_formed_lem n =
      simp (eq-eqb (length (columns_in ks)) (length (columns_in ks)) refl)
      (pairs 0 0 n (sym (before_none ks)))

  -- a cell of the list, in a row that there is, is found at its place in the list
  number_row : (r c : ℕ) → c < row_width → cell_number r c / row_width ≡ r
  number_row r c h = omega arith

  number_column : (r c : ℕ) → c < row_width → cell_number r c % row_width ≡ c
  number_column r c h = omega arith

  pub found : (n r c : ℕ) → r < n → c < row_width → (s : Stands (cell_number r c) ks) → cell_of (columns_in ks) (running_offsets 0 (lengths_in ks 0 n)) (lengths_in ks 0 n) r c ≡ Some s.place
  unfolding cell_of
  found n r c h k s =
      let row : get_or ks s.place 0 / row_width ≡ r = ap (λ (x : ℕ). x / row_width) s.is ∙ number_row r c k in
      let column : get_or (columns_in ks) s.place 0 ≡ c = column_at ks s.place s.inside ∙ ap (λ (x : ℕ). x % row_width) s.is ∙ number_column r c k in
      let from : count_before r ks ≤ s.place = past r ks rises s.place (omega arith) in
      let to : s.place < count_before (suc r) ks = is_before (suc r) ks rises s.place s.inside (omega arith) in
      rw (offset_at ks n r h, length_at ks 0 n r h, zero-add r, ← row_more r ks)
      (subst (λ (x : ℕ). place_in (count_before r ks) (slice (count_before r ks) (count_before (suc r) ks) (columns_in ks)) x ≡ Some s.place) column
      (places_found (columns_in ks) (count_before r ks) (count_before (suc r) ks) (room r) (row_rises r) s.place from to))
