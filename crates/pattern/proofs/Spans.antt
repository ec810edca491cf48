-- The parts of rows, and guesses at places.
use Rattle.std.proofs.Common.{◌≡◌, ℕ, ◌+◌, ◌-◌, ◌%◌, ◌^◌, ◌<◌, ◌≤◌, Bool, true, false, cond, eqb, leb, List, length, get_or, refl, subst, arith, eq-eqb, ne_eqb, eqb-true, le-leb, leb-false, leb-true}
use lib.ListN.{get_or-eq_default}
use lib.Seq.{slice}
use borrow.Author.Tests.{lt-leb}
use Rattle.pattern.specs.Pattern.{rising, well_formed, place_in, cell_of, span_of, distance, place_behind, guess_of}
use Rattle.pattern.specs.declared.RowSpan.{RowSpan}
use Rattle.std.specs.Prelude.{Option, Some, None}
use Rattle.pattern.proofs.Rows.{Row, row_at, same_count, pairs_of, rise_none}
use Rattle.pattern.proofs.Places.{places_found}

-- a row's part of the columns: it lies within them, and they rise in it
pub record Part (columns : List ℕ) (from len : ℕ) : Type 0 where
  pub within : from + len ≤ length columns
  pub rises : rising (slice from (from + len) columns) ≡ true

module _ (columns os ns : List ℕ) (well : well_formed columns os ns (length columns) ≡ true) (row : ℕ) where
  pub counts : length os ≡ length ns
  counts = same_count columns 0 os ns (pairs_of columns os ns (length columns) well)

  pub row_known : row < length os → Row columns os ns row
  row_known h = row_at columns 0 os ns (pairs_of columns os ns (length columns) well) row h

  -- a row behind the last has an empty part
  pub span_outside : length os ≤ row → record { from = 0; len = 0; first = 0 } ≡ span_of columns os ns row
  unfolding span_of
  span_outside h = simp (get_or-eq_default os 0 h, get_or-eq_default ns 0 (subst (λ (n : ℕ). n ≤ row) counts h))

  inside_or_outside : (b : Bool) → leb (length os) row ≡ b → Part columns (span_of columns os ns row).from (span_of columns os ns row).len
  unfolding span_of
  inside_or_outside true e =
      let h : length os ≤ row = leb-true _ _ e in
      let k : length ns ≤ row = subst (λ (n : ℕ). n ≤ row) counts h in
      rw (get_or-eq_default os 0 h, get_or-eq_default ns 0 k) (record { within = omega arith; rises = rise_none columns 0 0 refl })
  inside_or_outside false e =
      let r = row_known (leb-false _ _ e) in
      record { within = r.within; rises = r.rises }

  -- what is known of every row's part
  pub part_known : (span : RowSpan) → span ≡ span_of columns os ns row → Part columns span.from span.len
  part_known span e = rw (e) (inside_or_outside (leb (length os) row) refl)

-- a row that is not empty, and one that is
pub span_some : (columns os ns : List ℕ) (row first : ℕ) → (get_or ns row 0 ≡ 0 → ⊥) → first ≡ get_or columns (get_or os row 0) 0
    → record { from = get_or os row 0; len = get_or ns row 0; first = first } ≡ span_of columns os ns row
unfolding span_of
span_some columns os ns row first h e = simp (e, ne_eqb (get_or ns row 0) 0 h)

pub span_empty : (columns os ns : List ℕ) (row : ℕ) → get_or ns row 0 ≡ 0 → record { from = get_or os row 0; len = get_or ns row 0; first = 0 } ≡ span_of columns os ns row
unfolding span_of
span_empty columns os ns row h = simp (eq-eqb (get_or ns row 0) 0 h)

-- the difference of two numbers of 64 bits is the distance
module _ (first column r : ℕ) (f : first < 2 ^ 64) (c : column < 2 ^ 64) (fits : r < 2 ^ 64) (e : (r + first) % 2 ^ 64 ≡ column) where
  by_order : (b : Bool) → leb first column ≡ b → r ≡ cond b (column - first) (column + (2 ^ 64 - first))
  by_order true h = omega (arith, leb-true first column h)
  by_order false h = omega (arith, leb-false first column h)

  pub distance_is : r ≡ distance first column
  unfolding distance
  distance_is = by_order (leb first column) refl

-- the three outcomes of a guess
module _ (columns : List ℕ) (from len first column n : ℕ) (e : n ≡ distance first column) where
  pub guess_outside : len ≤ n → None ≡ guess_of columns from len first column
  unfolding guess_of place_behind
  guess_outside h = rw (← e) (simp (le-leb len n h))

  pub guess_here : n < len → get_or columns (from + n) 0 ≡ column → Some (from + n) ≡ guess_of columns from len first column
  unfolding guess_of place_behind
  guess_here h k = rw (← e) (simp (lt-leb len n h, eq-eqb _ _ k))

  pub guess_elsewhere : n < len → (get_or columns (from + n) 0 ≡ column → ⊥) → None ≡ guess_of columns from len first column
  unfolding guess_of place_behind
  guess_elsewhere h k = rw (← e) (simp (lt-leb len n h, ne_eqb _ _ k))

-- a guess that names a place is right: the column stands there, in the row, and nowhere else in it
pub record Guessed (columns : List ℕ) (from len column p : ℕ) : Type 0 where
  pub right : place_in from (slice from (from + len) columns) column ≡ Some p
  pub here : get_or columns p 0 ≡ column
  pub some : 0 < len

module _ (columns : List ℕ) (from len column n p : ℕ) (within : from + len ≤ length columns) (rises : rising (slice from (from + len) columns) ≡ true) where
  stands_there : n < len → get_or columns (from + n) 0 ≡ column → from + n ≡ p → Guessed columns from len column p
  stands_there h e k = record {
    right =
        rw (← e, ← k) (places_found columns from (from + len) within rises (from + n) (omega arith) (omega arith));
    here = rw (← k) e;
    some = omega arith;
  }

  by_tests : (b d : Bool) → leb len n ≡ b → eqb (get_or columns (from + n) 0) column ≡ d → cond b None (cond d (Some (from + n)) None) ≡ Some p → Guessed columns from len column p
  by_tests true d h k q = let z : ◌≡◌ {A = ℕ} 0 1 = cc in absurd (omega arith)
  by_tests false true h k q = stands_there (leb-false len n h) (eqb-true _ _ k) (cc)
  by_tests false false h k q = let z : ◌≡◌ {A = ℕ} 0 1 = cc in absurd (omega arith)

pub guess_right : (columns : List ℕ) (from len first column p : ℕ) → from + len ≤ length columns → rising (slice from (from + len) columns) ≡ true
    → guess_of columns from len first column ≡ Some p → Guessed columns from len column p
unfolding guess_of place_behind
guess_right columns from len first column p within rises q = by_tests columns from len column (distance first column) p within rises _ _ refl refl q

-- a cell's place is the column's place in the row's part
pub cell_in_span : (columns os ns : List ℕ) (row column : ℕ) (span : RowSpan) → span ≡ span_of columns os ns row
    → place_in span.from (slice span.from (span.from + span.len) columns) column ≡ cell_of columns os ns row column
unfolding cell_of span_of
cell_in_span columns os ns row column span e = rw (e)
