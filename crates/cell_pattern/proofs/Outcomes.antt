-- The test of the three lengths, and what follows from it.
use mathlib.Core.Path.{◌≡◌, refl, sym, ap, ◌∙◌, subst}
use mathlib.Core.Bool.{Bool, true, false, ◌&&◌}
use mathlib.Core.List.{List}
use native.Mathlib.Omega.{arith}
use Prim.Native.Nat.{ℕ, ◌≤◌, ◌<◌}
use lib.ListN.{length, take, drop, replicate, length-append}
use lib.Seq.{take-append_seam, take_at}
use lib.Dec.{leb}
use Rattle.std.proofs.Common.{max, cond, ltb}
use borrow.Author.Tests.{leb-true, ltb-true, ltb-false}
use Rattle.pattern.proofs.Rows.{and_left, and_right}
use Rattle.device.specs.Nodes.{node_beyond}
use Rattle.device.specs.declared.NodeId.{NodeId}
use Rattle.device.specs.declared.NodeId.TheVariants.{At}
use Rattle.device.specs.declared.Terminals.{Terminals}
use Rattle.cells.specs.Cells.{row_width, cells_of, Listed}
use Rattle.cells.proofs.Indices.{below}
use Rattle.cell_pattern.specs.CellPattern.{have_room, larger_of, row_count, pattern_in, pattern_of, columns_in, lengths_in, running_offsets, over, LaidOut}
use Rattle.cell_pattern.proofs.Counts.{length_columns, length_offsets, length_lengths}

larger_by : (x y : ℕ) (b : Bool) → ltb x y ≡ b → max x y ≡ cond b y x
larger_by x y true e = omega (arith, ltb-true x y e)
larger_by x y false e = omega (arith, ltb-false x y e)

-- the larger of two numbers by one test
pub larger_is : (x y m : ℕ) → m ≡ max x y → m ≡ larger_of x y
unfolding larger_of
larger_is x y m e = e ∙ larger_by x y (ltb x y) refl

module _ (cells rows columns offsets lengths : ℕ) where
  pub record Room : Type 0 where
    pub for_columns : cells ≤ columns
    pub for_offsets : rows ≤ offsets
    pub for_lengths : rows ≤ lengths

  pub room : have_room cells rows columns offsets lengths ≡ true → Room
  unfolding have_room
  room e =
      let f = and_left (leb cells columns && leb rows offsets) (leb rows lengths) e in
      record {
        for_columns = leb-true cells columns (and_left _ (leb rows offsets) f);
        for_offsets = leb-true rows offsets (and_right (leb cells columns) _ f);
        for_lengths = leb-true rows lengths (and_right (leb cells columns && leb rows offsets) _ e);
      }

-- the outcome, by the test's answer
module _ (ks : List ℕ) (rows : ℕ) (cs os ls : List ℕ) (b : Bool) (e : b ≡ have_room (length ks) rows (length cs) (length os) (length ls)) where
  test : have_room (length (pattern_in ks rows).columns) (length (pattern_in ks rows).offsets) (length cs) (length os) (length ls) ≡ b
  unfolding pattern_in
  test = rw (length_columns ks, length_offsets ks rows) (sym e)

  pub laid : b ≡ true → (cs' os' ls' : List ℕ) → cs' ≡ over (columns_in ks) cs → os' ≡ over (running_offsets 0 (lengths_in ks 0 rows)) os → ls' ≡ over (lengths_in ks 0 rows) ls
      → LaidOut (pattern_in ks rows) cs os ls cs' os' ls'
  unfolding pattern_in
  laid t cs' os' ls' c o l = record {
    columns_are = rw (test, t) c;
    offsets_are = rw (test, t) o;
    lengths_are = rw (test, t) l;
  }

  pub kept : b ≡ false → LaidOut (pattern_in ks rows) cs os ls cs os ls
  kept t = record {
    columns_are = rw (test, t);
    offsets_are = rw (test, t);
    lengths_are = rw (test, t);
  }

pub below_width : (n : NodeId) (i : ℕ) → n ≡ At i → node_beyond row_width n ≡ false → i < row_width
below_width n i e h = below row_width i (subst (λ (m : NodeId). node_beyond row_width m ≡ false) e h)

-- the list that an array holds in front of ones
module _ {xs numbers : List ℕ} {count : ℕ} (l : Listed xs numbers count) where
  pub first_are : take count numbers ≡ xs
  first_are = ap (take count) l.whole ∙ take_at xs (drop (length xs) (replicate 44 1)) count (sym l.counted)

  pub count_room : length numbers ≡ 44 → count ≤ 44
  count_room h = omega (arith, l.counted, sym h ∙ ap length l.whole ∙ length-append xs (drop (length xs) (replicate 44 1)))

pub same_pattern : (t : Terminals) (ks : List ℕ) (rows : ℕ) → ks ≡ cells_of t → rows ≡ row_count t → pattern_in ks rows ≡ pattern_of t
unfolding pattern_of
same_pattern t ks rows e f = rw (e, f)

module _ (t : Terminals) where
  pub pattern_columns : length (pattern_of t).columns ≡ length (cells_of t)
  unfolding pattern_of pattern_in
  pattern_columns = length_columns (cells_of t)

  pub pattern_rows : length (pattern_of t).offsets ≡ row_count t
  unfolding pattern_of pattern_in
  pattern_rows = length_offsets (cells_of t) (row_count t)

  pub pattern_row_lengths : length (pattern_of t).lengths ≡ row_count t
  unfolding pattern_of pattern_in
  pattern_row_lengths = length_lengths (cells_of t) 0 (row_count t)

-- the written front of a slice, which a load is handed
pub front : (xs slice : List ℕ) (n : ℕ) → n ≡ length xs → take n (over xs slice) ≡ xs
front xs slice n e = rw (e) (take-append_seam xs (drop (length xs) slice))
