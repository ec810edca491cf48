-- Rising cells by rows: those before a row are the first ones.
use mathlib.Core.Path.{◌≡◌, refl, sym, ap, ◌∙◌}
use mathlib.Core.Bool.{Bool, true, false, cond}
use mathlib.Core.List.{List, [], ◌∷◌, ◌++◌}
use Prim.Native.Nat.{ℕ, zero, suc, ◌+◌, ◌-◌, ◌/◌, ◌%◌, ◌≤◌, ◌<◌, zero-le, suc-le-suc}
use native.Mathlib.Nat.{le_of_suc-le-suc, not-suc-le-zero, suc-add, add-suc, add-zero, zero-add}
use native.Mathlib.Numerals.{add-one}
use native.Mathlib.Omega.{arith}
use lib.ListN.{length, get_or, take, drop, set, length-set}
use lib.Seq.{drop-cons, take-suc, set_at, append_snoc, length-take-le, take-length}
use lib.Dec.{ltb, eqb}
use borrow.Author.Tests.{ltb-true, ltb-false, le-ltb, eqb-true, eqb-false}
use Rattle.pattern.specs.Pattern.{rising_after, rising}
use Rattle.pattern.proofs.Rows.{and_left, and_right}
use Rattle.cells.specs.Cells.{row_width}
use Rattle.cells.proofs.Order.{rising_tail}
use Rattle.cell_pattern.specs.CellPattern.{columns_in, count_in, lengths_in, running_offsets, over}
use Rattle.cell_pattern.specs.Steps.{count_before}

-- all behind are above
above : (x : ℕ) (xs : List ℕ) → rising_after x xs ≡ true → (j : ℕ) → j < length xs → x < get_or xs j 0
unfolding rising_after
above x [] e j h = absurd (not-suc-le-zero h)
above x (y ∷ ys) e zero h = ltb-true _ _ (and_left _ _ e)
above x (y ∷ ys) e (suc j) h =
    let k = above y ys (and_right (ltb x y) _ e) j (le_of_suc-le-suc h) in
    let l = ltb-true x y (and_left _ _ e) in
    omega arith

pub next_above : (xs : List ℕ) → rising xs ≡ true → (i : ℕ) → suc i < length xs → get_or xs i 0 < get_or xs (suc i) 0
unfolding rising
next_above [] e i h = absurd (not-suc-le-zero h)
next_above (x ∷ xs) e zero h = above x xs e 0 (le_of_suc-le-suc h)
next_above (x ∷ xs) e (suc i) h = next_above xs (rising_tail x xs e) i (le_of_suc-le-suc h)

-- none stand before a row that the first one has reached
none_before : (r x : ℕ) (ks : List ℕ) → rising_after x ks ≡ true → r ≤ x / row_width → count_before r ks ≡ 0
unfolding rising_after count_before
none_before r x [] e h = refl
none_before r x (k ∷ ks) e h =
    let l : x < k = ltb-true x k (and_left _ _ e) in
    let g : r ≤ k / row_width = omega arith in
    simp (le-ltb (k / row_width) r g) (none_before r k ks (and_right (ltb x k) _ e) g)

pub before_length : (r : ℕ) (ks : List ℕ) → count_before r ks ≤ length ks
unfolding count_before
before_length r [] = zero-le
before_length r (k ∷ ks) = go (ltb (k / row_width) r) (before_length r ks)
  where
    go : (b : Bool) → count_before r ks ≤ length ks → cond b (suc (count_before r ks)) (count_before r ks) ≤ suc (length ks)
    go true l = suc-le-suc l
    go false l = omega arith

-- a cell in a row countBefore r is among the first
pub is_before : (r : ℕ) (ks : List ℕ) → rising ks ≡ true → (i : ℕ) → i < length ks → get_or ks i 0 / row_width < r → i < count_before r ks
unfolding count_before rising
is_before r [] e i h g = absurd (not-suc-le-zero h)
is_before r (k ∷ ks) e i h g = go (λ i h g. is_before r ks (rising_tail k ks e) i h g) (ltb (k / row_width) r) refl i h g
  where
    go : ((i : ℕ) → i < length ks → get_or ks i 0 / row_width < r → i < count_before r ks)
        → (b : Bool) → ltb (k / row_width) r ≡ b → (i : ℕ) → i < suc (length ks) → get_or (k ∷ ks) i 0 / row_width < r → i < cond b (suc (count_before r ks)) (count_before r ks)
    go ih true q zero h g = suc-le-suc zero-le
    go ih true q (suc i) h g = suc-le-suc (ih i (le_of_suc-le-suc h) g)
    go ih false q zero h g = absurd (let l = ltb-false (k / row_width) r q in omega arith)
    go ih false q (suc i) h g =
        absurd (let l = ltb-false (k / row_width) r q in let m = above k ks e i (le_of_suc-le-suc h) in omega arith)

-- and each of the first stands in such a row
pub was_before : (r : ℕ) (ks : List ℕ) → rising ks ≡ true → (i : ℕ) → i < count_before r ks → get_or ks i 0 / row_width < r
unfolding count_before rising
was_before r [] e i h = absurd (not-suc-le-zero h)
was_before r (k ∷ ks) e i h = go (λ i h. was_before r ks (rising_tail k ks e) i h) (ltb (k / row_width) r) refl i h
  where
    go : ((i : ℕ) → i < count_before r ks → get_or ks i 0 / row_width < r)
        → (b : Bool) → ltb (k / row_width) r ≡ b → (i : ℕ) → i < cond b (suc (count_before r ks)) (count_before r ks) → get_or (k ∷ ks) i 0 / row_width < r
    go ih true q zero h = ltb-true (k / row_width) r q
    go ih true q (suc i) h = ih i (le_of_suc-le-suc h)
    go ih false q i h = absurd (let l = ltb-false (k / row_width) r q in let z = none_before r k ks e l in omega arith)

-- a cell in row r or behind it is not among the first
pub past : (r : ℕ) (ks : List ℕ) → rising ks ≡ true → (i : ℕ) → r ≤ get_or ks i 0 / row_width → count_before r ks ≤ i
past r ks e i h = go (ltb i (count_before r ks)) refl
  where
    go : (b : Bool) → ltb i (count_before r ks) ≡ b → count_before r ks ≤ i
    go true q = absurd (let m = was_before r ks e i (ltb-true i _ q) in omega arith)
    go false q = ltb-false i _ q

-- the cells before the next row are those before a row and its own
pub row_more : (r : ℕ) (ks : List ℕ) → count_before (suc r) ks ≡ count_before r ks + count_in r ks
unfolding count_before count_in
row_more r [] = refl
row_more r (k ∷ ks) = go (row_more r ks) (ltb (k / row_width) r) (eqb (k / row_width) r) (ltb (k / row_width) (suc r)) refl refl refl
  where
    go : count_before (suc r) ks ≡ count_before r ks + count_in r ks
        → (a e b : Bool) → ltb (k / row_width) r ≡ a → eqb (k / row_width) r ≡ e → ltb (k / row_width) (suc r) ≡ b
        → cond b (suc (count_before (suc r) ks)) (count_before (suc r) ks) ≡ cond a (suc (count_before r ks)) (count_before r ks) + cond e (suc (count_in r ks)) (count_in r ks)
    go h true true b p q o = absurd (let l = ltb-true (k / row_width) r p in let m = eqb-true (k / row_width) r q in omega arith)
    go h true false true p q o = omega arith
    go h true false false p q o = absurd (let l = ltb-true (k / row_width) r p in let m = ltb-false (k / row_width) (suc r) o in omega arith)
    go h false true true p q o = omega arith
    go h false true false p q o = absurd (let l = eqb-true (k / row_width) r q in let m = ltb-false (k / row_width) (suc r) o in omega arith)
    go h false false true p q o = absurd (let l = ltb-false (k / row_width) r p in let n = eqb-false (k / row_width) r q in let m = ltb-true (k / row_width) (suc r) o in omega (arith, n))
    go h false false false p q o = h

pub before_none : (ks : List ℕ) → count_before 0 ks ≡ 0
unfolding count_before
before_none [] = refl
before_none (k ∷ ks) = simp (le-ltb (k / row_width) 0 zero-le) (before_none ks)

-- the lists read one by one
pub length_columns : (ks : List ℕ) → length (columns_in ks) ≡ length ks
unfolding columns_in
length_columns [] = refl
length_columns (k ∷ ks) = ap suc (length_columns ks)

pub column_at : (ks : List ℕ) (i : ℕ) → i < length ks → get_or (columns_in ks) i 0 ≡ get_or ks i 0 % row_width
unfolding columns_in
column_at [] i h = absurd (not-suc-le-zero h)
column_at (k ∷ ks) zero h = refl
column_at (k ∷ ks) (suc i) h = column_at ks i (le_of_suc-le-suc h)

pub length_running : (at : ℕ) (ns : List ℕ) → length (running_offsets at ns) ≡ length ns
unfolding running_offsets
length_running at [] = refl
length_running at (n ∷ ns) = ap suc (length_running (at + n) ns)

module _ (ks : List ℕ) where
  pub length_lengths : (r n : ℕ) → length (lengths_in ks r n) ≡ n
  unfolding lengths_in
  length_lengths r zero = refl
  length_lengths r (suc n) = ap suc (length_lengths (suc r) n)

  pub length_offsets : (n : ℕ) → length (running_offsets 0 (lengths_in ks 0 n)) ≡ n
  length_offsets n = length_running 0 (lengths_in ks 0 n) ∙ length_lengths 0 n

  pub length_at : (r n i : ℕ) → i < n → get_or (lengths_in ks r n) i 0 ≡ count_in (r + i) ks
  unfolding lengths_in
  length_at r zero i h = absurd (not-suc-le-zero h)
  length_at r (suc n) zero h = ap (λ (q : ℕ). count_in q ks) (sym (add-zero r))
  length_at r (suc n) (suc i) h = length_at (suc r) n i (le_of_suc-le-suc h) ∙ ap (λ (q : ℕ). count_in q ks) (suc-add r i ∙ sym (add-suc r i))

  -- from row r on the running offset is the count of the cells before it
  offset_from : (at r n i : ℕ) → at ≡ count_before r ks → i < n → get_or (running_offsets at (lengths_in ks r n)) i 0 ≡ count_before (r + i) ks
  unfolding lengths_in running_offsets
  offset_from at r zero i e h = absurd (not-suc-le-zero h)
  offset_from at r (suc n) zero e h = e ∙ ap (λ (q : ℕ). count_before q ks) (sym (add-zero r))
  offset_from at r (suc n) (suc i) e h =
      offset_from (at + count_in r ks) (suc r) n i (ap (λ (q : ℕ). q + count_in r ks) e ∙ sym (row_more r ks)) (le_of_suc-le-suc h)
      ∙ ap (λ (q : ℕ). count_before q ks) (suc-add r i ∙ sym (add-suc r i))

  pub offset_at : (n r : ℕ) → r < n → get_or (running_offsets 0 (lengths_in ks 0 n)) r 0 ≡ count_before r ks
  offset_at n r h = offset_from 0 0 n r (sym (before_none ks)) h ∙ ap (λ (q : ℕ). count_before q ks) (zero-add r)

  pub offset_here : (n i at : ℕ) → i < n → at ≡ count_before i ks → at ≡ get_or (running_offsets 0 (lengths_in ks 0 n)) i 0
  offset_here n i at h e = rw (offset_at n i h) e

  pub length_here : (n i at end : ℕ) → i < n → at ≡ count_before i ks → end ≡ count_before (suc i) ks → end - at ≡ get_or (lengths_in ks 0 n) i 0
  length_here n i at end h e f = rw (length_at 0 n i h, zero-add i) (let m = row_more i ks in omega arith)

-- writing a list over a slice, one by one
module _ (s d : List ℕ) where
  pub put : (j x : ℕ) → j < length s → length s ≤ length d → x ≡ get_or s j 0 → set (take j s ++ drop j d) j x ≡ take (j + 1) s ++ drop (j + 1) d
  put j x h k e =
      rw (add-one, drop-cons d j 0 (omega arith), take-suc s j 0 h, append_snoc, e)
      (set_at (take j s) (get_or d j 0) (drop (suc j) d) (get_or s j 0) j (length-take-le j s (omega arith)))

  pub put_all : (j : ℕ) → j ≡ length s → take j s ++ drop j d ≡ over s d
  put_all j e = rw (e, take-length s)

-- a slice that held d, with the first j of s written over it
pub record Written (s d : List ℕ) (j : ℕ) (xs : List ℕ) : Type 0 where
  pub same : length xs ≡ length d
  pub is : xs ≡ take j s ++ drop j d

module _ (s d : List ℕ) where
  pub none_written : Written s d 0 d
  none_written = record { same = refl; is = refl }

  pub one_written : (j x : ℕ) (xs : List ℕ) → Written s d j xs → j < length s → length s ≤ length d → x ≡ get_or s j 0 → Written s d (j + 1) (set xs j x)
  one_written j x xs w h k e = record {
    same = length-set xs j x ∙ w.same;
    is = rw w.is (put s d j x h k e);
  }

  pub all_written : (j : ℕ) (xs : List ℕ) → Written s d j xs → j ≡ length s → xs ≡ over s d
  all_written j xs w e = w.is ∙ put_all s d j e
