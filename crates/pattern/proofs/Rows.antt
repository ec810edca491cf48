-- Laws of row 12's test: rising columns read one by one, and the pairs of offset and length read one by one.
use Rattle.std.proofs.Common.{eqb-true, ◌≡◌, ℕ, zero, suc, ◌+◌, ◌-◌, ◌<◌, ◌≤◌, Bool, true, false, ◌&&◌, T, eqb, ltb, leb, List, [], ◌∷◌, length, get_or, take, drop, sym, refl, ap, ◌∙◌, subst, le_of_suc-le-suc, not-suc-le-zero, add-one, drop_of_length-le, drop-cons, le-ltb, lt-ltb, eq-eqb, ne_eqb, le-leb, leb-true}
use native.Mathlib.Omega.{arith}
use lib.Seq.{slice, slice_empty, slice-cons}
use Rattle.std.specs.List.{IsAllAdjacentAnswer}
use borrow.Author.Tests.{lt-leb}
use Rattle.pattern.specs.Pattern.{rising_after, rising, pairs_fit, well_formed, row_columns}

-- both parts of a conjunction that holds
pub and_left : (a b : Bool) → (a && b) ≡ true → a ≡ true
and_left true b e = refl
and_left false b e = e

pub and_right : (a b : Bool) → (a && b) ≡ true → b ≡ true
and_right true b e = e
and_right false b e = absurd (subst T (sym e) tt)

-- the columns from index i up to t, of which last stands before them
module _ (columns : List ℕ) (t : ℕ) (inside : t ≤ length columns) where
  here : (i : ℕ) → i < t → slice i t columns ≡ get_or columns i 0 ∷ slice (i + 1) t columns
  here i h = rw (add-one) (slice-cons i t columns 0 h inside)

  pub rise_start : (i : ℕ) → i < t → rising_after (get_or columns i 0) (slice (i + 1) t columns) ≡ rising (slice i t columns)
  unfolding rising
  rise_start i h = sym (ap rising (here i h))

  rise_step : (last i : ℕ) → i < t
      → rising_after last (slice i t columns) ≡ (ltb last (get_or columns i 0) && rising_after (get_or columns i 0) (slice (i + 1) t columns))
  unfolding rising_after
  rise_step last i h = ap (rising_after last) (here i h)

  pub rise_more : (last i : ℕ) → i < t → last < get_or columns i 0
      → rising_after last (slice i t columns) ≡ rising_after (get_or columns i 0) (slice (i + 1) t columns)
  rise_more last i h l = rise_step last i h ∙ simp (lt-ltb _ _ l)

  pub rise_fall : (last i : ℕ) → i < t → get_or columns i 0 ≤ last → rising_after last (slice i t columns) ≡ false
  rise_fall last i h l = rise_step last i h ∙ simp (le-ltb _ _ l)

pub rise_end : (columns : List ℕ) (last i t : ℕ) → i ≡ t → rising_after last (slice i t columns) ≡ true
unfolding rising_after
rise_end columns last i t e = rw (e, slice_empty)

pub rise_none : (columns : List ℕ) (i t : ℕ) → i ≡ t → rising (slice i t columns) ≡ true
unfolding rising
rise_none columns i t e = rw (e, slice_empty)

and_no : (a : Bool) → (a && false) ≡ false
and_no true = refl
and_no false = refl

-- columns rise exactly if each is below the one behind it
after_true : (x : ℕ) (xs : List ℕ) → ((k : ℕ) → suc k < length (x ∷ xs) → true ≡ ltb (get_or (x ∷ xs) k 0) (get_or (x ∷ xs) (suc k) 0)) → rising_after x xs ≡ true
unfolding rising_after
after_true x [] h = refl
after_true x (y ∷ ys) h = ap (λ (b : Bool). b && rising_after y ys) (sym (h zero (omega arith))) ∙ after_true y ys (λ k e. h (suc k) (omega arith))

after_false : (x : ℕ) (xs : List ℕ) (k : ℕ) → suc k < length (x ∷ xs) → false ≡ ltb (get_or (x ∷ xs) k 0) (get_or (x ∷ xs) (suc k) 0) → rising_after x xs ≡ false
unfolding rising_after
after_false x [] k e f = absurd (omega arith)
after_false x (y ∷ ys) zero e f = ap (λ (b : Bool). b && rising_after y ys) (sym f)
after_false x (y ∷ ys) (suc k) e f = ap (λ (b : Bool). ltb x y && b) (after_false y ys k (omega arith) f) ∙ and_no (ltb x y)

rising_true : (xs : List ℕ) → ((k : ℕ) → suc k < length xs → true ≡ ltb (get_or xs k 0) (get_or xs (suc k) 0)) → rising xs ≡ true
unfolding rising
rising_true [] h = refl
rising_true (x ∷ xs) h = after_true x xs h

rising_false : (xs : List ℕ) (k : ℕ) → suc k < length xs → false ≡ ltb (get_or xs k 0) (get_or xs (suc k) 0) → rising xs ≡ false
unfolding rising
rising_false [] k e f = absurd (omega arith)
rising_false (x ∷ xs) k e f = after_false x xs k e f

pub rising_decided : (xs : List ℕ) (r : Bool) → IsAllAdjacentAnswer (λ x y b. b ≡ ltb x y) xs r → r ≡ rising xs
rising_decided xs true h =
    sym (rising_true xs (λ k e. let next : k + 1 ≡ suc k = omega arith in subst (λ (j : ℕ). true ≡ ltb (get_or xs k 0) (get_or xs j 0)) next (h k 0 (omega arith))))
rising_decided xs false h =
    let next : h.0 + 1 ≡ suc h.0 = omega arith in
    sym (rising_false xs h.0 (omega (arith, h.1)) (subst (λ (j : ℕ). false ≡ ltb (get_or xs h.0 0) (get_or xs j 0)) next (h.2 0)))

none_taken : (n : ℕ) → take {A = ℕ} n [] ≡ []
none_taken zero = refl
none_taken (suc n) = refl

-- the part of the columns that the code lends, as the definitions name it
pub part_is : (f t : ℕ) (xs : List ℕ) → f ≤ t → take (t - f) (drop f xs) ≡ slice f t xs
part_is zero t xs h = let whole : t - 0 ≡ t = omega arith in ap (λ (n : ℕ). take n xs) whole
part_is (suc f) zero xs h = absurd (omega arith)
part_is (suc f) (suc t) [] h = none_taken _
part_is (suc f) (suc t) (x ∷ xs) h = let less : suc t - suc f ≡ t - f = omega arith in ap (λ (n : ℕ). take n (drop f xs)) less ∙ part_is f t xs (omega arith)

-- pairs that differ in count
pub pairs_differ : (columns : List ℕ) (end : ℕ) (os ns : List ℕ) → (length os ≡ length ns → ⊥) → pairs_fit columns end os ns ≡ false
unfolding pairs_fit
pairs_differ columns end [] [] h = absurd (h refl)
pairs_differ columns end [] (n ∷ ns) h = refl
pairs_differ columns end (o ∷ os) [] h = refl
pairs_differ columns end (o ∷ os) (n ∷ ns) h =
    simp (pairs_differ columns (o + n) os ns (λ e. h (ap suc e)), and_no)

-- the pairs from index i on, the last of which before them ended at end
module _ (columns os ns : List ℕ) (same : length os ≡ length ns) where
  abbrev offset : ℕ → ℕ
  offset i = get_or os i 0

  abbrev len : ℕ → ℕ
  len i = get_or ns i 0

  pairs_step : (end i : ℕ) → i < length os
      → pairs_fit columns end (drop i os) (drop i ns)
      ≡ (leb end (offset i) && leb (offset i + len i) (length columns) && rising (row_columns columns (offset i) (len i)) && pairs_fit columns (offset i + len i) (drop (i + 1) os) (drop (i + 1) ns))
  unfolding pairs_fit
  pairs_step end i h =
      rw (add-one, drop-cons os i 0 h, drop-cons ns i 0 (subst (λ (n : ℕ). i < n) same h))

  pub pairs_back : (end i : ℕ) → i < length os → offset i < end → pairs_fit columns end (drop i os) (drop i ns) ≡ false
  pairs_back end i h b = pairs_step end i h ∙ simp (lt-leb _ _ b)

  pub pairs_past : (end i : ℕ) → i < length os → length columns < offset i + len i → pairs_fit columns end (drop i os) (drop i ns) ≡ false
  pairs_past end i h b = pairs_step end i h ∙ simp (lt-leb _ _ b, and_no)

  pub pairs_unrisen : (end i : ℕ) → i < length os → rising (row_columns columns (offset i) (len i)) ≡ false
      → pairs_fit columns end (drop i os) (drop i ns) ≡ false
  pairs_unrisen end i h b = pairs_step end i h ∙ simp (b, and_no)

  pub pairs_more : (end i : ℕ) → i < length os → end ≤ offset i → offset i + len i ≤ length columns
      → rising (row_columns columns (offset i) (len i)) ≡ true
      → pairs_fit columns end (drop i os) (drop i ns) ≡ pairs_fit columns (offset i + len i) (drop (i + 1) os) (drop (i + 1) ns)
  pairs_more end i h s t r = pairs_step end i h ∙ simp (le-leb _ _ s, le-leb _ _ t, r)

pub pairs_end : (columns os ns : List ℕ) (end i : ℕ) → length os ≤ i → length ns ≤ i → pairs_fit columns end (drop i os) (drop i ns) ≡ true
unfolding pairs_fit
pairs_end columns os ns end i h k = rw (drop_of_length-le os h, drop_of_length-le ns k)

-- of a first pair that fits, and pairs behind it that do
module _ (columns : List ℕ) (end o n : ℕ) (rest : Bool) where
  abbrev fits : Bool
  fits = leb end o && leb (o + n) (length columns) && rising (row_columns columns o n)

  first_pair : (fits && rest) ≡ true → fits ≡ true
  first_pair e = and_left fits rest e

  later_pairs : (fits && rest) ≡ true → rest ≡ true
  later_pairs e = and_right fits rest e

-- what a passed test says of the pair at an index: it lies within the columns, and its columns rise
pub record Row (columns os ns : List ℕ) (i : ℕ) : Type 0 where
  pub within : get_or os i 0 + get_or ns i 0 ≤ length columns
  pub rises : rising (row_columns columns (get_or os i 0) (get_or ns i 0)) ≡ true

pub row_at : (columns : List ℕ) (end : ℕ) (os ns : List ℕ) → pairs_fit columns end os ns ≡ true → (i : ℕ) → i < length os → Row columns os ns i
unfolding pairs_fit
row_at columns end [] ns e i h = absurd (not-suc-le-zero h)
row_at columns end (o ∷ os) [] e i h = absurd (subst T (sym e) tt)
row_at columns end (o ∷ os) (n ∷ ns) e zero h =
    let e3 = first_pair columns end o n (pairs_fit columns (o + n) os ns) e in
    record {
      within = leb-true (o + n) (length columns) (and_right (leb end o) _ (and_left _ (rising (row_columns columns o n)) e3));
      rises = and_right (leb end o && leb (o + n) (length columns)) _ e3;
    }
row_at columns end (o ∷ os) (n ∷ ns) e (suc i) h =
    let r = row_at columns (o + n) os ns (later_pairs columns end o n _ e) i (le_of_suc-le-suc h) in
    record { within = r.within; rises = r.rises }

-- as many offsets as lengths
pub same_count : (columns : List ℕ) (end : ℕ) (os ns : List ℕ) → pairs_fit columns end os ns ≡ true → length os ≡ length ns
unfolding pairs_fit
same_count columns end [] [] e = refl
same_count columns end [] (n ∷ ns) e = absurd (subst T (sym e) tt)
same_count columns end (o ∷ os) [] e = absurd (subst T (sym e) tt)
same_count columns end (o ∷ os) (n ∷ ns) e = ap suc (same_count columns (o + n) os ns (later_pairs columns end o n _ e))

-- the whole test, by the count of values and by the pairs
module _ (columns os ns : List ℕ) (values : ℕ) where
  pub values_differ : (values ≡ length columns → ⊥) → well_formed columns os ns values ≡ false
  unfolding well_formed
  values_differ h = simp (ne_eqb _ _ h)

  pub by_pairs : values ≡ length columns → well_formed columns os ns values ≡ pairs_fit columns 0 os ns
  unfolding well_formed
  by_pairs e = simp (eq-eqb _ _ e)

  pub pairs_of : well_formed columns os ns values ≡ true → pairs_fit columns 0 os ns ≡ true
  unfolding well_formed
  pairs_of e = and_right (eqb values (length columns)) _ e

-- a pattern that the test passes is one whatever it is asked with: the count of its values is that of its columns
pub whatever_the_count : (columns os ns : List ℕ) (values : ℕ) → well_formed columns os ns values ≡ true → well_formed columns os ns (length columns) ≡ true
unfolding well_formed
whatever_the_count columns os ns values e =
    let h : values ≡ length columns = eqb-true _ _ (and_left _ _ e) in
    subst (λ (v : ℕ). well_formed columns os ns v ≡ true) h e
