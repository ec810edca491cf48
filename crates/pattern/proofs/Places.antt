-- Laws of the search: rising columns are ordered by their places, and the first place of a column is the only one.
use Rattle.std.proofs.Common.{◌≡◌, ℕ, zero, suc, ◌+◌, ◌-◌, ◌<◌, ◌≤◌, Bool, true, false, cond, eqb, ltb, ◌⊎◌, List, [], ◌∷◌, length, get_or, take, sym, refl, ap, ◌∙◌, subst, inl, inr, ⊎_elim, suc-le-suc, zero-le, lt_trans, le_of_suc-le-suc, not-suc-le-zero, add-zero, add-suc, suc-add, arith, get_or-drop, get_or-take, ltb-false, ltb-true, eq-eqb, ne_eqb}
use lib.ListN.{get_or-eq_default}
use lib.Seq.{slice, length-slice}
use Rattle.pattern.specs.Pattern.{rising_after, rising, place_in, cell_of, well_formed}
use Rattle.std.specs.Prelude.{Option, Some, None}
use Rattle.pattern.proofs.Rows.{and_left, and_right, Row, row_at, pairs_of, same_count}

lt_or_le : (m n : ℕ) → (m < n) ⊎ (n ≤ m)
lt_or_le m n = go (ltb m n) refl
  where
    go : (b : Bool) → ltb m n ≡ b → (m < n) ⊎ (n ≤ m)
    go true e = inl (ltb-true m n e)
    go false e = inr (ltb-false m n e)

lt_or_eq : (m n : ℕ) → m ≤ n → (m < n) ⊎ (m ≡ n)
lt_or_eq m n h = ⊎_elim (λ (l : m < n). inl l) (λ (l : n ≤ m). inr (omega arith)) (lt_or_le m n)

rising_tail : (x : ℕ) (xs : List ℕ) → rising_after x xs ≡ true → rising xs ≡ true
unfolding rising_after rising
rising_tail x [] e = refl
rising_tail x (y ∷ ys) e = and_right (ltb x y) _ e

above_first : (x : ℕ) (xs : List ℕ) → rising_after x xs ≡ true → (q : ℕ) → q < length xs → x < get_or xs q 0
unfolding rising_after
above_first x [] e q h = absurd (not-suc-le-zero h)
above_first x (y ∷ ys) e zero h = ltb-true _ _ (and_left _ _ e)
above_first x (y ∷ ys) e (suc q) h =
    lt_trans (ltb-true _ _ (and_left _ _ e)) (above_first y ys (and_right (ltb x y) _ e) q (le_of_suc-le-suc h))

ordered : (xs : List ℕ) → rising xs ≡ true → (p q : ℕ) → p < q → q < length xs → get_or xs p 0 < get_or xs q 0
unfolding rising
ordered [] e p q l h = absurd (not-suc-le-zero h)
ordered (x ∷ xs) e p zero l h = absurd (not-suc-le-zero l)
ordered (x ∷ xs) e zero (suc q) l h = above_first x xs e q (le_of_suc-le-suc h)
ordered (x ∷ xs) e (suc p) (suc q) l h = ordered xs (rising_tail x xs e) p q (le_of_suc-le-suc l) (le_of_suc-le-suc h)

-- the first place by reading on from the first element
place_found : (at : ℕ) (xs : List ℕ) (column p : ℕ) → p < length xs → get_or xs p 0 ≡ column
    → ((j : ℕ) → j < p → get_or xs j 0 ≡ column → ⊥) → place_in at xs column ≡ Some (at + p)
unfolding place_in
place_found at [] column p h e f = absurd (not-suc-le-zero h)
place_found at (x ∷ xs) column zero h e f = simp (eq-eqb _ _ e, add-zero)
place_found at (x ∷ xs) column (suc p) h e f =
    simp (ne_eqb _ _ (f zero (suc-le-suc zero-le)))
    (place_found (suc at) xs column p (le_of_suc-le-suc h) e (λ j l. f (suc j) (suc-le-suc l))
    ∙ ap Some (suc-add at p ∙ sym (add-suc at p)))

place_absent : (at : ℕ) (xs : List ℕ) (column : ℕ) → ((j : ℕ) → j < length xs → get_or xs j 0 ≡ column → ⊥) → place_in at xs column ≡ None
unfolding place_in
place_absent at [] column f = refl
place_absent at (x ∷ xs) column f =
    simp (ne_eqb _ _ (f zero (suc-le-suc zero-le)))
    (place_absent (suc at) xs column (λ j l. f (suc j) (suc-le-suc l)))

-- the same of the columns from index f up to t, by their places among all columns
module _ (columns : List ℕ) (f t : ℕ) (inside : t ≤ length columns) where
  slice_at : (k : ℕ) → f + k < t → get_or (slice f t columns) k 0 ≡ get_or columns (f + k) 0
  slice_at k h = get_or-drop f (take t columns) k 0 ∙ get_or-take t columns (f + k) 0 h

  here : (k : ℕ) → f ≤ k → k < t → get_or (slice f t columns) (k - f) 0 ≡ get_or columns k 0
  here k l h = slice_at (k - f) (omega arith) ∙ ap (λ (n : ℕ). get_or columns n 0) (omega arith)

  inner : (j : ℕ) → j < length (slice f t columns) → f + j < t
  inner j b = omega (arith, length-slice f t columns inside)

  pub places_ordered : rising (slice f t columns) ≡ true → (p q : ℕ) → f ≤ p → p < q → q < t → get_or columns p 0 < get_or columns q 0
  places_ordered e p q l h k =
      let o = ordered (slice f t columns) e (p - f) (q - f) (omega arith) (omega (arith, length-slice f t columns inside)) in
      omega (arith, o, here p l (omega arith), here q (omega arith) k)

  pub places_found : rising (slice f t columns) ≡ true → (k : ℕ) → f ≤ k → k < t → place_in f (slice f t columns) (get_or columns k 0) ≡ Some k
  places_found e k l h =
      place_found f (slice f t columns) (get_or columns k 0) (k - f) (omega (arith, length-slice f t columns inside)) (here k l h)
      (λ j b q. omega (arith, q, here k l h, ordered (slice f t columns) e j (k - f) b (omega (arith, length-slice f t columns inside))))
      ∙ ap Some (omega arith)

  pub places_absent : (column : ℕ) → ((k : ℕ) → f ≤ k → k < t → get_or columns k 0 ≡ column → ⊥) → place_in f (slice f t columns) column ≡ None
  places_absent column n =
      place_absent f (slice f t columns) column
      (λ j b e. n (f + j) (omega arith) (inner j b) (sym (slice_at j (inner j b)) ∙ e))

-- a column that stands neither before lo nor from hi on
pub record Bracket (columns : List ℕ) (f t column lo hi : ℕ) : Type 0 where
  pub from_le : f ≤ lo
  pub lo_le : lo ≤ hi
  pub hi_le : hi ≤ t
  pub below : (k : ℕ) → f ≤ k → k < lo → get_or columns k 0 < column
  pub above : (k : ℕ) → hi ≤ k → k < t → column < get_or columns k 0

pub bracket_start : (columns : List ℕ) (f t column : ℕ) → f ≤ t → Bracket columns f t column f t
bracket_start columns f t column h = record {
  from_le = omega arith;
  lo_le = h;
  hi_le = omega arith;
  below = λ k l m. absurd (omega arith);
  above = λ k l m. absurd (omega arith);
}

module _ (columns : List ℕ) (f t column lo hi : ℕ) (inside : t ≤ length columns) (rises : rising (slice f t columns) ≡ true) (b : Bracket columns f t column lo hi) where
  pub bracket_up : (mid : ℕ) → lo ≤ mid → mid < hi → get_or columns mid 0 < column → Bracket columns f t column (mid + 1) hi
  bracket_up mid l h x = record {
    from_le = omega arith;
    lo_le = omega arith;
    hi_le = b.hi_le;
    below = λ k m n. ⊎_elim
        (λ (s : k < mid). lt_trans (places_ordered columns f t inside rises k mid m s (omega arith)) x)
        (λ (e : k ≡ mid). subst (λ (j : ℕ). get_or columns j 0 < column) (sym e) x)
        (lt_or_eq k mid (omega arith));
    above = b.above;
  }

  pub bracket_down : (mid : ℕ) → lo ≤ mid → mid < hi → column < get_or columns mid 0 → Bracket columns f t column lo mid
  bracket_down mid l h x = record {
    from_le = b.from_le;
    lo_le = l;
    hi_le = omega arith;
    below = b.below;
    above = λ k m n. ⊎_elim
        (λ (s : mid < k). lt_trans x (places_ordered columns f t inside rises mid k (omega arith) s n))
        (λ (e : mid ≡ k). subst (λ (j : ℕ). column < get_or columns j 0) e x)
        (lt_or_eq mid k m);
  }

  pub bracket_none : hi ≤ lo → place_in f (slice f t columns) column ≡ None
  bracket_none h =
      places_absent columns f t inside column
      (λ k l m e. ⊎_elim
      (λ (s : k < lo). omega (arith, b.below k l s))
      (λ (s : lo ≤ k). omega (arith, b.above k (omega arith) m))
      (lt_or_le k lo))

-- a row behind the last has no cell
pub cell_outside : (columns os ns : List ℕ) (row column : ℕ) → length os ≤ row → length ns ≤ row → cell_of columns os ns row column ≡ None
unfolding cell_of place_in
cell_outside columns os ns row column h k = simp (get_or-eq_default os 0 h, get_or-eq_default ns 0 k)

-- a place that is found lies within the columns
pick_within : (b : Bool) (at p n : ℕ) (rest : Option ℕ) → cond b (Some at) rest ≡ Some p → at < n → (rest ≡ Some p → p < n) → p < n
pick_within true at p n rest e h k = let q : at ≡ p = cc in omega arith
pick_within false at p n rest e h k = k e

place_within : (at : ℕ) (xs : List ℕ) (column p : ℕ) → place_in at xs column ≡ Some p → p < at + length xs
unfolding place_in
place_within at [] column p e = let z : ◌≡◌ {A = ℕ} 0 1 = cc in omega arith
place_within at (x ∷ xs) column p e =
    pick_within (eqb x column) at p (at + suc (length xs)) (place_in (suc at) xs column) e (omega arith)
    (λ q. omega (arith, place_within (suc at) xs column p q))

cell_inside : (columns os ns : List ℕ) (row column p : ℕ) → Row columns os ns row → cell_of columns os ns row column ≡ Some p → p < length columns
unfolding cell_of
cell_inside columns os ns row column p r e =
    omega
    (arith, place_within (get_or os row 0) _ column p e, length-slice (get_or os row 0) (get_or os row 0 + get_or ns row 0) columns r.within, r.within)

pub cell_within : (columns os ns : List ℕ) (values : ℕ) → well_formed columns os ns values ≡ true → (row column p : ℕ)
    → cell_of columns os ns row column ≡ Some p → p < length columns
cell_within columns os ns values well row column p e =
    let fit = pairs_of columns os ns values well in
    ⊎_elim
    (λ (h : row < length os). cell_inside columns os ns row column p (row_at columns 0 os ns fit row h) e)
    (λ (h : length os ≤ row).
    let q = sym (cell_outside columns os ns row column h (omega (arith, same_count columns 0 os ns fit))) ∙ e in
    let z : ◌≡◌ {A = ℕ} 0 1 = cc in
    omega arith)
    (lt_or_le row (length os))
