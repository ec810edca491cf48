-- Two cells of a well-formed pattern have two places, so a cell that gets no contribution has a place that gets none.
use mathlib.Core.Path.{◌≡◌, refl, sym, ap, ◌∙◌, subst}
use mathlib.Core.Bool.{Bool, true, false, cond, ◌&&◌}
use mathlib.Core.List.{List, [], ◌∷◌}
use Prim.Native.Nat.{ℕ, zero, suc, ◌+◌, ◌≤◌, ◌<◌}
use native.Mathlib.Nat.{le_of_suc-le-suc, not-suc-le-zero}
use native.Mathlib.Omega.{arith}
use lib.ListN.{length, get_or, take}
use lib.Seq.{length-slice, get_or-drop, get_or-take}
use lib.Dec.{T, leb, ltb, eqb}
use lib.Ieee.{Float}
use borrow.Author.Tests.{leb-true, ltb-true, ltb-false, eqb-true, eq-eqb, ne_eqb}
use Rattle.pattern.specs.Pattern.{rising, row_columns, pairs_fit, place_in, cell_of}
use Rattle.std.specs.Prelude.{Option, Some, None}
use Rattle.pattern.proofs.Rows.{and_left, and_right, row_at, same_count}
use Rattle.pattern.proofs.Places.{cell_outside}
use Rattle.device.specs.declared.NodeId.{NodeId}
use Rattle.device.specs.declared.NodeId.TheVariants.{Ground, At}
use Rattle.assembly.specs.Assembly.{Pattern, Contribution, at, found_place, place_of}
use Rattle.column_sums.specs.ColumnSums.{same_node, is_place, place_gets, cell_gets, OthersUnchanged, OtherCellsUnchanged}
use Rattle.column_sums.proofs.Entries.{or_left, or_right}

-- ---- the rows follow each other
module _ (columns : List ℕ) (end o n : ℕ) (rest : Bool) (e : (leb end o && leb (o + n) (length columns) && rising (row_columns columns o n) && rest) ≡ true) where
  first_starts : end ≤ o
  first_starts = leb-true end o (and_left _ (leb (o + n) (length columns)) (and_left _ (rising (row_columns columns o n)) (and_left _ rest e)))

  later_fit : rest ≡ true
  later_fit = and_right (leb end o && leb (o + n) (length columns) && rising (row_columns columns o n)) rest e

starts_behind : (columns : List ℕ) (end : ℕ) (os ns : List ℕ) → pairs_fit columns end os ns ≡ true → (j : ℕ) → j < length os → end ≤ get_or os j 0
unfolding pairs_fit
starts_behind columns end [] ns e j h = absurd (not-suc-le-zero h)
starts_behind columns end (o ∷ os) [] e j h = absurd (subst T (sym e) tt)
starts_behind columns end (o ∷ os) (n ∷ ns) e zero h = first_starts columns end o n _ e
starts_behind columns end (o ∷ os) (n ∷ ns) e (suc j) h =
    let f = first_starts columns end o n _ e in
    omega (arith, starts_behind columns (o + n) os ns (later_fit columns end o n _ e) j (le_of_suc-le-suc h))

rows_apart : (columns : List ℕ) (end : ℕ) (os ns : List ℕ) → pairs_fit columns end os ns ≡ true → (i j : ℕ) → i < j → j < length os → get_or os i 0 + get_or ns i 0 ≤ get_or os j 0
unfolding pairs_fit
rows_apart columns end [] ns e i j l h = absurd (not-suc-le-zero h)
rows_apart columns end (o ∷ os) [] e i j l h = absurd (subst T (sym e) tt)
rows_apart columns end (o ∷ os) (n ∷ ns) e i zero l h = absurd (not-suc-le-zero l)
rows_apart columns end (o ∷ os) (n ∷ ns) e zero (suc j) l h = starts_behind columns (o + n) os ns (later_fit columns end o n _ e) j (le_of_suc-le-suc h)
rows_apart columns end (o ∷ os) (n ∷ ns) e (suc i) (suc j) l h = rows_apart columns (o + n) os ns (later_fit columns end o n _ e) i j (le_of_suc-le-suc l) (le_of_suc-le-suc h)

-- ---- what a found place holds
record Held (start : ℕ) (xs : List ℕ) (column p : ℕ) : Type 0 where
  index : ℕ
  place_is : p ≡ start + index
  inside : index < length xs
  holds : get_or xs index 0 ≡ column

pick_held : (start x : ℕ) (xs : List ℕ) (column p : ℕ) (rest : Option ℕ) (b : Bool) → eqb x column ≡ b → (rest ≡ Some p → Held (suc start) xs column p)
    → cond b (Some start) rest ≡ Some p → Held start (x ∷ xs) column p
pick_held start x xs column p rest true q later e =
    let h : start ≡ p = cc in
    record { index = 0; place_is = omega arith; inside = omega arith; holds = eqb-true x column q }
pick_held start x xs column p rest false q later e =
    let h = later e in
    record { index = suc h.index; place_is = omega arith; inside = omega arith; holds = h.holds }

place_held : (start : ℕ) (xs : List ℕ) (column p : ℕ) → place_in start xs column ≡ Some p → Held start xs column p
unfolding place_in
place_held start [] column p e = let z : ◌≡◌ {A = ℕ} 0 1 = cc in absurd (omega arith)
place_held start (x ∷ xs) column p e =
    pick_held start x xs column p (place_in (suc start) xs column) (eqb x column) refl (place_held (suc start) xs column p) e

-- a cell's place lies in its row's part of the columns, and holds its column
record CellAt (columns os ns : List ℕ) (r c p : ℕ) : Type 0 where
  row_there : r < length os
  from : get_or os r 0 ≤ p
  to : p < get_or os r 0 + get_or ns r 0
  is_column : get_or columns p 0 ≡ c

module _ (columns os ns : List ℕ) (fit : pairs_fit columns 0 os ns ≡ true) where
  cell_in_row : (r c p : ℕ) → r < length os → cell_of columns os ns r c ≡ Some p → CellAt columns os ns r c p
  unfolding cell_of
  cell_in_row r c p l e =
      let o = get_or os r 0 in
      let n = get_or ns r 0 in
      let w = (row_at columns 0 os ns fit r l).within in
      let h = place_held o (row_columns columns o n) c p e in
      let count = length-slice o (o + n) columns w in
      let i = h.index in
      let below : o + i < o + n = omega arith in
      record {
        row_there = l;
        from = omega arith;
        to = omega arith;
        is_column = ap (λ (q : ℕ). get_or columns q 0) h.place_is ∙ sym (get_or-drop o (take (o + n) columns) i 0 ∙ get_or-take (o + n) columns (o + i) 0 below) ∙ h.holds;
      }

  cell_at : (r c p : ℕ) → cell_of columns os ns r c ≡ Some p → CellAt columns os ns r c p
  cell_at r c p e = go (ltb r (length os)) refl
    where
      go : (b : Bool) → ltb r (length os) ≡ b → CellAt columns os ns r c p
      go true l = cell_in_row r c p (ltb-true r (length os) l) e
      go false l =
          let h = ltb-false r (length os) l in
          let q = sym (cell_outside columns os ns r c h (omega (arith, same_count columns 0 os ns fit))) ∙ e in
          let z : ◌≡◌ {A = ℕ} 0 1 = cc in
          absurd (omega arith)

  not_before : (r s c b p : ℕ) → CellAt columns os ns r c p → CellAt columns os ns s b p → r < s → ⊥
  not_before r s c b p x y l = omega (arith, rows_apart columns 0 os ns fit r s l y.row_there)

  pub one_place_one_row : (r s c b p : ℕ) → cell_of columns os ns r c ≡ Some p → cell_of columns os ns s b ≡ Some p → r ≡ s
  one_place_one_row r s c b p e f =
      let x = cell_at r c p e in
      let y = cell_at s b p f in
      let g = not_before r s c b p x y in
      let h = not_before s r b c p y x in
      go (ltb r s) refl (ltb s r) refl g h
    where
      go : (t : Bool) → ltb r s ≡ t → (u : Bool) → ltb s r ≡ u → (r < s → ⊥) → (s < r → ⊥) → r ≡ s
      go true e u f g h = absurd (g (ltb-true r s e))
      go false e true f g h = absurd (h (ltb-true s r f))
      go false e false f g h = omega (arith, ltb-false r s e, ltb-false s r f)

  pub one_place_one_column : (r s c b p : ℕ) → cell_of columns os ns r c ≡ Some p → cell_of columns os ns s b ≡ Some p → c ≡ b
  one_place_one_column r s c b p e f = sym (cell_at r c p e).is_column ∙ (cell_at s b p f).is_column

-- ---- a cell that gets no contribution has a place that gets none
found_at : (f : Option ℕ) (p : ℕ) → found_place f ≡ at p → f ≡ Some p
unfolding found_place
found_at (Some q) p e = cc
found_at None p e = let z : ◌≡◌ {A = ℕ} 0 1 = cc in absurd (omega arith)

module _ (P : Pattern) (fit : pairs_fit P.columns 0 P.offsets P.lengths ≡ true) (r c p : ℕ) (here : place_of P (At r) (At c) ≡ at p) where
  abbrev cell : ℕ → ℕ → Option ℕ
  cell s b = cell_of P.columns P.offsets P.lengths s b

  found_here : cell r c ≡ Some p
  unfolding place_of
  found_here = found_at (cell r c) p here

  not_found : (s b : ℕ) (f : Option ℕ) → cell s b ≡ f → (eqb s r && eqb b c) ≡ false → is_place (found_place f) p ≡ false
  unfolding found_place is_place
  not_found s b None e other = refl
  not_found s b (Some q) e other =
      ne_eqb q p
      (λ h.
      let there : cell s b ≡ Some p = e ∙ ap Some h in
      let same_row = one_place_one_row P.columns P.offsets P.lengths fit s r b c p there found_here in
      let same_column = one_place_one_column P.columns P.offsets P.lengths fit s r b c p there found_here in
      let z : true ≡ false = sym (both (eqb s r) (eqb b c) (eq-eqb s r same_row) (eq-eqb b c same_column)) ∙ other in
      subst T z tt)
    where
      both : (a d : Bool) → a ≡ true → d ≡ true → (a && d) ≡ true
      both a d e f = rw (e, f)

  another_place : (row column : NodeId) → (same_node row (At r) && same_node column (At c)) ≡ false → is_place (place_of P row column) p ≡ false
  unfolding place_of same_node is_place
  another_place Ground column e = refl
  another_place (At s) Ground e = refl
  another_place (At s) (At b) e = not_found s b (cell s b) refl e

  cell_gets_none : (cs : List Contribution) → cell_gets cs r c ≡ false → place_gets P cs p ≡ false
  unfolding cell_gets place_gets
  cell_gets_none [] e = refl
  cell_gets_none (x ∷ xs) e =
      let rest = cell_gets_none xs (or_right (same_node x.position.row (At r) && same_node x.position.col (At c)) (cell_gets xs r c) e) in
      rw (another_place x.position.row x.position.col (or_left _ (cell_gets xs r c) e)) rest

pub cells_unchanged : (P : Pattern) → pairs_fit P.columns 0 P.offsets P.lengths ≡ true → (cs : List Contribution) (before after : List Float)
    → OthersUnchanged (place_gets P cs) before after → OtherCellsUnchanged P cs before after
cells_unchanged P fit cs before after u = record { same_cell = λ r c p here e. u.same_entry p (cell_gets_none P fit r c p here cs e) }
