-- How many cells there can be: 22, and 16 where no series resistance makes an inner node. With it all is said of the list.
use mathlib.Core.Path.{◌≡◌, refl, sym, ap, ◌∙◌, subst}
use mathlib.Core.Bool.{Bool, true, false, cond, ◌||◌}
use mathlib.Core.List.{List, [], ◌∷◌}
use Prim.Native.Nat.{ℕ, zero, suc, ◌≤◌, ◌<◌, zero-le, suc-le-suc}
use native.Mathlib.Omega.{arith}
use lib.ListN.{length, get_or}
use lib.Dec.{T, eqb, ltb}
use borrow.Author.Tests.{eq-eqb, ltb-true, eqb-true}
use Rattle.pattern.specs.Pattern.{rising_after, rising}
use Rattle.pattern.proofs.Rows.{and_left, and_right}
use Rattle.device.specs.Nodes.{any_node_beyond}
use Rattle.device.specs.declared.NodeId.{NodeId}
use Rattle.device.specs.declared.NodeId.TheVariants.{Ground, At}
use Rattle.device.specs.declared.Terminals.{Terminals}
use Rattle.stamps.specs.Stamps.{position, jac_pairs_of}
use Rattle.stamps.specs.declared.Position.{Position}
use Rattle.cells.specs.Cells.{row_width, ListsTheCells, cell_number, cell_before, cell_numbers, positions_of, cells_of, holds}
use Rattle.cells.proofs.Order.{rising_tail, by_row_then_column}
use Rattle.cells.proofs.Members.{cells_rise, cells_hold, cell_named}

-- a list without one of its numbers
without : ℕ → List ℕ → List ℕ
without x [] = []
without x (y ∷ ys) = cond (eqb x y) ys (y ∷ without x ys)

no : {A : Type 0} → false ≡ true → A
no e = absurd (subst T (sym e) tt)

one_less : (x : ℕ) (ys : List ℕ) → holds x ys ≡ true → suc (length (without x ys)) ≡ length ys
unfolding holds without
one_less x [] h = no h
one_less x (y ∷ ys) h = go (eqb x y) h (λ g. one_less x ys g)
  where
    go : (b : Bool) → (b || holds x ys) ≡ true → (holds x ys ≡ true → suc (length (without x ys)) ≡ length ys) → suc (length (cond b ys (y ∷ without x ys))) ≡ suc (length ys)
    go true h f = refl
    go false h f = ap suc (f h)

others : (x k : ℕ) (ys : List ℕ) → (k ≡ x → ⊥) → holds k ys ≡ true → holds k (without x ys) ≡ true
unfolding holds without
others x k [] n h = h
others x k (y ∷ ys) n h = go (eqb x y) (eqb k y) refl refl h (λ g. others x k ys n g)
  where
    go : (b c : Bool) → eqb x y ≡ b → eqb k y ≡ c → (c || holds k ys) ≡ true → (holds k ys ≡ true → holds k (without x ys) ≡ true) → holds k (cond b ys (y ∷ without x ys)) ≡ true
    go true true p q h f = absurd (n (eqb-true k y q ∙ sym (eqb-true x y p)))
    go true false p q h f = h
    go false true p q h f = rw (q)
    go false false p q h f = rw (q) (f h)

-- all behind are above
above : (x k : ℕ) (xs : List ℕ) → rising_after x xs ≡ true → holds k xs ≡ true → x < k
unfolding rising_after holds
above x k [] r h = no h
above x k (y ∷ ys) r h = go (eqb k y) refl h (λ g. above y k ys (and_right (ltb x y) _ r) g)
  where
    go : (b : Bool) → eqb k y ≡ b → (b || holds k ys) ≡ true → (holds k ys ≡ true → y < k) → x < k
    go true p h f = let l = ltb-true x y (and_left _ _ r) in let e = eqb-true k y p in omega arith
    go false p h f = let l = ltb-true x y (and_left _ _ r) in let m = f h in omega arith

pub or_true : (a b : Bool) → b ≡ true → (a || b) ≡ true
or_true true b e = refl
or_true false b e = e

-- a rising list of numbers of another is not longer
pub no_longer : (xs ys : List ℕ) → rising xs ≡ true → ((k : ℕ) → holds k xs ≡ true → holds k ys ≡ true) → length xs ≤ length ys
unfolding rising holds
no_longer [] ys r f = zero-le
no_longer (x ∷ xs) ys r f =
    let h = one_less x ys (f x (rw (eq-eqb x x refl))) in
    let l = no_longer xs (without x ys) (rising_tail x xs r)
    (λ k e. others x k ys (λ q. let a = above x k xs r e in omega arith) (f k (or_true (eqb k x) _ e))) in
    omega arith

-- positions picked from others by their places
pick : List ℕ → List Position → List Position
pick [] ps = []
pick (j ∷ js) ps = get_or ps j (position Ground Ground) ∷ pick js ps

numbers_length : (ps : List Position) → length (cell_numbers ps) ≤ length ps
unfolding cell_numbers cell_before
numbers_length [] = zero-le
numbers_length (p ∷ ps) = go p.row p.col (numbers_length ps)
  where
    go : (a b : NodeId) → length (cell_numbers ps) ≤ length ps → length (cell_before a b (cell_numbers ps)) ≤ suc (length ps)
    go Ground b l = omega arith
    go (At r) Ground l = omega arith
    go (At r) (At c) l = suc-le-suc l

-- whether a position has a number
has : ℕ → NodeId → NodeId → Bool
has k Ground b = false
has k (At r) Ground = false
has k (At r) (At c) = eqb k (cell_number r c)

has_before : (k : ℕ) (a b : NodeId) (ks : List ℕ) → holds k (cell_before a b ks) ≡ (has k a b || holds k ks)
unfolding holds cell_before has
has_before k Ground b ks = refl
has_before k (At r) Ground ks = refl
has_before k (At r) (At c) ks = refl

or_left : (a b : Bool) → a ≡ true → (a || b) ≡ true
or_left a b e = rw (e)

picked_one : (k j : ℕ) (ps : List Position) → has k (get_or ps j (position Ground Ground)).row (get_or ps j (position Ground Ground)).col ≡ true → holds k (cell_numbers ps) ≡ true
unfolding cell_numbers has
picked_one k j [] h = no h
picked_one k zero (p ∷ ps) h = has_before k p.row p.col (cell_numbers ps) ∙ or_left _ _ h
picked_one k (suc j) (p ∷ ps) h = has_before k p.row p.col (cell_numbers ps) ∙ or_true (has k p.row p.col) _ (picked_one k j ps h)

picked : (k : ℕ) (js : List ℕ) (ps : List Position) → holds k (cell_numbers (pick js ps)) ≡ true → holds k (cell_numbers ps) ≡ true
unfolding cell_numbers pick holds
picked k [] ps h = no h
picked k (j ∷ js) ps h =
    let p = get_or ps j (position Ground Ground) in
    go (has k p.row p.col) refl (sym (has_before k p.row p.col (cell_numbers (pick js ps))) ∙ h) (λ g. picked k js ps g)
  where
    go : (b : Bool) → has k (get_or ps j (position Ground Ground)).row (get_or ps j (position Ground Ground)).col ≡ b
        → (has k (get_or ps j (position Ground Ground)).row (get_or ps j (position Ground Ground)).col || holds k (cell_numbers (pick js ps))) ≡ true
        → (holds k (cell_numbers (pick js ps)) ≡ true → holds k (cell_numbers ps) ≡ true) → holds k (cell_numbers ps) ≡ true
    go true e h f = picked_one k j ps e
    go false e h f = f (sym (ap (λ (t : Bool). t || holds k (cell_numbers (pick js ps))) e) ∙ h)

by_picks : (t : Terminals) (js : List ℕ) (ps : List Position) → positions_of t ≡ pick js ps → length (cells_of t) ≤ length ps
by_picks t js ps e =
    let l = no_longer (cells_of t) (cell_numbers ps) (cells_rise t) (λ k h. picked k js ps (sym (ap (λ (qs : List Position). holds k (cell_numbers qs)) e) ∙ sym (cells_hold k t) ∙ h)) in
    omega (arith, numbers_length ps)

pub at_most_22 : (t : Terminals) → length (cells_of t) ≤ 22
unfolding positions_of jac_pairs_of pick
at_most_22 t =
    by_picks t
    (0 ∷ 1 ∷ 2 ∷ 3 ∷ 4 ∷ 5 ∷ 6 ∷ 7 ∷ 8 ∷ 9 ∷ 10 ∷ 1 ∷ 11 ∷ 12 ∷ 13 ∷ 6 ∷ 14 ∷ 15 ∷ 7 ∷ 6 ∷ 14 ∷ 16 ∷ 3 ∷ 1 ∷ 17 ∷ 18 ∷ 6 ∷ 4 ∷ 17 ∷ 19 ∷ 1 ∷ 0 ∷ 17 ∷ 20 ∷ 14 ∷ 21 ∷ 14 ∷ 15 ∷ 6 ∷ 7 ∷ 14 ∷ 16 ∷ 1 ∷ 3 ∷ [])
    (position t.drain t.gate ∷ position t.drain t.drain ∷ position t.drain t.source ∷ position t.drain t.bulk ∷ position t.source t.gate ∷ position t.source t.drain ∷ position t.source t.source ∷ position t.source t.bulk ∷ position t.drain_ext t.drain_ext ∷ position t.drain_ext t.drain ∷ position t.drain t.drain_ext ∷ position t.source_ext t.source_ext ∷ position t.source_ext t.source ∷ position t.source t.source_ext ∷ position t.bulk t.bulk ∷ position t.bulk t.source ∷ position t.bulk t.drain ∷ position t.gate t.gate ∷ position t.gate t.source ∷ position t.gate t.drain ∷ position t.gate t.bulk ∷ position t.bulk t.gate ∷ [])
    refl

pub at_most_16 : (t : Terminals) → t.drain_ext ≡ t.drain → t.source_ext ≡ t.source → length (cells_of t) ≤ 16
unfolding positions_of jac_pairs_of pick
at_most_16 t d s =
    by_picks t
    (0 ∷ 1 ∷ 2 ∷ 3 ∷ 4 ∷ 5 ∷ 6 ∷ 7 ∷ 1 ∷ 1 ∷ 1 ∷ 1 ∷ 6 ∷ 6 ∷ 6 ∷ 6 ∷ 8 ∷ 9 ∷ 7 ∷ 6 ∷ 8 ∷ 10 ∷ 3 ∷ 1 ∷ 11 ∷ 12 ∷ 6 ∷ 4 ∷ 11 ∷ 13 ∷ 1 ∷ 0 ∷ 11 ∷ 14 ∷ 8 ∷ 15 ∷ 8 ∷ 9 ∷ 6 ∷ 7 ∷ 8 ∷ 10 ∷ 1 ∷ 3 ∷ [])
    (position t.drain t.gate ∷ position t.drain t.drain ∷ position t.drain t.source ∷ position t.drain t.bulk ∷ position t.source t.gate ∷ position t.source t.drain ∷ position t.source t.source ∷ position t.source t.bulk ∷ position t.bulk t.bulk ∷ position t.bulk t.source ∷ position t.bulk t.drain ∷ position t.gate t.gate ∷ position t.gate t.source ∷ position t.gate t.drain ∷ position t.gate t.bulk ∷ position t.bulk t.gate ∷ [])
    (rw (d, s))

-- 02: the list is sorted, has no cell twice, and holds a cell if and only if it is named
pub lists_the_cells : (t : Terminals) → any_node_beyond row_width t ≡ false → ListsTheCells t
lists_the_cells t w = record {
  rises = cells_rise t;
  order = by_row_then_column;
  exact = λ r c h. cell_named r c h t w;
  most = at_most_22 t;
  fewer = at_most_16 t;
}
