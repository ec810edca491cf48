-- Rising lists: insertion keeps them, and adds one number.
use mathlib.Core.Path.{◌≡◌, refl, sym, ap, ◌∙◌}
use mathlib.Core.Bool.{Bool, true, false, cond, ◌&&◌, ◌||◌}
use mathlib.Core.List.{List, [], ◌∷◌}
use Prim.Native.Nat.{ℕ, ◌<◌}
use native.Mathlib.Omega.{arith}
use lib.Dec.{eqb, ltb}
use borrow.Author.Tests.{eq-eqb, ne_eqb, lt-ltb, le-ltb, ltb-true, ltb-false, eqb-true, eqb-false}
use Rattle.pattern.specs.Pattern.{rising_after, rising}
use Rattle.pattern.proofs.Rows.{and_left, and_right}
use Rattle.cells.specs.Cells.{row_width, cell_number, insert_of, insert_all_of, holds}
use Rattle.cells.specs.Steps.{lower_of, higher_of, carry_of}

-- the order of the cells' numbers: by row, then column
pub by_row_then_column : (r c s e : ℕ) → c < row_width → e < row_width → ltb (cell_number r c) (cell_number s e) ≡ (ltb r s || (eqb r s && ltb c e))
by_row_then_column r c s e h k = go (ltb r s) (eqb r s) (ltb c e) refl refl refl
  where
    go : (x y z : Bool) → ltb r s ≡ x → eqb r s ≡ y → ltb c e ≡ z → ltb (cell_number r c) (cell_number s e) ≡ (x || (y && z))
    go true y z p q o = let l = ltb-true r s p in lt-ltb (cell_number r c) (cell_number s e) (omega arith)
    go false true true p q o = let l = eqb-true r s q in let m = ltb-true c e o in lt-ltb (cell_number r c) (cell_number s e) (omega arith)
    go false true false p q o = let l = eqb-true r s q in let m = ltb-false c e o in le-ltb (cell_number r c) (cell_number s e) (omega arith)
    go false false z p q o = let l = ltb-false r s p in let n = eqb-false r s q in le-ltb (cell_number r c) (cell_number s e) (omega (arith, n))

-- one step of the insertion, by its two tests
abbrev step_of : ℕ → ℕ → List ℕ → Bool → Bool → List ℕ
step_of x y ys l e = cond l (x ∷ y ∷ ys) (cond e (y ∷ ys) (y ∷ insert_of x ys))

insert_after : (b x : ℕ) (ys : List ℕ) → b < x → rising_after b ys ≡ true → rising_after b (insert_of x ys) ≡ true
unfolding rising_after insert_of
insert_after b x [] h r = simp (lt-ltb b x h)
insert_after b x (y ∷ ys) h r = go (ltb x y) (eqb x y) refl refl (λ k q. insert_after y x ys k q)
  where
    go : (l e : Bool) → ltb x y ≡ l → eqb x y ≡ e → (y < x → rising_after y ys ≡ true → rising_after y (insert_of x ys) ≡ true) → rising_after b (step_of x y ys l e) ≡ true
    go true e p q ih = simp (lt-ltb b x h, p) (and_right (ltb b y) _ r)
    go false true p q ih = r
    go false false p q ih =
        rw (and_left (ltb b y) _ r) (ih (let n = eqb-false x y q in let g = ltb-false x y p in omega (arith, n)) (and_right (ltb b y) _ r))

pub insert_rises : (x : ℕ) (ys : List ℕ) → rising ys ≡ true → rising (insert_of x ys) ≡ true
unfolding rising rising_after insert_of
insert_rises x [] r = refl
insert_rises x (y ∷ ys) r = go (ltb x y) (eqb x y) refl refl
  where
    go : (l e : Bool) → ltb x y ≡ l → eqb x y ≡ e → rising (step_of x y ys l e) ≡ true
    go true e p q = simp (p) r
    go false true p q = r
    go false false p q = insert_after y x ys (let n = eqb-false x y q in let g = ltb-false x y p in omega (arith, n)) r

pub all_rise : (xs list : List ℕ) → rising list ≡ true → rising (insert_all_of xs list) ≡ true
unfolding insert_all_of
all_rise [] list r = r
all_rise (x ∷ xs) list r = all_rise xs (insert_of x list) (insert_rises x list r)

-- what a list holds
again : (a b : Bool) → (a || b) ≡ (a || (a || b))
again true b = refl
again false b = refl

or_swap : (a b c : Bool) → (a || (b || c)) ≡ (b || (a || c))
or_swap true true c = refl
or_swap true false c = refl
or_swap false true c = refl
or_swap false false c = refl

or_move : (a b c : Bool) → (a || (b || c)) ≡ ((b || a) || c)
or_move true true c = refl
or_move true false c = refl
or_move false true c = refl
or_move false false c = refl

module _ (k : ℕ) where
  insert_holds : (x : ℕ) (ys : List ℕ) → holds k (insert_of x ys) ≡ (eqb k x || holds k ys)
  unfolding holds insert_of
  insert_holds x [] = refl
  insert_holds x (y ∷ ys) = go (ltb x y) (eqb x y) refl (insert_holds x ys)
    where
      go : (l e : Bool) → eqb x y ≡ e → holds k (insert_of x ys) ≡ (eqb k x || holds k ys) → holds k (step_of x y ys l e) ≡ (eqb k x || (eqb k y || holds k ys))
      go true e q ih = refl
      go false true q ih = rw (eqb-true x y q) (again (eqb k y) (holds k ys))
      go false false q ih = ap (λ (t : Bool). eqb k y || t) ih ∙ or_swap (eqb k y) (eqb k x) (holds k ys)

  pub all_hold : (xs list : List ℕ) → holds k (insert_all_of xs list) ≡ (holds k xs || holds k list)
  unfolding holds insert_all_of
  all_hold [] list = refl
  all_hold (x ∷ xs) list =
      all_hold xs (insert_of x list) ∙ ap (λ (t : Bool). holds k xs || t) (insert_holds x list) ∙ or_move (holds k xs) (eqb k x) (holds k list)

-- the code's insertion, which carries the higher number on, is that insertion into a rising list
carry_first : (y : ℕ) (ys : List ℕ) → rising_after y ys ≡ true → carry_of y ys ≡ y ∷ ys
unfolding rising_after carry_of lower_of higher_of
carry_first y [] r = refl
carry_first y (z ∷ zs) r =
    let l = ltb-true y z (and_left (ltb y z) _ r) in
    simp (ne_eqb z y (λ e. omega arith), lt-ltb y z l) (ap (λ (t : List ℕ). y ∷ t) (carry_first z zs (and_right (ltb y z) _ r)))

pub rising_tail : (y : ℕ) (ys : List ℕ) → rising_after y ys ≡ true → rising ys ≡ true
unfolding rising_after rising
rising_tail y [] r = refl
rising_tail y (z ∷ zs) r = and_right (ltb y z) _ r

pub carry_inserts : (x : ℕ) (ys : List ℕ) → rising ys ≡ true → carry_of x ys ≡ insert_of x ys
unfolding rising carry_of insert_of lower_of higher_of
carry_inserts x [] r = refl
carry_inserts x (y ∷ ys) r = go (ltb x y) (eqb x y) refl refl (carry_inserts x ys (rising_tail y ys r))
  where
    go : (l e : Bool) → ltb x y ≡ l → eqb x y ≡ e → carry_of x ys ≡ insert_of x ys → carry_of x (y ∷ ys) ≡ step_of x y ys l e
    go true e p q ih =
        let l = ltb-true x y p in
        simp (ne_eqb y x (λ e. omega arith), p) (ap (λ (t : List ℕ). x ∷ t) (carry_first y ys r))
    go false true p q ih = let e = eqb-true x y q in simp (eq-eqb y x (sym e))
    go false false p q ih =
        let n = eqb-false x y q in
        simp (ne_eqb y x (λ e. omega (arith, n)), p) (ap (λ (t : List ℕ). y ∷ t) ih)
