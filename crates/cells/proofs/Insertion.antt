-- Laws of the insertion's loop: numbers already passed, then the insertion of the number that is carried.
use mathlib.Core.Path.{◌≡◌, refl, sym, ap, ◌∙◌, subst}
use mathlib.Core.Bool.{Bool, true, false, ◌&&◌}
use mathlib.Core.List.{List, [], ◌∷◌, ◌++◌}
use Prim.Native.Nat.{ℕ, suc, ◌+◌, ◌-◌, ◌≤◌, ◌<◌}
use native.Mathlib.Numerals.{add-one}
use native.Mathlib.Omega.{arith}
use lib.ListN.{length, get_or, take, drop, set, replicate, take-append-drop, drop_of_length-le}
use lib.Seq.{slice, slice_empty, slice-cons, drop-cons, take-suc-set, take-set-lt, drop-set-lt, append_snoc, take-take, drop-drop, length-take-le}
use Rattle.std.proofs.Common.{min, max, cond, ltb}
use borrow.Author.Tests.{eq-eqb, ne_eqb, lt-ltb, le-ltb, ltb-true, ltb-false}
use Rattle.cells.specs.Cells.{row_width, cell_number, Listed}
use Rattle.cells.specs.Steps.{carry_of, lower_of, higher_of, carry_cell_of, carry_cells_of}

-- the lower and the higher of two numbers by one test
lower_by : (x y : ℕ) (b : Bool) → ltb x y ≡ b → min x y ≡ cond b x y
lower_by x y true e = omega (arith, ltb-true x y e)
lower_by x y false e = omega (arith, ltb-false x y e)

higher_by : (x y : ℕ) (b : Bool) → ltb x y ≡ b → max x y ≡ cond b y x
higher_by x y true e = omega (arith, ltb-true x y e)
higher_by x y false e = omega (arith, ltb-false x y e)

pub lower_is : (x y m : ℕ) → m ≡ min x y → m ≡ lower_of x y
unfolding lower_of
lower_is x y m e = e ∙ lower_by x y (ltb x y) refl

pub higher_is : (x y m : ℕ) → m ≡ max x y → m ≡ higher_of x y
unfolding higher_of
higher_is x y m e = e ∙ higher_by x y (ltb x y) refl

abbrev pub state : List ℕ → ℕ → ℕ → ℕ → List ℕ
state numbers count carried i = take i numbers ++ carry_of carried (slice i count numbers)

module _ (numbers : List ℕ) (count carried i : ℕ) (h : i < count) (inside : count ≤ length numbers) where
  pub met : get_or numbers i 0 ≡ carried → take count numbers ≡ state numbers count carried i
  unfolding carry_of
  met e =
      sym
      (rw (slice-cons i count numbers 0 h inside)
      (simp (eq-eqb (get_or numbers i 0) carried e)
      (rw (← slice-cons i count numbers 0 h inside, ← take-take i count numbers (omega arith)) (take-append-drop i (take count numbers)))))

  rest : (x : ℕ) → slice (suc i) count (set numbers i x) ≡ slice (suc i) count numbers
  rest x = ap (drop (suc i)) (take-set-lt count numbers i x h) ∙ drop-set-lt (suc i) (take count numbers) i x (omega arith)

  passed : (x : ℕ) → take (suc i) (set numbers i x) ≡ take i numbers ++ (x ∷ [])
  passed x = take-suc-set numbers i x (omega arith)

  open_step : (get_or numbers i 0 ≡ carried → ⊥)
      → carry_of carried (slice i count numbers) ≡ lower_of carried (get_or numbers i 0) ∷ carry_of (higher_of carried (get_or numbers i 0)) (slice (suc i) count numbers)
  unfolding carry_of
  open_step n = rw (slice-cons i count numbers 0 h inside) (simp (ne_eqb (get_or numbers i 0) carried n))

  pub carry_on : (x y : ℕ) → (get_or numbers i 0 ≡ carried → ⊥) → x ≡ lower_of carried (get_or numbers i 0) → y ≡ higher_of carried (get_or numbers i 0)
      → state (set numbers i x) count y (i + 1) ≡ state numbers count carried i
  carry_on x y n ex ey =
      rw (add-one, rest x, passed x, open_step n, append_snoc, ex, ey)

pub at_end : (numbers : List ℕ) (count carried i : ℕ) → i ≡ count → count < length numbers → take (count + 1) (set numbers count carried) ≡ state numbers count carried i
unfolding carry_of
at_end numbers count carried i e h = rw (e, add-one, slice_empty, take-suc-set numbers count carried h)

pub and_no : (a : Bool) → (a && false) ≡ false
and_no true = refl
and_no false = refl

-- a cell by its indices
module _ (r c : ℕ) (xs : List ℕ) where
  pub skip_row : row_width ≤ r → xs ≡ carry_cell_of r c xs
  unfolding carry_cell_of
  skip_row h = simp (le-ltb r row_width h)

  pub skip_column : row_width ≤ c → xs ≡ carry_cell_of r c xs
  unfolding carry_cell_of
  skip_column h = simp (le-ltb c row_width h, and_no)

  pub put_cell : r < row_width → c < row_width → carry_of (cell_number r c) xs ≡ carry_cell_of r c xs
  unfolding carry_cell_of
  put_cell h k = simp (lt-ltb r row_width h, lt-ltb c row_width k)

-- the cells from index i on
pub cells_more : (rs cs xs : List ℕ) (i : ℕ) → i < length rs → i < length cs
    → carry_cells_of (drop i rs) (drop i cs) xs ≡ carry_cells_of (drop (i + 1) rs) (drop (i + 1) cs) (carry_cell_of (get_or rs i 0) (get_or cs i 0) xs)
unfolding carry_cells_of
cells_more rs cs xs i h k = rw (add-one, drop-cons rs i 0 h, drop-cons cs i 0 k)

pub cells_end : (rs cs xs : List ℕ) (i : ℕ) → length rs ≤ i → carry_cells_of (drop i rs) (drop i cs) xs ≡ xs
unfolding carry_cells_of
cells_end rs cs xs i h = rw (drop_of_length-le rs h)

-- what two lists have behind a place they have behind a later one
pub further : (n m : ℕ) (xs ys : List ℕ) → n ≤ m → drop n xs ≡ drop n ys → drop m xs ≡ drop m ys
further n m xs ys h e =
    let at : n + (m - n) ≡ m = omega arith in
    subst (λ (k : ℕ). drop k xs ≡ drop k ys) at (sym (drop-drop (m - n) n xs) ∙ ap (drop (m - n)) e ∙ drop-drop (m - n) n ys)

-- the first count numbers are the list, and behind them are ones
pub listed : (xs numbers : List ℕ) (count : ℕ) → take count numbers ≡ xs → count ≤ length numbers → drop count numbers ≡ drop count (replicate 44 1) → Listed xs numbers count
listed xs numbers count e h k =
    let n : count ≡ length xs = sym (length-take-le count numbers h) ∙ ap length e in
    record {
      counted = n;
      whole = sym (take-append-drop count numbers) ∙ ap (λ (ys : List ℕ). ys ++ drop count numbers) e ∙ ap (λ (ys : List ℕ). xs ++ ys) (k ∙ ap (λ (m : ℕ). drop m (replicate 44 1)) n);
    }
