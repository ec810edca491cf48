-- Laws of lookups in a row's part of the columns.
use mathlib.Core.Path.{◌≡◌, refl, sym, ap, ◌∙◌}
use mathlib.Core.Bool.{Bool, true, false, cond}
use mathlib.Core.List.{List, ◌∷◌}
use Prim.Native.Nat.{ℕ, ◌+◌, ◌^◌, ◌≤◌, ◌<◌}
use native.Mathlib.Omega.{arith}
use lib.ListN.{length, get_or, get_or-eq_default}
use lib.Seq.{slice}
use lib.Dec.{eqb}
use borrow.Author.Tests.{ne_eqb, eq-eqb, eqb-true}
use Rattle.pattern.specs.Pattern.{well_formed, place_in, cell_of, span_of, guess_of}
use Rattle.pattern.specs.declared.RowSpan.{RowSpan}
use Rattle.std.specs.Prelude.{Option, Some}
use Rattle.pattern.proofs.Spans.{part_known, cell_in_span, guess_right}
use Rattle.device.specs.declared.NodeId.TheVariants.{Ground, At}
use Rattle.places.specs.Places.{Pattern, found_place, place_of, skipped_number, place_number, number_of, node_at, SpanIn, IsRow, span_number}

-- two lists that agree in the first element and in the rest
infixr 5 ◌∷≡◌
pub ◌∷≡◌ : {A : Type 0} {x y : A} {xs ys : List A} → x ≡ y → xs ≡ ys → x ∷ xs ≡ y ∷ ys
◌∷≡◌ {A} {x} {y} {xs} {ys} e es = ap (λ (a : A). a ∷ xs) e ∙ ap (λ (zs : List A). y ∷ zs) es

-- a row's part, as a lookup wants it
pub span_in : (P : Pattern) (row : ℕ) (span : RowSpan) → well_formed P.columns P.offsets P.lengths (length P.columns) ≡ true → length P.lengths ≤ skipped_number
    → span ≡ span_of P.columns P.offsets P.lengths row → SpanIn P.columns row span.from span.len
unfolding span_of
span_in P row span well room s =
    let part = part_known P.columns P.offsets P.lengths well row span s in
    record {
      within = part.within;
      rises = part.rises;
      empty = λ e. ap (λ (y : RowSpan). y.len) s ∙ get_or-eq_default P.lengths 0 (omega arith);
    }

by_tests : (P : Pattern) (r c : ℕ) (f : Option ℕ) → f ≡ cell_of P.columns P.offsets P.lengths r c → (b1 b2 : Bool)
    → cond b1 skipped_number (cond b2 skipped_number (place_number (found_place f))) ≡ number_of P (cond b1 Ground (At r)) (cond b2 Ground (At c))
unfolding place_of place_number
by_tests P r c f e true b2 = refl
by_tests P r c f e false true = refl
by_tests P r c f e false false = ap (λ (g : Option ℕ). place_number (found_place g)) e

-- the place in a row's part is that of the cell
pub span_number_lem : (P : Pattern) (row : ℕ) (span : RowSpan) (column : ℕ) → span ≡ span_of P.columns P.offsets P.lengths row
    → span_number P.columns row span.from span.len column ≡ number_of P (node_at row) (node_at column)
unfolding span_number node_at
span_number_lem P row span column s =
    by_tests P row column (place_in span.from (slice span.from (span.from + span.len) P.columns) column)
    (cell_in_span P.columns P.offsets P.lengths row column span s) (eqb row skipped_number) (eqb column skipped_number)

-- the same by what a row is
pub row_number : {P : Pattern} {n : ℕ} {columns : List ℕ} {node : ℕ} {span : RowSpan} → IsRow P n columns node span → (column : ℕ)
    → span_number columns node span.from span.len column ≡ number_of P (node_at n) (node_at column)
row_number {P} {n} {columns} {node} {span} r column = rw (r.columns_are, r.node_is) (span_number_lem P n span column r.span_is)

-- a place known from the same node
pub same_place : (b : Bool) (known number wanted : ℕ) → (b ≡ true → known ≡ wanted) → number ≡ wanted → cond b known number ≡ wanted
same_place true known number wanted f e = f refl
same_place false known number wanted f e = e

module _ (columns : List ℕ) (row from len column : ℕ) where
  pub row_skipped : row ≡ skipped_number → skipped_number ≡ span_number columns row from len column
  unfolding span_number
  row_skipped e = simp (eq-eqb row skipped_number e)

  pub column_skipped : (row ≡ skipped_number → ⊥) → column ≡ skipped_number → skipped_number ≡ span_number columns row from len column
  unfolding span_number
  column_skipped r e = simp (ne_eqb row skipped_number r, eq-eqb column skipped_number e)

  pub number_found : (f : Option ℕ) → (row ≡ skipped_number → ⊥) → (column ≡ skipped_number → ⊥)
      → f ≡ place_in from (slice from (from + len) columns) column → place_number (found_place f) ≡ span_number columns row from len column
  unfolding span_number
  number_found f r c e = simp (ne_eqb row skipped_number r, ne_eqb column skipped_number c) (ap (λ (g : Option ℕ). place_number (found_place g)) e)

  -- a guess that names a place is right, in columns of 32 bits
  pub number_guessed : SpanIn columns row from len → column < 2 ^ 32 → (first p : ℕ)
      → guess_of columns from len first column ≡ Some p → p ≡ span_number columns row from len column
  unfolding place_number found_place
  number_guessed s narrow first p e =
      let g = guess_right columns from len first column p s.within s.rises e in
      number_found (Some p) (λ q. omega (arith, s.empty q, g.some)) (λ q. omega (arith, q, narrow)) (sym g.right)

-- the place of a cell of two nodes x and i, which is known where the two are the same
pub same_node_lem : (P : Pattern) (x i known number row column : ℕ) → known ≡ number_of P (node_at i) (node_at i) → (x ≡ i → row ≡ i) → (x ≡ i → column ≡ i)
    → number ≡ number_of P (node_at row) (node_at column) → cond (eqb x i) known number ≡ number_of P (node_at row) (node_at column)
same_node_lem P x i known number row column k r c e =
    same_place (eqb x i) known number (number_of P (node_at row) (node_at column))
    (λ q. let same = eqb-true x i q in rw (r same, c same) k) e
