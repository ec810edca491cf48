-- The loads of a bank's devices by their cells, one after the other.
use mathlib.Core.Path.{◌≡◌, refl, sym, ap, ◌∙◌, subst}
use mathlib.Core.Bool.{Bool, true, false, not, ◌||◌}
use mathlib.Core.List.{List, [], ◌∷◌}
use Prim.Native.Nat.{ℕ, ◌+◌, ◌≤◌, ◌<◌}
use native.Mathlib.Numerals.{add-one}
use lib.Dec.{eqb, ltb, leb}
use lib.ListN.{length, get_or, drop}
use lib.Ieee.{Float}
use borrow.Author.Tests.{ltb-false}
use Rattle.device.proofs.Rows.{number_0}
use Rattle.device.specs.Stages.{unevaluated}
use Rattle.loading.specs.Loading.{nodes_outside, alpha_outside}
use Rattle.loading.specs.declared.LoadKind.{LoadKind}
use Rattle.record_loading.specs.Load.{kind_from}
use Rattle.resolved_rows.specs.LoadResolved.{cells_held, resolved_row_of}
use Rattle.record_words.specs.Words.{record_of}
use Rattle.record_resolved.specs.Resolved.{resolved_side, resolved_matrix}
use Rattle.record_resolved.specs.Steps.{resolved_number}
use Rattle.bridge.specs.Runs.{any_of}
use Rattle.bridge.specs.Bridge.{Slices}
use Rattle.bridge.proofs.Runs.{neither}
use Rattle.device_bank.specs.Bank.{bank_good}
use Rattle.bank_resolved.specs.Resolved.{Celled, celled_of, celled_rows, load_celled, load_celled_in_order}
use Rattle.bank_resolved.specs.Steps.{celled_row}
use Rattle.bank_resolved.proofs.Celled.{celled_at, celled_here, no_device_left, load_good, by_row}

-- no row applies to any of the devices
pub record Passed (ls : List Celled) (k : LoadKind) (rows values : ℕ) : Type 0 where
  pub row_8 : any_of (λ (l : Celled). nodes_outside l.device.stage l.device.terminals rows (get_or l.cells 6 0)) ls ≡ false
  pub row_10 : any_of (λ (l : Celled). unevaluated l.device.stage) ls ≡ false
  pub row_11 : any_of (λ (l : Celled). alpha_outside l.device.disc k) ls ≡ false
  pub row_12 : any_of (λ (l : Celled). not (eqb values (get_or l.cells 7 0))) ls ≡ false
  pub row_13 : any_of (λ (l : Celled). not (cells_held l.cells l.device k values)) ls ≡ false

module _ (bank : List (List Float)) (k : LoadKind) (cells : List (List ℕ)) (rows values : ℕ) (e : celled_row bank k cells rows values ≡ 0) where
  abbrev ls : List Celled
  ls = celled_of bank cells

  none : (any_of (λ (l : Celled). nodes_outside l.device.stage l.device.terminals rows (get_or l.cells 6 0)) ls ≡ false)
      × ((any_of (λ (l : Celled). unevaluated l.device.stage) ls ≡ false)
      × ((any_of (λ (l : Celled). alpha_outside l.device.disc k) ls ≡ false)
      × ((any_of (λ (l : Celled). not (eqb values (get_or l.cells 7 0))) ls ≡ false)
      × (((any_of (λ (l : Celled). not (cells_held l.cells l.device k values)) ls || ltb (length cells) (length bank)) ≡ false) × Unit {0}))))
  unfolding celled_row
  none = number_0 (celled_rows ls (ltb (length cells) (length bank)) k rows values) tt e

  pub all_passed : Passed ls k rows values
  all_passed = record { row_8 = none.0; row_10 = none.1.0; row_11 = none.1.1.0; row_12 = none.1.1.1.0; row_13 = (neither _ (ltb (length cells) (length bank)) none.1.1.1.1.0).0 }

  pub enough_cells : length bank ≤ length cells
  enough_cells =
      ltb-false (length cells) (length bank)
      (neither (any_of (λ (l : Celled). not (cells_held l.cells l.device k values)) ls) _ none.1.1.1.1.0).1

split : (p : Celled → Bool) (l : Celled) (ls : List Celled) → any_of p (l ∷ ls) ≡ false → (p l ≡ false) × (any_of p ls ≡ false)
unfolding any_of
split p l ls e = neither (p l) (any_of p ls) e

module _ (l : Celled) (ls : List Celled) (k : LoadKind) (rows values : ℕ) (h : Passed (l ∷ ls) k rows values) where
  first_row : resolved_row_of l.device k l.cells rows values ≡ 0
  unfolding resolved_row_of
  first_row = rw ((split _ l ls h.row_8).0, (split _ l ls h.row_10).0, (split _ l ls h.row_11).0, (split _ l ls h.row_12).0, (split _ l ls h.row_13).0)

  rest_passed : Passed ls k rows values
  rest_passed = record {
    row_8 = (split _ l ls h.row_8).1;
    row_10 = (split _ l ls h.row_10).1;
    row_11 = (split _ l ls h.row_11).1;
    row_12 = (split _ l ls h.row_12).1;
    row_13 = (split _ l ls h.row_13).1;
  }

module _ (bank : List (List Float)) (cells : List (List ℕ)) (t : ℕ) (alpha : Float) (tags : bank_good bank ≡ true) (known : leb t 1 ≡ true) (i : ℕ) (h : i < length bank) (g : i < length cells) where
  abbrev k : LoadKind
  k = kind_from t alpha

  abbrev l : Celled
  l = celled_at bank cells i

  from_here : celled_of (drop i bank) (drop i cells) ≡ l ∷ celled_of (drop (i + 1) bank) (drop (i + 1) cells)
  from_here = celled_here bank cells i h g ∙ ap (λ (n : ℕ). l ∷ celled_of (drop n bank) (drop n cells)) (sym (add-one i))

  module _ (rows values : ℕ) (p : Passed (celled_of (drop i bank) (drop i cells)) k rows values) where
    here : Passed (l ∷ celled_of (drop (i + 1) bank) (drop (i + 1) cells)) k rows values
    here = subst (λ (ls : List Celled). Passed ls k rows values) from_here p

    pub here_accepted : resolved_number (record_of (get_or bank i [])) t alpha (get_or cells i []) rows values ≡ 0
    here_accepted = by_row bank t tags known i h alpha (get_or cells i []) rows values ∙ first_row l (celled_of (drop (i + 1) bank) (drop (i + 1) cells)) k rows values here

    pub later_passed : Passed (celled_of (drop (i + 1) bank) (drop (i + 1) cells)) k rows values
    later_passed = rest_passed l (celled_of (drop (i + 1) bank) (drop (i + 1) cells)) k rows values here

  made : (rhs values : List Float) → load_celled k l (record { side = rhs; matrix = values })
      ≡ record { side = resolved_side (record_of (get_or bank i [])) t alpha (get_or cells i []) rhs values; matrix = resolved_matrix (record_of (get_or bank i [])) t alpha (get_or cells i []) rhs values }
  unfolding load_celled resolved_side resolved_matrix
  made rhs values = rw (load_good bank t tags known i h) refl

  pub one_turn : (rhs values rhs' values' : List Float) → rhs' ≡ resolved_side (record_of (get_or bank i [])) t alpha (get_or cells i []) rhs values → values' ≡ resolved_matrix (record_of (get_or bank i [])) t alpha (get_or cells i []) rhs values
      → load_celled_in_order k (celled_of (drop i bank) (drop i cells)) (record { side = rhs; matrix = values })
      ≡ load_celled_in_order k (celled_of (drop (i + 1) bank) (drop (i + 1) cells)) (record { side = rhs'; matrix = values' })
  unfolding load_celled_in_order
  one_turn rhs values rhs' values' es em =
      ap (λ (ls : List Celled). load_celled_in_order k ls (record { side = rhs; matrix = values })) from_here
      ∙ ap (λ (s : Slices). load_celled_in_order k (celled_of (drop (i + 1) bank) (drop (i + 1) cells)) s) (made rhs values ∙ sym (λ j. record { side = es j; matrix = em j }))

pub last_turn : (bank : List (List Float)) (cells : List (List ℕ)) (i : ℕ) (k : LoadKind) (s : Slices) → length bank ≤ i → load_celled_in_order k (celled_of (drop i bank) (drop i cells)) s ≡ s
unfolding load_celled_in_order
last_turn bank cells i k s h = ap (λ (ls : List Celled). load_celled_in_order k ls s) (no_device_left bank cells i h)
