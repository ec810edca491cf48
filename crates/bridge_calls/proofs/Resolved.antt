-- The load by cells by its number.
use mathlib.Core.Path.{◌≡◌, refl, sym, ap, ◌∙◌}
use mathlib.Core.Bool.{Bool, true, false, cond, ◌&&◌}
use mathlib.Core.List.{List, ◌∷◌}
use Prim.Native.Nat.{ℕ, ◌≤◌}
use native.Mathlib.Omega.{arith}
use lib.Dec.{ltb, leb}
use lib.ListN.{length}
use lib.Ieee.{Float}
use Rattle.device.specs.Refusals.{Row, row_number, ◌when◌}
use Rattle.record_loading.specs.Load.{kind_from}
use Rattle.device_bank.specs.Bank.{bank_good}
use Rattle.bridge.specs.Runs.{bridge_refused}
use Rattle.bridge.specs.Bridge.{Slices, zeroed}
use Rattle.bank_resolved.specs.Resolved.{celled_of, celled_rows, load_celled_in_order, bridge_celled_rows, bridge_celled_of, bridge_celled_slices}
use Rattle.bank_resolved.specs.Steps.{celled_row}
use Rattle.bridge_calls.specs.Calls.{good_loads, resolved_bridge_call, resolved_bridge_side, resolved_bridge_matrix}
use Rattle.bridge_calls.specs.Steps.{resolved_bridge_number}
use Rattle.bridge_calls.proofs.Numbers.{known}
use Rattle.bridge_calls.proofs.Answers.{refused_number, refused_slice, done_number, done_slice}
use Rattle.bridge_calls.proofs.Loads.{behind_14}

-- ---- its number, behind the tags and the kind
module _ (bank : List (List Float)) (starts counts : List ℕ) (transient : ℕ) (alpha : Float) (cells : List (List ℕ)) (rows values : ℕ)
    (g : Bool) (is : g ≡ bank_good bank) (tags : g ≡ true) (kind : transient ≤ 1) (b : Bool) (tested : b ≡ bridge_refused starts counts rows (length bank)) where
  abbrev more : List Row
  more = celled_rows (celled_of bank cells) (ltb (length cells) (length bank)) (kind_from transient alpha) rows values

  pub resolved_14 : b ≡ true → 14 ≡ resolved_bridge_number bank starts counts transient alpha cells rows values
  unfolding resolved_bridge_number
  resolved_14 t =
      ap (λ (x : Bool). cond x 14 (row_number more)) (sym (sym tested ∙ t)) ∙ known bank transient g is (row_number ((14 when bridge_refused starts counts rows (length bank)) ∷ more)) tags kind

  pub resolved_row : b ≡ false → celled_row bank (kind_from transient alpha) cells rows values ≡ resolved_bridge_number bank starts counts transient alpha cells rows values
  unfolding resolved_bridge_number celled_row
  resolved_row f =
      ap (λ (x : Bool). cond x 14 (row_number more)) (sym (sym tested ∙ f)) ∙ known bank transient g is (row_number ((14 when bridge_refused starts counts rows (length bank)) ∷ more)) tags kind

both : (a b : Bool) (n : ℕ) → cond (a && b) n 100 ≡ 0 → (a ≡ true) × ((b ≡ true) × (n ≡ 0))
both true true n e = (refl, (refl, e))
both true false n e = absurd (omega arith)
both false b n e = absurd (omega arith)

-- ---- what it answers and leaves
module _ (bank : List (List Float)) (starts counts : List ℕ) (transient : ℕ) (alpha : Float) (cells : List (List ℕ)) (rhs values : List Float) (n : ℕ)
    (is : n ≡ resolved_bridge_number bank starts counts transient alpha cells (length rhs) (length values)) where
  abbrev rows : List Row
  rows = bridge_celled_rows bank starts counts (kind_from transient alpha) cells rhs values

  abbrev good : Bool
  good = good_loads bank transient

  by_rows : n ≡ cond good (row_number rows) 100
  unfolding resolved_bridge_number
  by_rows = is

  pub resolved_refused : (n ≡ 0 → ⊥) → (rhs' values' : List Float) → rhs' ≡ rhs → values' ≡ values
      → (n ≡ resolved_bridge_call bank starts counts transient alpha cells rhs values) × ((rhs' ≡ resolved_bridge_side bank starts counts transient alpha cells rhs values) × (values' ≡ resolved_bridge_matrix bank starts counts transient alpha cells rhs values))
  unfolding resolved_bridge_call resolved_bridge_side resolved_bridge_matrix bridge_celled_of
  resolved_refused h rhs' values' er ev = (
    by_rows ∙ refused_number rows tt good (λ e. h (by_rows ∙ e)),
    (
      er ∙ refused_slice rows tt good (λ e. h (by_rows ∙ e)) _ rhs,
      ev ∙ refused_slice rows tt good (λ e. h (by_rows ∙ e)) _ values,
    ),
  )

  module _ (none : n ≡ 0) where
    zero : cond good (row_number rows) 100 ≡ 0
    zero = sym by_rows ∙ none

    passed : (bank_good bank ≡ true) × ((leb transient 1 ≡ true) × (row_number rows ≡ 0))
    unfolding good_loads
    passed = both (bank_good bank) (leb transient 1) (row_number rows) zero

    pub resolved_rows : (side matrix : ℕ) → side ≡ length rhs → matrix ≡ length values → (bank_good bank ≡ true) × ((leb transient 1 ≡ true) × (celled_row bank (kind_from transient alpha) cells side matrix ≡ 0))
    unfolding celled_row
    resolved_rows side matrix es em = (
      passed.0,
      (
        passed.1.0,
        rw (es, em)
            (behind_14 (bridge_refused starts counts (length rhs) (length bank)) (celled_rows (celled_of bank cells) (ltb (length cells) (length bank)) (kind_from transient alpha) (length rhs) (length values)) passed.1.1).1,
      ),
    )

    pub resolved_done : (side matrix : List Float) (s : Slices) → side ≡ zeroed rhs → matrix ≡ zeroed values → s ≡ load_celled_in_order (kind_from transient alpha) (celled_of bank cells) (record { side = side; matrix = matrix })
        → (0 ≡ resolved_bridge_call bank starts counts transient alpha cells rhs values) × ((s.side ≡ resolved_bridge_side bank starts counts transient alpha cells rhs values) × (s.matrix ≡ resolved_bridge_matrix bank starts counts transient alpha cells rhs values))
    unfolding resolved_bridge_call resolved_bridge_side resolved_bridge_matrix bridge_celled_of bridge_celled_slices
    resolved_done side matrix s es em e =
        let made : s ≡ bridge_celled_slices bank (kind_from transient alpha) cells rhs values = e ∙ rw (es, em) refl in (
          done_number rows tt good zero,
          (
            ap (λ (t : Slices). t.side) made ∙ done_slice rows tt good zero _ rhs,
            ap (λ (t : Slices). t.matrix) made ∙ done_slice rows tt good zero _ values,
          ),
        )
