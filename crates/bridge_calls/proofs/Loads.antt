-- Both loads by their numbers.
use mathlib.Core.Path.{◌≡◌, refl, sym, ap, ◌∙◌}
use mathlib.Core.Bool.{Bool, true, false, cond}
use mathlib.Core.List.{List, [], ◌∷◌}
use Prim.Native.Nat.{ℕ, suc, ◌+◌, ◌-◌, ◌≤◌}
use native.Mathlib.Omega.{arith}
use lib.ListN.{length, get_or, drop, length-drop}
use lib.Seq.{length-take-le}
use lib.Ieee.{Float}
use Rattle.device.specs.Refusals.{Row, row_number, ◌when◌}
use Rattle.assembly.specs.Assembly.{Pattern}
use Rattle.loading.specs.declared.LoadKind.{LoadKind}
use Rattle.record_loading.specs.Load.{kind_from}
use Rattle.device_bank.specs.Bank.{devices_of, bank_row}
use Rattle.bridge.specs.Runs.{bridge_refused, block_refused}
use Rattle.bridge.specs.Bridge.{Slices, devices_rows, load_in_order, zeroed, bridge_rows, bridge_of, bridge_slices, part_of, with_part, block_rows, block_of, block_slices}
use Rattle.bridge.proofs.Runs.{RunInside, run_inside}
use Rattle.bridge_calls.specs.Calls.{good_loads, bridge_call, bridge_side, bridge_matrix, block_call, block_side, block_matrix}
use Rattle.bridge_calls.specs.Steps.{bridge_number, block_number}
use Rattle.bridge_calls.proofs.Answers.{refused_number, refused_slice, done_number, done_slice, accepted_good}

pub length_zeroed : (xs : List Float) → length (zeroed xs) ≡ length xs
unfolding zeroed
length_zeroed [] = refl
length_zeroed (x ∷ xs) = ap suc (length_zeroed xs)

pub behind_14 : (b : Bool) (more : List Row) → row_number ((14 when b) ∷ more) ≡ 0 → (b ≡ false) × (row_number more ≡ 0)
behind_14 true more e = absurd (omega arith)
behind_14 false more e = (refl, e)

-- ---- the whole bridge
module _ (bank : List (List Float)) (starts counts : List ℕ) (transient : ℕ) (alpha : Float) (P : Pattern) (rhs values : List Float) (n : ℕ)
    (is : n ≡ bridge_number bank starts counts transient alpha P (length rhs) (length values)) where
  abbrev rows : List Row
  rows = bridge_rows (devices_of bank) starts counts (kind_from transient alpha) P rhs values

  abbrev good : Bool
  good = good_loads bank transient

  by_rows : n ≡ cond good (row_number rows) 100
  unfolding bridge_number
  by_rows = is

  pub bridge_refused_lem : (n ≡ 0 → ⊥) → (n ≡ bridge_call bank starts counts transient alpha P rhs values) × ((rhs ≡ bridge_side bank starts counts transient alpha P rhs values) × (values ≡ bridge_matrix bank starts counts transient alpha P rhs values))
  unfolding bridge_call bridge_side bridge_matrix bridge_of
  bridge_refused_lem h = (
    by_rows ∙ refused_number rows tt good (λ e. h (by_rows ∙ e)),
    (
      refused_slice rows tt good (λ e. h (by_rows ∙ e)) _ rhs,
      refused_slice rows tt good (λ e. h (by_rows ∙ e)) _ values,
    ),
  )

  module _ (none : n ≡ 0) where
    zero : cond good (row_number rows) 100 ≡ 0
    zero = sym by_rows ∙ none

    pub bridge_done : (s : Slices) → s ≡ bridge_slices (devices_of bank) (kind_from transient alpha) P rhs values
        → (0 ≡ bridge_call bank starts counts transient alpha P rhs values) × ((s.side ≡ bridge_side bank starts counts transient alpha P rhs values) × (s.matrix ≡ bridge_matrix bank starts counts transient alpha P rhs values))
    unfolding bridge_call bridge_side bridge_matrix bridge_of
    bridge_done s e = (
      done_number rows tt good zero,
      (
        ap (λ (t : Slices). t.side) e ∙ done_slice rows tt good zero _ rhs,
        ap (λ (t : Slices). t.matrix) e ∙ done_slice rows tt good zero _ values,
      ),
    )

    pub bridge_slices_lem : (k : LoadKind) (side matrix : List Float) (s : Slices) → k ≡ kind_from transient alpha → side ≡ zeroed rhs → matrix ≡ zeroed values
        → s ≡ load_in_order k P (devices_of bank) (record { side = side; matrix = matrix }) → s ≡ bridge_slices (devices_of bank) (kind_from transient alpha) P rhs values
    unfolding bridge_slices
    bridge_slices_lem k side matrix s ek es em e = e ∙ rw (ek, es, em) refl

    pub bridge_rows_lem : (k : LoadKind) (side matrix : ℕ) → k ≡ kind_from transient alpha → side ≡ length rhs → matrix ≡ length values → bank_row bank k P side matrix ≡ 0
    unfolding bank_row
    bridge_rows_lem k side matrix ek es em =
        rw (ek, es, em)
        (behind_14 (bridge_refused starts counts (length rhs) (length (devices_of bank))) (devices_rows (devices_of bank) (kind_from transient alpha) P (length rhs) (length values))
        (accepted_good rows tt good zero)).1

-- ---- a block
-- a part's count, by its end
pub count_of : (start count : ℕ) → start + count - start ≡ count
count_of start count = omega arith

pub length_part : (start count : ℕ) (xs : List Float) → start + count ≤ length xs → length (part_of start count xs) ≡ count
length_part start count xs h = length-take-le count (drop start xs) (omega (arith, length-drop start xs))

module _ (bank : List (List Float)) (block : ℕ) (starts counts : List ℕ) (transient : ℕ) (alpha : Float) (P : Pattern) (rhs values : List Float) (n : ℕ)
    (is : n ≡ block_number bank block starts counts transient alpha P (length rhs) (length values)) where
  abbrev block_rows_here : List Row
  block_rows_here = block_rows (devices_of bank) block starts counts (kind_from transient alpha) P rhs values

  abbrev block_good : Bool
  block_good = good_loads bank transient

  by_block_rows : n ≡ cond block_good (row_number block_rows_here) 100
  unfolding block_number
  by_block_rows = is

  pub block_refused_lem : (n ≡ 0 → ⊥) → (n ≡ block_call bank block starts counts transient alpha P rhs values) × ((rhs ≡ block_side bank block starts counts transient alpha P rhs values) × (values ≡ block_matrix bank block starts counts transient alpha P rhs values))
  unfolding block_call block_side block_matrix block_of
  block_refused_lem h = (
    by_block_rows ∙ refused_number block_rows_here tt block_good (λ e. h (by_block_rows ∙ e)),
    (
      refused_slice block_rows_here tt block_good (λ e. h (by_block_rows ∙ e)) _ rhs,
      refused_slice block_rows_here tt block_good (λ e. h (by_block_rows ∙ e)) _ values,
    ),
  )

  module _ (none : n ≡ 0) where
    block_zero : cond block_good (row_number block_rows_here) 100 ≡ 0
    block_zero = sym by_block_rows ∙ none

    behind : (block_refused block starts counts (length rhs) (length (devices_of bank)) ≡ false) × (row_number (devices_rows (devices_of bank) (kind_from transient alpha) P (get_or counts block 0) (length values)) ≡ 0)
    behind =
        behind_14 (block_refused block starts counts (length rhs) (length (devices_of bank))) (devices_rows (devices_of bank) (kind_from transient alpha) P (get_or counts block 0) (length values))
        (accepted_good block_rows_here tt block_good block_zero)

    pub block_run : RunInside block starts counts (length rhs)
    block_run = run_inside block starts counts (length rhs) (length (devices_of bank)) behind.0

    pub block_done : (s : Slices) → s ≡ block_slices (devices_of bank) block starts counts (kind_from transient alpha) P rhs values
        → (0 ≡ block_call bank block starts counts transient alpha P rhs values) × ((with_part (get_or starts block 0) (get_or counts block 0) s.side rhs ≡ block_side bank block starts counts transient alpha P rhs values) × (s.matrix ≡ block_matrix bank block starts counts transient alpha P rhs values))
    unfolding block_call block_side block_matrix block_of
    block_done s e = (
      done_number block_rows_here tt block_good block_zero,
      (
        ap (λ (t : Slices). with_part (get_or starts block 0) (get_or counts block 0) t.side rhs) e ∙ done_slice block_rows_here tt block_good block_zero _ rhs,
        ap (λ (t : Slices). t.matrix) e ∙ done_slice block_rows_here tt block_good block_zero _ values,
      ),
    )

    pub block_slices_lem : (k : LoadKind) (part : List Float) (s : Slices) → k ≡ kind_from transient alpha → part ≡ part_of (get_or starts block 0) (get_or counts block 0) rhs
        → s ≡ load_in_order k P (devices_of bank) (record { side = part; matrix = values }) → s ≡ block_slices (devices_of bank) block starts counts (kind_from transient alpha) P rhs values
    unfolding block_slices
    block_slices_lem k part s ek ep e = e ∙ rw (ek, ep) refl

    pub block_rows_lem : (k : LoadKind) (part : ℕ) → k ≡ kind_from transient alpha → part ≡ get_or counts block 0 → bank_row bank k P part (length values) ≡ 0
    unfolding bank_row
    block_rows_lem k part ek ep = rw (ek, ep) behind.1
