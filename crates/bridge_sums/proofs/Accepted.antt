-- What acceptance says: no row of a load applies to any of the devices, on the slices before the first of them; and a tested block's run
-- lies inside the right-hand side.
use Prim.Native.Nat.{ℕ, zero, suc, ◌+◌, ◌≤◌, ◌<◌}
use mathlib.Core.Path.{◌≡◌, refl, sym, ap, ◌∙◌}
use mathlib.Core.Bool.{Bool, true, false, not, ◌||◌}
use mathlib.Core.List.{List, [], ◌∷◌}
use native.Mathlib.Nat.{le_of_suc-le-suc, not-suc-le-zero}
use native.Mathlib.Omega.{arith}
use lib.ListN.{length, get_or, drop, length-drop}
use lib.Seq.{length-take-le}
use lib.Dec.{eqb, leb, ltb}
use lib.Ieee.{Float, nan}
use borrow.Author.Tests.{not-false, eqb-true, leb-false, ltb-false}
use Rattle.exact.specs.Float64.{+0}
use Rattle.pattern.specs.Pattern.{well_formed}
use Rattle.device.specs.Refusals.{done}
use Rattle.device.specs.declared.Mosfet1.{Mosfet1}
use Rattle.device.proofs.Rows.{passed}
use Rattle.assembly.specs.Assembly.{Pattern}
use Rattle.loading.specs.declared.LoadKind.{LoadKind}
use Rattle.column_sums.proofs.Entries.{or_left, or_right}
use Rattle.bridge.specs.Runs.{any_of, any_overlap, leaves, runs_of, bad_runs, most_devices, bridge_refused, block_refused}
use Rattle.bridge.specs.Bridge.{zeroed, bridge_rows, bridge_of, part_of, block_rows, block_of}
use Rattle.bridge.proofs.Runs.{no_run, length_runs, run_at}
use Rattle.bridge_sums.proofs.InOrder.{NoRow, not_first, not_behind}

-- ---- zeroing
pub length_zeroed : (xs : List Float) → length (zeroed xs) ≡ length xs
unfolding zeroed
length_zeroed [] = refl
length_zeroed (x ∷ xs) = ap suc (length_zeroed xs)

pub entry_zeroed : (xs : List Float) (i : ℕ) → i < length xs → get_or (zeroed xs) i nan ≡ +0
unfolding zeroed
entry_zeroed [] i h = absurd (not-suc-le-zero h)
entry_zeroed (x ∷ xs) zero h = refl
entry_zeroed (x ∷ xs) (suc i) h = entry_zeroed xs i (le_of_suc-le-suc h)

-- ---- the runs
not_at : {A : Type 0} (p : A → Bool) (xs : List A) (none : A) → any_of p xs ≡ false → (i : ℕ) → i < length xs → p (get_or xs i none) ≡ false
not_at p [] none e i h = absurd (not-suc-le-zero h)
not_at p (x ∷ xs) none e zero h = not_first p x xs e
not_at p (x ∷ xs) none e (suc i) h = not_at p xs none (not_behind p x xs e) i (le_of_suc-le-suc h)

module _ (starts counts : List ℕ) (rows : ℕ) (good : bad_runs starts counts rows ≡ false) where
  outer : (not (eqb (length starts) (length counts)) || any_of (leaves rows) (runs_of starts counts)) ≡ false
  unfolding bad_runs
  outer = or_left _ (any_overlap (runs_of starts counts)) good

  same_count : length starts ≡ length counts
  same_count = eqb-true (length starts) (length counts) (not-false _ (or_left _ (any_of (leaves rows) (runs_of starts counts)) outer))

  none_leaves : any_of (leaves rows) (runs_of starts counts) ≡ false
  none_leaves = or_right (not (eqb (length starts) (length counts))) _ outer

  run_inside : (block : ℕ) → block < length starts → get_or starts block 0 + get_or counts block 0 ≤ rows
  unfolding leaves
  run_inside block h =
      let run : get_or (runs_of starts counts) block no_run ≡ record { start = get_or starts block 0; count = get_or counts block 0 } = run_at starts counts same_count block h in
      let below : block < length (runs_of starts counts) = omega (arith, length_runs starts counts same_count) in
      ltb-false rows (get_or starts block 0 + get_or counts block 0) (sym (ap (leaves rows) run) ∙ not_at (leaves rows) (runs_of starts counts) no_run none_leaves block below)

-- ---- the bridge
module _ (ds : List Mosfet1) (starts counts : List ℕ) (k : LoadKind) (P : Pattern) (rhs values : List Float) (accepted : bridge_of ds starts counts k P rhs values ≡ done tt) where
  rows_pass : NoRow k P (length rhs) (length values) ds
  unfolding bridge_of
  rows_pass = (passed (bridge_rows ds starts counts k P rhs values) accepted).0.1

  pub bridge_passes : NoRow k P (length (zeroed rhs)) (length (zeroed values)) ds
  bridge_passes = rw (length_zeroed rhs, length_zeroed values) rows_pass

  pub bridge_well : well_formed P.columns P.offsets P.lengths (length values) ≡ true
  bridge_well = not-false _ rows_pass.1.1.1.0

-- ---- a block
module _ (ds : List Mosfet1) (block : ℕ) (starts counts : List ℕ) (k : LoadKind) (P : Pattern) (rhs values : List Float) (accepted : block_of ds block starts counts k P rhs values ≡ done tt) where
  abbrev start : ℕ
  start = get_or starts block 0

  abbrev count : ℕ
  count = get_or counts block 0

  row_14 : block_refused block starts counts (length rhs) (length ds) ≡ false
  unfolding block_of
  row_14 = (passed (block_rows ds block starts counts k P rhs values) accepted).0.0

  own_rows_pass : NoRow k P count (length values) ds
  unfolding block_of
  own_rows_pass = (passed (block_rows ds block starts counts k P rhs values) accepted).0.1

  pub run_fits : start + count ≤ length rhs
  unfolding block_refused bridge_refused
  run_fits =
      run_inside starts counts (length rhs)
      (or_right (ltb most_devices (length ds)) _ (or_left _ (leb (length starts) block) row_14))
      block
      (leb-false (length starts) block (or_right (bridge_refused starts counts (length rhs) (length ds)) _ row_14))

  pub length_part : length (part_of start count rhs) ≡ count
  length_part = length-take-le count (drop start rhs) (omega (arith, run_fits, length-drop start rhs))

  pub block_passes : NoRow k P (length (part_of start count rhs)) (length values) ds
  block_passes = rw length_part own_rows_pass

  pub block_well : well_formed P.columns P.offsets P.lengths (length values) ≡ true
  block_well = not-false _ own_rows_pass.1.1.1.0
